-- The invariant is `SizeLeft` of the segments' bytes; a turn is `size_turn` at the segment that came.
use Rattle.xcf_numbers.specs.Limit.{stream_limit}
use Rattle.xcf_segment.specs.Parts.{segments_left}
use Rattle.xcf_segment.specs.Segment.{segments, segment_bytes}
use Rattle.xcf_segment.proofs.PiecesLoop.{SizeLeft}
use Rattle.xcf_segment.proofs.SegmentsWithin.{Within}
use Rattle.xcf_segment.proofs.measure.encoded_size.Given as goal

abbrev pub invariant-loop-segment : goal.invariant-loop-segment
invariant-loop-segment l = SizeLeft segment_bytes (Within stream_limit) (segments l.stream) 0 (segments_left l.segment-iterator) l.size
