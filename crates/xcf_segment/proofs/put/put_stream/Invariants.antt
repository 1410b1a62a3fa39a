-- The invariant is `StoreLeft` of the segments' bytes; a turn is `store_turn` at the segment that came and the bytes that were put.
use Rattle.xcf_numbers.specs.Limit.{stream_limit}
use Rattle.xcf_segment.specs.Parts.{segments_left}
use Rattle.xcf_segment.specs.Segment.{segments, segment_bytes}
use Rattle.xcf_segment.proofs.PiecesLoop.{StoreLeft}
use Rattle.xcf_segment.proofs.SegmentsWithin.{Within}
use Rattle.xcf_segment.proofs.put.put_stream.Given as goal

abbrev pub invariant-loop-segment : goal.invariant-loop-segment
invariant-loop-segment l = StoreLeft segment_bytes (Within stream_limit) (segments l.stream) l.initial.output (segments_left l.segment-iterator) l.output
