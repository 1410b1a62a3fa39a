-- The invariant is `SizeLeft` of the streams' encodings; a turn is `size_turn` at the stream that came.
use Rattle.xcf_segment.specs.Segment.{encode_stream}
use Rattle.xcf_segment.proofs.PiecesLoop.{SizeLeft}
use Rattle.xcf_encode.specs.Streams.{streams_left}
use Rattle.xcf_encode.proofs.Parts.{Short}
use Rattle.xcf_encode.proofs.streams.Streams.encoded_size.Given as goal

abbrev pub invariant-loop-stream : goal.invariant-loop-stream
invariant-loop-stream l = SizeLeft encode_stream Short (streams_left l.fn.self) 0 (streams_left l.stream-iterator) l.size
