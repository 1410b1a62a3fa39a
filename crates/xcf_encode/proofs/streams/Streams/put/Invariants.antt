-- The invariant is `StoreLeft` of the streams' encodings; a turn is `store_turn` at the stream that came and the bytes that were put.
use Rattle.xcf_segment.specs.Segment.{encode_stream}
use Rattle.xcf_segment.proofs.PiecesLoop.{StoreLeft}
use Rattle.xcf_encode.specs.Streams.{streams_left}
use Rattle.xcf_encode.proofs.Parts.{Short}
use Rattle.xcf_encode.proofs.streams.Streams.put.Given as goal

abbrev pub invariant-loop-stream : goal.invariant-loop-stream
invariant-loop-stream l = StoreLeft encode_stream Short (streams_left l.fn.self) l.initial.output (streams_left l.stream-iterator) l.output
