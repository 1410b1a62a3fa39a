-- The invariant is `SizeLeft` of the streams' encodings; a turn is `size_turn` at the stream that came.
use Rattle.std.proofs.Common.{arith}
use Rattle.xcf_segment.proofs.PiecesLoop.{size_start, size_turn, size_whole}
use Rattle.xcf_encode.proofs.Parts.{parts_short, parts_small}
use Rattle.xcf_encode.proofs.streams.Streams.encoded_size.Goals as goal

pub loop-stream-init : goal.loop-stream-init
loop-stream-init c =
    let s = c.args.self in size_start 0 _ (parts_short s.count 0 s.size s.rest.now s.short) cc

pub overflow_add-size : goal.overflow_add-size
overflow_add-size c =
    let s = c.args.self in
    let turned = size_turn c.loop-stream.invariant _ _ c.in-Some.ensures.steps _ c.encoded_size-size.ensures in
    omega (arith, turned.whole, parts_small s.count s.size s.rest.now s.short s.few)

pub loop-stream-preserved : goal.loop-stream-preserved
loop-stream-preserved c =
    size_turn c.loop-stream.invariant _ _ c.in-Some.ensures.steps _ c.encoded_size-size.ensures

pub returns : goal.returns
returns c = omega (arith, size_whole c.loop-stream.invariant c.in-None.ensures.steps.0)
