-- The invariant is `StoreLeft` of the streams' encodings; a turn is `store_turn` at the stream that came and the bytes that were put.
use Rattle.xcf_segment.proofs.PiecesLoop.{store_start, here, store_turn, store_room, store_whole}
use Rattle.xcf_encode.proofs.Parts.{parts_short}
use Rattle.xcf_encode.proofs.streams.Streams.put.Goals as goal

pub loop-stream-init : goal.loop-stream-init
loop-stream-init c =
    let s = c.args.self in store_start c.args.output.now _ (parts_short s.count 0 s.size s.rest.now s.short) cc

pub put_stream-requires : goal.put_stream-requires
put_stream-requires c =
    let step = c.in-Some.ensures.steps in
    record { short = here c.loop-stream.invariant.sizes _ _ step; room = store_room c.loop-stream.invariant _ _ step c.requires }

pub loop-stream-preserved : goal.loop-stream-preserved
loop-stream-preserved c =
    store_turn c.loop-stream.invariant _ _ c.in-Some.ensures.steps c.put_stream.ensures.stores c.put_stream.ensures.same

pub returns-clause-stores : goal.returns-clause-stores
returns-clause-stores c = store_whole c.loop-stream.invariant c.in-None.ensures.steps.0
