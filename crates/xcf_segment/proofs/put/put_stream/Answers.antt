-- The invariant is `StoreLeft` of the segments' bytes; a turn is `store_turn` at the segment that came and the bytes that were put.
use Rattle.xcf_segment.specs.Segment.{encode_stream}
use Rattle.xcf_segment.proofs.PiecesLoop.{store_start, store_turn, store_room, store_whole, here}
use Rattle.xcf_segment.proofs.SegmentsWithin.{segments_within}
use Rattle.xcf_segment.proofs.put.put_stream.Goals as goal

pub loop-segment-init : goal.loop-segment-init
loop-segment-init c = store_start c.args.output.now _ (segments_within _ c.args.stream.now c.requires.short) cc

pub put_segment-requires : goal.put_segment-requires
unfolding encode_stream
put_segment-requires c =
    let step = c.in-Some.ensures.steps in
    let within = here c.loop-segment.invariant.sizes _ _ step in
    record { some = within.some; short = within.short; room = store_room c.loop-segment.invariant _ _ step c.requires.room }

pub loop-segment-preserved : goal.loop-segment-preserved
loop-segment-preserved c =
    store_turn c.loop-segment.invariant _ _ c.in-Some.ensures.steps c.put_segment.ensures.stores c.put_segment.ensures.same

pub returns-clause-stores : goal.returns-clause-stores
unfolding encode_stream
returns-clause-stores c = store_whole c.loop-segment.invariant c.in-None.ensures.steps.0
