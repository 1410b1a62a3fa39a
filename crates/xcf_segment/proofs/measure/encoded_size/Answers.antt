-- The invariant is `SizeLeft` of the segments' bytes; a turn is `size_turn` at the segment that came.
use Rattle.std.proofs.Common.{arith}
use Rattle.xcf_segment.specs.Segment.{encode_stream}
use Rattle.xcf_segment.proofs.Bound.{bound}
use Rattle.xcf_segment.proofs.PiecesLoop.{size_start, size_turn, size_whole}
use Rattle.xcf_segment.proofs.SegmentsWithin.{segments_within}
use Rattle.xcf_segment.proofs.measure.encoded_size.Goals as goal

pub loop-segment-init : goal.loop-segment-init
loop-segment-init c = size_start 0 _ (segments_within _ c.args.stream.now c.requires) cc

pub overflow_add-size : goal.overflow_add-size
unfolding encode_stream
overflow_add-size c =
    let turned = size_turn c.loop-segment.invariant _ _ c.in-Some.ensures.steps _ c.segment_size-size.ensures in
    omega (arith, turned.whole, bound c.args.stream.now)

pub loop-segment-preserved : goal.loop-segment-preserved
loop-segment-preserved c =
    size_turn c.loop-segment.invariant _ _ c.in-Some.ensures.steps _ c.segment_size-size.ensures

pub returns : goal.returns
unfolding encode_stream
returns c = omega (arith, size_whole c.loop-segment.invariant c.in-None.ensures.steps.0)
