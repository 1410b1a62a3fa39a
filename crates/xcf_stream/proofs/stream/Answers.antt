-- `stream` meets its contract: `StreamGoing` holds at the loop's head, and each operation keeps it or ends the stream.
use mathlib.Core.Path.{sym}
use native.Mathlib.Omega.{arith}
use lib.ListN.{length}
use Rattle.xcf_operation.specs.Parts.{given}
use Rattle.xcf_stream.proofs.Scattering.{mul_part}
use Rattle.xcf_stream.proofs.StreamLaws.{sound}
use Rattle.xcf_stream.proofs.StreamLoop.{going_given, going_failed, going_done}
use Rattle.xcf_stream.proofs.stream.Goals as goal

pub returns-in-Err : goal.returns-in-Err
returns-in-Err c = going_failed c.loop-left.invariant _ c.loop-left-test.true (sym c.in-Err.ensures.gives)

pub put-to-requires : goal.put-to-requires
put-to-requires c =
    let bytes = given c.in-Ok.operation.bytes in
    let s = sound _ _ _ (sym c.in-Ok.ensures.gives) in
    let m = mul_part c.args.depth (length bytes) c.loop-left.left s.0 in
    record { fits = omega (arith, c.loop-left.invariant, m); small = omega (arith, c.loop-left.invariant) }

pub overflow_sub-left : goal.overflow_sub-left
overflow_sub-left c = omega (arith, c.len-left.ensures, (sound _ _ _ (sym c.in-Ok.ensures.gives)).0)

pub loop-left-smaller : goal.loop-left-smaller
loop-left-smaller c = omega (arith, sound _ _ _ (sym c.in-Ok.ensures.gives))

pub loop-left-preserved : goal.loop-left-preserved
loop-left-preserved c =
    rw (c.put-to.ensures.0, c.put-to.ensures.1, c.len-left.ensures)
    (going_given c.loop-left.invariant _ _ c.loop-left-test.true (sym c.in-Ok.ensures.gives))

pub returns : goal.returns
returns c = going_done c.loop-left.invariant (omega arith)
