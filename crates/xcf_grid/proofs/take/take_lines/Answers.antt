-- `take_lines` meets its contract: `Taking` holds at the loop's head, and a line taken keeps it.
use Prim.Native.Nat.{◌+◌, ◌-◌, ◌*◌}
use mathlib.Core.Path.{◌≡◌}
use native.Mathlib.Omega.{arith}
use Rattle.xcf_grid.proofs.TakeLines.{taking_copied, taking_over}
use Rattle.xcf_grid.proofs.take.take_lines.Goals as goal

pub loop-j-preserved : goal.loop-j-preserved
loop-j-preserved c =
    let a = c.args in
    let j = c.loop-j.j in
    let source : a.start + a.stride * (j + 1) ≡ a.start + a.stride * j + a.stride = omega arith in
    let target : a.line * (j + 1) ≡ a.line * j + a.line = omega arith in
    let left : a.n - (j + 1) ≡ a.n - j - 1 = omega arith in
    rw (source, target, left)
    (taking_copied c.loop-j.invariant (omega (arith, c.loop-j-test.true)) (omega arith) c.copy_from_slice.ensures.after)

pub returns : goal.returns
returns c = taking_over c.loop-j.invariant (omega (arith, c.loop-j-test.false))
