-- `used_rows` meets its contract: `UsedLeft` holds at the loop's head.
use native.Mathlib.Omega.{arith}
use Rattle.xcf_body.proofs.RowsLoop.{used_next, used_end, used_all}
use Rattle.xcf_body.proofs.used_rows.Goals as goal

pub returns-then-row-eq-UNUSED : goal.returns-then-row-eq-UNUSED
returns-then-row-eq-UNUSED c =
    (used_end c.loop-k.invariant c.loop-k-test.true c.row_at-row.ensures c.if-row-eq-UNUSED.true, omega arith)

pub loop-k-preserved : goal.loop-k-preserved
loop-k-preserved c =
    used_next c.loop-k.invariant c.loop-k-test.true c.row_at-row.ensures c.if-row-eq-UNUSED.false

pub returns : goal.returns
returns c = (used_all c.loop-k.invariant c.loop-k-test.false, omega arith)
