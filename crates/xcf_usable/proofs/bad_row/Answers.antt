-- `bad_row` meets its contract: `Left` holds at the loop's head.
use Rattle.xcf_usable.proofs.BadLoop.{left_first, left_next, left_bad, left_over}
use Rattle.xcf_usable.proofs.Counts.{seen_none}
use Rattle.xcf_usable.proofs.bad_row.Goals as goal

pub loop-k-init : goal.loop-k-init
loop-k-init c = left_first _ _ _ _ (seen_none _ _ c.default-seen.ensures)

pub returns-then-not-usable : goal.returns-then-not-usable
returns-then-not-usable c = left_bad c.loop-k.invariant c.loop-k-test.true c.usable.ensures c.if-not-usable.true

pub loop-k-preserved : goal.loop-k-preserved
loop-k-preserved c = left_next c.loop-k.invariant c.loop-k-test.true c.usable.ensures c.if-not-usable.false c.see-seen.ensures

pub returns : goal.returns
returns c = left_over c.loop-k.invariant c.loop-k-test.false
