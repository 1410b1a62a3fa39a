-- `drawables` meets its contract: `DrawablesGoing` holds at the loop's head; each drawable has room in the table and keeps it.
use Rattle.xcf_read.proofs.DrawablesLoop.{going_next, going_over, going_stops}
use Rattle.xcf_read.proofs.image.drawables.Goals as goal

pub returns-in_err-rows-clause-walks : goal.returns-in_err-rows-clause-walks
returns-in_err-rows-clause-walks c =
    going_stops c.loop-place.invariant c.loop-place-test.true c.jump.ensures c.in_err-rows.ensures.walks c.from_residual.ensures.1

pub loop-place-preserved : goal.loop-place-preserved
loop-place-preserved c =
    let read = c.in_ok-rows.ensures in
    going_next c.loop-place.invariant c.loop-place-test.true c.jump.ensures read.walks read.size read.rows_bound

pub returns-clause-walks : goal.returns-clause-walks
returns-clause-walks c = going_over c.loop-place.invariant c.loop-place-test.false
