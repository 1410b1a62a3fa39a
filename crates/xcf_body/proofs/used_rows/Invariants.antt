-- `used_rows` meets its contract: `UsedLeft` holds at the loop's head.
use Rattle.xcf_body.proofs.RowsLoop.{UsedLeft}
use Rattle.xcf_body.proofs.used_rows.Given as goal

abbrev pub invariant-loop-k : goal.invariant-loop-k
invariant-loop-k l = UsedLeft l.table l.k
