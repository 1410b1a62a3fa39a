-- `bad_row` meets its contract: `Left` holds at the loop's head.
use Rattle.xcf_usable.proofs.BadLoop.{Left}
use Rattle.xcf_usable.proofs.bad_row.Given as goal

abbrev pub invariant-loop-k : goal.invariant-loop-k
invariant-loop-k l = Left l.canvas l.names l.table l.k l.seen
