-- `put` meets its contract: `Putting` holds at the loop's head.
use mathlib.Core.Path.{◌≡◌}
use Rattle.xcf_body.proofs.RowsStored.{Putting}
use Rattle.xcf_body.proofs.UsedRows.put.Given as goal

abbrev pub invariant-loop-k : goal.invariant-loop-k
invariant-loop-k l = record {
  stored : Putting l.self.table.now l.self.names.now l.self.pixels.now l.places l.initial.output.bytes.now l.self.used l.initial.output.at l.k l.at l.output.at l.output.bytes.now;
  same : l.output.bytes.ghost_name ≡ l.initial.output.bytes.ghost_name;
}
