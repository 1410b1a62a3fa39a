-- `measure` meets its contract: `Measuring` holds at the loop's head.
use Rattle.xcf_body.proofs.RowsMeasured.{Measuring}
use Rattle.xcf_body.proofs.UsedRows.measure.Given as goal

abbrev pub invariant-loop-k : goal.invariant-loop-k
invariant-loop-k l =
    Measuring l.self.table.now l.self.names.now l.self.pixels.now l.initial.places l.self.used l.start l.k l.from l.to l.places
