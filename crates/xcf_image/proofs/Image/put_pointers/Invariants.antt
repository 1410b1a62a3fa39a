-- `put_pointers` meets its contract: `PointersLeft` holds at the loop's head, and a place fits a word.
use mathlib.Core.Path.{◌≡◌}
use Rattle.xcf_image.proofs.Pointers.{PointersLeft}
use Rattle.xcf_image.proofs.Image.put_pointers.Given as goal

abbrev pub invariant-loop-k : goal.invariant-loop-k
invariant-loop-k l = record {
  stored : PointersLeft l.initial.output.bytes.now l.initial.output.at l.self.table.now l.self.used l.kind l.places l.k l.output.at l.output.bytes.now;
  same : l.output.bytes.ghost_name ≡ l.initial.output.bytes.ghost_name;
}
