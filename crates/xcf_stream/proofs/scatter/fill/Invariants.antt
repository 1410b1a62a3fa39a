-- `fill` meets its contract: at the loop's head, what is left to put from here on gives all that was to be put.
use mathlib.Core.Path.{◌≡◌}
use Prim.Native.Nat.{◌+◌, ◌*◌, ◌-◌}
use lib.ListN.{replicate}
use Rattle.xcf_stream.specs.Parts.{scatter}
use Rattle.xcf_stream.proofs.scatter.fill.Given as goal

abbrev pub invariant-loop : goal.invariant-loop
invariant-loop l = record {
  place : l.to + l.step * (l.count - l.counter) ≡ l.at + l.step * l.count;
  put : scatter l.pixels l.to l.step (replicate (l.count - l.counter) l.value) ≡ scatter l.initial.pixels l.at l.step (replicate l.count l.value);
}
