-- `pairs_by` meets its contract: `RisingLeft` holds at the loop's head of two pointers for each pair, and a pair that rises keeps it.
use Prim.Native.Nat.{◌*◌}
use Rattle.xcf_store.specs.Parts.{RisingLeft}
use Rattle.xcf_store.proofs.rising.pairs_by.Given as goal

abbrev pub invariant-loop-pair : goal.invariant-loop-pair
invariant-loop-pair l = RisingLeft l.size l.file l.at l.n (2 * l.pair) l.last
