-- `rising_pointers` meets its contract: `RisingLeft` holds at the loop's head of the pointers that lie in the file, from the whole pairs
-- on, and one that rises keeps it. No others can rise (`rising_in`).
use Rattle.xcf_store.specs.Parts.{RisingLeft}
use Rattle.xcf_store.proofs.rising.rising_pointers.Given as goal

abbrev pub invariant-loop-count : goal.invariant-loop-count
invariant-loop-count l = RisingLeft l.size l.file l.at l.most l.count l.last
