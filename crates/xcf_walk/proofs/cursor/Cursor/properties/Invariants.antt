-- `properties` meets its contract: what is left of the list gives what the whole gives (`Left`), and each turn moves on in the file.
use Prim.Native.Nat.{◌-◌}
use lib.ListN.{length}
use Rattle.xcf_property.specs.List.{list_number}
use Rattle.xcf_walk.specs.Property.{property_turn}
use Rattle.xcf_walk.proofs.Loops.{Left}
use Rattle.xcf_walk.proofs.cursor.Cursor.properties.Given as goal

abbrev pub invariant-loop-x : goal.invariant-loop-x
invariant-loop-x l = Left (property_turn l.size (list_number l.list)) l.fn.self l.initial.p l.self l.p

abbrev pub decreases-loop-x : goal.decreases-loop-x
decreases-loop-x l = length l.self.file.now - l.self.at
