-- `rest` meets its contract: what is left of the loop gives what the whole gives (`Left`), and each number is a turn.
use Prim.Native.Nat.{◌-◌}
use lib.ListN.{length}
use Rattle.xcf_store.specs.Width.{bytes_of}
use Rattle.xcf_walk.proofs.Loops.{Left}
use Rattle.xcf_parse.specs.Hierarchy.{rest_turn}
use Rattle.xcf_parse.proofs.hierarchy.rest.Given as goal

abbrev pub invariant-loop : goal.invariant-loop
invariant-loop l = Left (rest_turn (bytes_of l.width)) l.fn.cursor tt l.cursor tt

abbrev pub decreases-loop : goal.decreases-loop
decreases-loop l = length l.cursor.file.now - l.cursor.at
