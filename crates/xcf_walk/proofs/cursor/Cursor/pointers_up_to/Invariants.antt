-- `pointers_up_to` meets its contract: what is left of the list gives what the whole gives (`PointersLeft`).
use Prim.Native.Nat.{◌-◌}
use lib.ListN.{length}
use Rattle.xcf_store.specs.Width.{bytes_of}
use Rattle.xcf_walk.proofs.PointersLoop.{PointersLeft}
use Rattle.xcf_walk.proofs.cursor.Cursor.pointers_up_to.Given as goal

abbrev pub invariant-loop-p : goal.invariant-loop-p
invariant-loop-p g l = PointersLeft (bytes_of l.width) l.most l.fn.self l.self l.list.items

abbrev pub decreases-loop-p : goal.decreases-loop-p
decreases-loop-p g l = l.most - length l.list.items
