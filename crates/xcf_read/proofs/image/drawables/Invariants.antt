-- `drawables` meets its contract: `DrawablesGoing` holds at the loop's head; each drawable has room in the table and keeps it.
use Rattle.xcf_store.specs.Width.{bytes_of}
use Rattle.xcf_read.specs.Parts.{drawable}
use Rattle.xcf_read.proofs.DrawablesLoop.{DrawablesGoing}
use Rattle.xcf_read.proofs.image.drawables.Given as goal

abbrev pub invariant-loop-place : goal.invariant-loop-place
invariant-loop-place l =
    DrawablesGoing (drawable (bytes_of l.width) l.kind l.c) l.kind l.initial.cursor l.list l.k l.initial.table l.table l.cursor l.rows l.place-index
