-- `properties` meets its contract: what is left of the list gives what the whole gives (`Left`), and each turn moves on in the file.
use mathlib.Core.Path.{sym, ◌∙◌, ap}
use Rattle.xcf_walk.specs.Walk.{more}
use Rattle.xcf_walk.specs.Property.{properties}
use Rattle.xcf_walk.specs.Parts.{turn_of}
use Rattle.xcf_walk.proofs.Advances.{advances_property_turn}
use Rattle.xcf_walk.proofs.Loops.{loop_starts, loop_goes, loop_ends, loop_stops, moved, left_falls}
use Rattle.xcf_walk.proofs.cursor.Cursor.properties.Goals as goal

pub loop-x-init : goal.loop-x-init
loop-x-init c = loop_starts

pub loop-x-smaller : goal.loop-x-smaller
loop-x-smaller c = left_falls (advances_property_turn _ _ _) c.in_ok-x.ensures

pub loop-x-preserved : goal.loop-x-preserved
loop-x-preserved c =
    loop_goes c.loop-x.invariant c.in_ok-x.ensures (ap (turn_of _ _) c.in-Some.is ∙ ap more (sym c.put-p.ensures))
    (moved (advances_property_turn _ _ _) c.in_ok-x.ensures)

pub returns-in_err-x : goal.returns-in_err-x
unfolding properties
returns-in_err-x c = rw (← c.defaults-p.ensures) (loop_stops c.loop-x.invariant c.in_err-x.ensures c.from_residual.ensures.1)

pub returns : goal.returns
unfolding properties
returns c = rw (← c.defaults-p.ensures) (loop_ends c.loop-x.invariant _ c.in_ok-x.ensures (ap (turn_of _ _) c.in_default.is))
