-- `hierarchy` meets its contract, step by step; the place is behind a word that agrees, and so in the file.
use mathlib.Core.Path.{refl}
use Rattle.xcf_walk.proofs.Loops.{moved}
use Rattle.xcf_walk.proofs.Steps.{then, then_here, then_jump, stops, ends}
use Rattle.xcf_parse.specs.Hierarchy.{hierarchy}
use Rattle.xcf_parse.proofs.Pointers.{advances_agrees}
use Rattle.xcf_parse.proofs.hierarchy.hierarchy.Goals as goal

pub returns-in_err-level-clause-walks : goal.returns-in_err-level-clause-walks
unfolding hierarchy
returns-in_err-level-clause-walks c =
    then _ c.in_ok-agrees.ensures (then _ c.in_ok-agrees-2.ensures (then _ c.in_ok-agrees-3.ensures
    (stops _ c.in_err-level.ensures c.from_residual-in_err-level.ensures.1)))

pub returns-in_err-rest-clause-walks : goal.returns-in_err-rest-clause-walks
unfolding hierarchy
returns-in_err-rest-clause-walks c =
    then _ c.in_ok-agrees.ensures (then _ c.in_ok-agrees-2.ensures (then _ c.in_ok-agrees-3.ensures (then _ c.in_ok-level.ensures
    (stops _ c.in_err-rest.ensures c.from_residual-in_err-rest.ensures.1))))

pub returns-in_err-agrees-4-clause-walks : goal.returns-in_err-agrees-4-clause-walks
unfolding hierarchy
returns-in_err-agrees-4-clause-walks c =
    then _ c.in_ok-agrees.ensures (then _ c.in_ok-agrees-2.ensures (then _ c.in_ok-agrees-3.ensures (then _ c.in_ok-level.ensures
    (then _ c.in_ok-rest.ensures (then_jump _ c.jump.ensures
    (stops _ c.in_err-agrees-4.ensures c.from_residual-in_err-agrees-4.ensures.1))))))

pub returns-in_err-agrees-5-clause-walks : goal.returns-in_err-agrees-5-clause-walks
unfolding hierarchy
returns-in_err-agrees-5-clause-walks c =
    then _ c.in_ok-agrees.ensures (then _ c.in_ok-agrees-2.ensures (then _ c.in_ok-agrees-3.ensures (then _ c.in_ok-level.ensures
    (then _ c.in_ok-rest.ensures (then_jump _ c.jump.ensures (then _ c.in_ok-agrees-4.ensures
    (stops _ c.in_err-agrees-5.ensures c.from_residual-in_err-agrees-5.ensures.1)))))))

pub returns-in_err-tiles-clause-walks : goal.returns-in_err-tiles-clause-walks
unfolding hierarchy
returns-in_err-tiles-clause-walks c =
    then _ c.in_ok-agrees.ensures (then _ c.in_ok-agrees-2.ensures (then _ c.in_ok-agrees-3.ensures (then _ c.in_ok-level.ensures
    (then _ c.in_ok-rest.ensures (then_jump _ c.jump.ensures (then _ c.in_ok-agrees-4.ensures (then _ c.in_ok-agrees-5.ensures
    (then_here _ (stops _ (rw c.tile_count-count.ensures at c.in_err-tiles.ensures) c.from_residual-in_err-tiles.ensures.1)))))))))

pub returns-clause-walks : goal.returns-clause-walks
unfolding hierarchy
returns-clause-walks c =
    then _ c.in_ok-agrees.ensures (then _ c.in_ok-agrees-2.ensures (then _ c.in_ok-agrees-3.ensures (then _ c.in_ok-level.ensures
    (then _ c.in_ok-rest.ensures (then_jump _ c.jump.ensures (then _ c.in_ok-agrees-4.ensures (then _ c.in_ok-agrees-5.ensures
    (then_here _ (then _ (rw c.tile_count-count.ensures at c.in_ok-tiles.ensures) (ends _ refl))))))))))

pub returns-clause-place_in_bounds : goal.returns-clause-place_in_bounds
returns-clause-place_in_bounds c =
    rw (c.agrees-4.ensures.file, c.jump.ensures, c.rest.ensures.file, c.pointer.ensures.file, c.agrees-3.ensures.file, c.agrees-2.ensures.file, c.agrees.ensures.file)
    at (moved (advances_agrees _) c.in_ok-agrees-5.ensures).1
