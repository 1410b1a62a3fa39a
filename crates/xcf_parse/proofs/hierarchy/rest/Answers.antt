-- `rest` meets its contract: what is left of the loop gives what the whole gives (`Left`), and each number is a turn.
use mathlib.Core.Path.{refl}
use native.Mathlib.Omega.{arith}
use borrow.Author.Tests.{eq-eqb, ne_eqb}
use Rattle.xcf_store.specs.declared.pointer.Width.{Width}
use Rattle.xcf_store.specs.Width.{bytes_of}
use Rattle.xcf_store.proofs.Sizes.{some_bytes, sized}
use Rattle.xcf_walk.proofs.Advances.{Advances}
use Rattle.xcf_walk.proofs.Loops.{loop_starts, loop_goes, loop_ends, loop_stops, moved, left_falls}
use Rattle.xcf_parse.specs.Hierarchy.{rest_turn, rest}
use Rattle.xcf_parse.proofs.Pointers.{advances_rest_turn, rest_turned, rest_refused}
use Rattle.xcf_parse.proofs.hierarchy.rest.Goals as goal

advances : (width : Width) → Advances (rest_turn (bytes_of width) tt)
advances width = advances_rest_turn (bytes_of width) (omega (arith, (some_bytes (sized width)).0))

pub loop-init : goal.loop-init
loop-init c = loop_starts

pub loop-smaller : goal.loop-smaller
loop-smaller c = left_falls (advances _) (rest_turned _ c.in_ok-pointer.ensures)

pub loop-preserved : goal.loop-preserved
loop-preserved c =
    loop_goes c.loop.invariant (rest_turned _ c.in_ok-pointer.ensures) (rw (ne_eqb _ _ c.if-branch-ne0.true) refl)
    (moved (advances _) (rest_turned _ c.in_ok-pointer.ensures))

pub returns-in_err-pointer : goal.returns-in_err-pointer
unfolding rest
returns-in_err-pointer c = loop_stops c.loop.invariant (rest_refused _ c.in_err-pointer.ensures) c.from_residual.ensures.1

pub returns : goal.returns
unfolding rest
returns c = loop_ends c.loop.invariant _ (rest_turned _ c.in_ok-pointer.ensures) (rw (eq-eqb _ _ c.if-branch-ne0.false) refl)
