-- `drawable_of` meets its contract: its tests are the definition's, in its order.
use mathlib.Core.Path.{refl, sym, ◌∙◌}
use native.Mathlib.Omega.{arith}
use borrow.Author.Tests.{ne_eqb}
use Rattle.xcf_numbers.specs.Reason.{number_of}
use Rattle.xcf_decode.specs.Answer.{drawable_refusal}
use Rattle.xcf_decode.proofs.Reasons.{some_number}
use Rattle.xcf_decode.proofs.Usable.{pointers_decide, same_refusal}
use Rattle.xcf_decode.proofs.check.drawable_of.Goals as goal

pub returns-in-Err-clause-refused : goal.returns-in-Err-clause-refused
unfolding drawable_refusal
returns-in-Err-clause-refused c = let some = some_number c.in-Err.reason in rw (← c.in-Err.ensures.refused, ne_eqb (number_of c.in-Err.reason) 0 (λ z. omega (arith, z, some)))

pub returns-then-not-fits_lent-clause-refused : goal.returns-then-not-fits_lent-clause-refused
unfolding drawable_refusal
returns-then-not-fits_lent-clause-refused c =
    let o = c.in-Ok.ensures.drawable in
    let short = sym c.fits_lent.ensures ∙ c.if-not-fits_lent.true in
    rw (← c.in-Ok.ensures.refused, rw o.row at short) refl

pub returns-in_err-check_pointers-clause-refused : goal.returns-in_err-check_pointers-clause-refused
returns-in_err-check_pointers-clause-refused c =
    let o = c.in-Ok.ensures.drawable in
    let fit = sym c.fits_lent.ensures ∙ c.if-not-fits_lent.false in
    same_refusal _ _ c.from_residual.ensures.1 ∙ c.in_err-check_pointers.ensures.refused ∙ pointers_decide c.args.numbers o c.in-Ok.ensures.refused (rw o.row at fit)

pub returns-clause-refused : goal.returns-clause-refused
returns-clause-refused c =
    let o = c.in-Ok.ensures.drawable in
    let fit = sym c.fits_lent.ensures ∙ c.if-not-fits_lent.false in
    c.in_ok-check_pointers.ensures.refused ∙ pointers_decide c.args.numbers o c.in-Ok.ensures.refused (rw o.row at fit)
