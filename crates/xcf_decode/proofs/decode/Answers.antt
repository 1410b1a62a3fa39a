-- `decode` meets its contract: the drawable's refusal decides, and a row that it does not refuse is ready to be decoded.
use mathlib.Core.Path.{refl, ap, ◌∙◌}
use native.Mathlib.Omega.{arith}
use Rattle.xcf_decode.proofs.Reasons.{some_number}
use Rattle.xcf_decode.proofs.Usable.{fit_lengths, same_decoding}
use Rattle.xcf_decode.proofs.Answered.{decodes_refused, decodes_row}
use Rattle.xcf_decode.proofs.decode.Goals as goal

pub decode_row-requires-clause-pixels_len : goal.decode_row-requires-clause-pixels_len
decode_row-requires-clause-pixels_len c = let e = c.in-Ok.ensures.ready in rw e.drawable.row (fit_lengths _ _ _ e.fits)

pub returns-in-Err : goal.returns-in-Err
returns-in-Err c = rw c.from.ensures (decodes_refused c.row_at-row.ensures c.in-Err.ensures.refused (λ z. omega (arith, z, some_number c.in-Err.refusal.reason)))

pub returns-in-Ok : goal.returns-in-Ok
returns-in-Ok c =
    let same = same_decoding c.in-Ok.ensures.ready.drawable in
    let new = c.decode_row.ensures in
    decodes_row c.row_at-row.ensures c.in-Ok.ensures.refused refl (new.value ∙ ap (λ x. x.answer.marked) same) (new.pixels_after ∙ ap (λ x. x.pixels) same)
    (new.marks_after ∙ ap (λ x. x.marks) same)
