-- `count_marked` meets its contract: the drawable's refusal decides, and a row that it does not refuse is ready to be counted.
use mathlib.Core.Path.{refl, ◌∙◌}
use native.Mathlib.Omega.{arith}
use Rattle.xcf_decode.proofs.Reasons.{some_number}
use Rattle.xcf_decode.proofs.Usable.{same_marked}
use Rattle.xcf_decode.proofs.Answered.{counts_refused, counts_row}
use Rattle.xcf_decode.proofs.count_marked.Goals as goal

pub returns-in-Err : goal.returns-in-Err
returns-in-Err c = c.from.ensures ∙ counts_refused _ _ _ _ _ c.row_at-row.ensures c.in-Err.ensures.refused (λ z. omega (arith, z, some_number c.in-Err.refusal.reason))

pub returns-in-Ok : goal.returns-in-Ok
returns-in-Ok c = counts_row _ _ _ _ _ c.row_at-row.ensures c.in-Ok.ensures.refused refl (c.count_row.ensures ∙ same_marked c.in-Ok.ensures.ready.drawable)
