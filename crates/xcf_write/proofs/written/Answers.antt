-- `written` meets its contract: a refusal of the input is the answer, and an accepted input is ready to be written.
use mathlib.Core.Path.{refl}
use Rattle.xcf_write.proofs.Accepted.{written_fitted}
use Rattle.xcf_write.proofs.Reasons.{refused_by}
use Rattle.xcf_write.proofs.written.Goals as goal

pub returns-in_err-rows : goal.returns-in_err-rows
returns-in_err-rows c = refused_by _ _ _ _ _ _ c.in_err-rows.ensures.refusal _ c.from_residual.ensures.1

pub returns : goal.returns
returns c =
    let taken = c.in_ok-rows.ensures.rows in
    written_fitted _ _ _ _ _ c.in_ok-rows.ensures.refusal refl (rw (taken.table, taken.names, taken.pixels) at c.write_file.ensures)
