-- `usable` meets its contract: an unused row is zero.
use mathlib.Core.Path.{◌≡◌, ◌∙◌, ap}
use borrow.Author.Tests.{eq-eqb}
use Rattle.xcf_table.specs.Table.{row_numbers, row_at}
use Rattle.xcf_usable.specs.Usable.{all_zero, usable_row}
use Rattle.xcf_usable.proofs.row.usable.Goals as goal

pub returns-then-row-eq-UNUSED : goal.returns-then-row-eq-UNUSED
unfolding usable_row
returns-then-row-eq-UNUSED c =
    let a = c.args in
    let unused : (row_at a.table.now a.k).kind ≡ 0 = rw c.row_at-row.ensures at c.if-row-eq-UNUSED.true in
    rw (eq-eqb _ _ unused) (c.all_zero.ensures ∙ ap all_zero (c.into-numbers.ensures ∙ ap row_numbers c.row_at-row.ensures))
