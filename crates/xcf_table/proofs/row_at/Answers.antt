-- `row_at` meets its contract, by whether the table has a row k.
use Prim.Native.Nat.{◌+◌, ◌*◌}
use mathlib.Core.Path.{◌∙◌}
use native.Mathlib.Omega.{arith}
use borrow.Author.Tests.{le-leb, lt-leb}
use lib.ListN.{length}
use Rattle.xcf_numbers.specs.Limit.{row_size}
use Rattle.xcf_table.specs.Table.{row_at}
use Rattle.xcf_table.proofs.Rows.{row_cut}
use Rattle.xcf_table.proofs.row_at.Goals as goal

pub returns-then-start-table : goal.returns-then-start-table
unfolding row_at
returns-then-start-table c =
    let a = c.args in
    rw (le-leb (row_size * (a.k + 1)) (length a.table.now) (omega arith))
    (rw c.copy_from_slice.ensures.after at c.from.ensures ∙ row_cut a.table.now (row_size * a.k) _ (omega arith))

pub returns : goal.returns
unfolding row_at
returns c =
    let a = c.args in
    rw (lt-leb (row_size * (a.k + 1)) (length a.table.now) (omega arith)) c.default.ensures
