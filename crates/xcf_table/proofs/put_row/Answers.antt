-- `put_row` meets its contract, by whether the table has a row k: the row's numbers are pasted, or nothing changes.
use Prim.Native.Nat.{◌+◌, ◌*◌}
use mathlib.Core.Path.{refl, ◌∙◌}
use native.Mathlib.Omega.{arith}
use Rattle.std.proofs.lemmas.Slice.{put_mid-paste}
use borrow.Author.Tests.{le-leb, lt-leb}
use lib.ListN.{length}
use Rattle.xcf_numbers.specs.Limit.{row_size}
use Rattle.xcf_table.specs.Table.{put_row}
use Rattle.xcf_table.proofs.put_row.Goals as goal

pub returns-then-at-table : goal.returns-then-at-table
unfolding put_row
returns-then-at-table c =
    let a = c.args in
    rw (le-leb (row_size * (a.k + 1)) (length a.table.now) (omega arith))
    (put_mid-paste _ _ _ _ _ _ (c.copy_from_slice.ensures.after ∙ c.into-numbers.ensures) (omega arith) refl)

pub returns-else-at-table : goal.returns-else-at-table
unfolding put_row
returns-else-at-table c =
    let a = c.args in
    rw (lt-leb (row_size * (a.k + 1)) (length a.table.now) (omega (arith, c.if-at-table.false)))
