-- The table that the reader leaves for drawables that were read back: row k is the k-th drawable's (`table_row`), and the rows
-- behind them are unused (`table_unused`). And a row that is zero is the unused row.
-- Assumes nothing.
use Prim.Native.Nat.{ℕ, zero, suc, ◌+◌, ◌*◌, ◌≤◌, ◌<◌}
use mathlib.Core.Path.{◌≡◌, refl, sym, ap, ◌∙◌}
use mathlib.Core.List.{List, [], ◌∷◌, ◌++◌}
use mathlib.Core.Bool.{true, and-eq-true_iff}
use native.Mathlib.Nat.{add-zero, zero-add}
use native.Mathlib.Omega.{arith}
use borrow.Author.Tests.{eqb-true}
use lib.Dec.{eqb}
use lib.ListN.{length, get_or, replicate, length-append}
use Rattle.xcf_numbers.specs.Limit.{row_size, table_rows, table_size}
use Rattle.xcf_table.specs.declared.Row.{Row}
use Rattle.xcf_table.specs.Table.{row_numbers, Rows, no_rows, add_row, row_in, unused_row, row_at, table_of}
use Rattle.xcf_table.proofs.Rows.{row_added, row_in_front}
use Rattle.xcf_table.proofs.Tables.{table_length as rows-table, table_row as rows_row, table_unused as rows-unused}
use Rattle.xcf_usable.specs.Usable.{all_zero}
use Rattle.xcf_drawable.specs.Drawable.{Drawable, drawable_size}
use Rattle.xcf_round_trip.proofs.Parts.{read_row, add_all}
use Rattle.xcf_round_trip.proofs.RowsRead.{place_at}

-- rows added: their number, and how many numbers they have
pub rows_count : (rows : Rows) (ds : List Drawable) (p : ℕ) → (add_all rows ds p).count ≡ rows.count + length ds
unfolding add_all add_row
rows_count rows [] p = sym (add-zero _)
rows_count rows (d ∷ ds) p = rows_count (add_row rows (read_row d p)) ds (p + drawable_size d) ∙ omega arith

rows_length : (rows : Rows) (ds : List Drawable) (p : ℕ)
    → length (add_all rows ds p).numbers ≡ length rows.numbers + row_size * length ds
unfolding add_all add_row
rows_length rows [] p = omega arith
rows_length rows (d ∷ ds) p = rows_length (add_row rows (read_row d p)) ds (p + drawable_size d) ∙ rw length-append (omega arith)

-- a row in front of those added stays
added_front : (rows : Rows) (ds : List Drawable) (p at : ℕ) → at + row_size ≤ length rows.numbers
    → row_in (add_all rows ds p).numbers at ≡ row_in rows.numbers at
unfolding add_all add_row
added_front rows [] p at h = refl
added_front rows (d ∷ ds) p at h =
    added_front (add_row rows (read_row d p)) ds (p + drawable_size d) at (rw length-append (omega arith))
    ∙ row_in_front rows.numbers (row_numbers (read_row d p)) at h

-- the k-th added
added_row : (other : Drawable) (rows : Rows) (ds : List Drawable) (p k : ℕ) → k < length ds
    → row_in (add_all rows ds p).numbers (length rows.numbers + row_size * k) ≡ read_row (get_or ds k other) (place_at ds p k)
unfolding add_all add_row place_at
added_row other rows [] p k h = absurd (omega arith)
added_row other rows (d ∷ ds) p zero h =
    rw add-zero
    (added_front (add_row rows (read_row d p)) ds (p + drawable_size d) (length rows.numbers) (rw length-append (omega arith))
    ∙ row_added rows.numbers (read_row d p))
added_row other rows (d ∷ ds) p (suc k) h =
    let e : length rows.numbers + row_size * suc k ≡ length (rows.numbers ++ row_numbers (read_row d p)) + row_size * k =
    rw length-append (omega arith) in
    rw e (added_row other (add_row rows (read_row d p)) ds (p + drawable_size d) k (omega arith))

-- the table of at most 128 drawables' rows
module _ (ds : List Drawable) (p : ℕ) (few : length ds ≤ table_rows) where
  abbrev rows : Rows
  rows = add_all no_rows ds p

  count : rows.count ≡ length ds
  count = rows_count no_rows ds p ∙ zero-add _

  size : length rows.numbers ≡ row_size * rows.count
  size = rows_length no_rows ds p ∙ omega (arith, count)

  pub table_length : length (table_of rows) ≡ table_size
  table_length = rows-table rows (omega (arith, count)) size

  pub table_row : (other : Drawable) (k : ℕ) → k < length ds → row_at (table_of rows) k ≡ read_row (get_or ds k other) (place_at ds p k)
  table_row other k h =
      rows_row rows (omega (arith, count)) size k (omega (arith, count)) ∙ (rw zero-add at (added_row other no_rows ds p k h))

  pub table_unused : (k : ℕ) → length ds ≤ k → k < table_rows → row_at (table_of rows) k ≡ unused_row
  table_unused k h l = rows-unused rows (omega (arith, count)) size k (omega (arith, count)) l

-- a row whose numbers are all zero is the unused one
all_zeros : (ns : List ℕ) → all_zero ns ≡ true → ns ≡ replicate (length ns) 0
unfolding all_zero
all_zeros [] e = refl
all_zeros (n ∷ ns) e =
    let both = (and-eq-true_iff (eqb n 0) (all_zero ns)).0 e in
    rw (eqb-true n 0 both.0) (ap (λ (ms : List ℕ). 0 ∷ ms) (all_zeros ns both.1))

pub zero_row : (r : Row) → all_zero (row_numbers r) ≡ true → r ≡ unused_row
zero_row r e = ap (λ (ns : List ℕ). row_in ns 0) (all_zeros (row_numbers r) e)
