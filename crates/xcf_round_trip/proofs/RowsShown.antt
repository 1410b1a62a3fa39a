-- A table that shows some rows but for places: where it shows rows and one more, it shows them (`shown_before`) and that one behind
-- them (`shown_last`).
-- Assumes nothing.
use Prim.Native.Nat.{ℕ, ◌*◌, ◌≤◌, ◌<◌}
use mathlib.Core.Path.{◌≡◌, sym, subst}
use mathlib.Core.List.{List, ◌++◌}
use native.Mathlib.Omega.{arith}
use lib.ListN.{length, length-append}
use Rattle.xcf_numbers.specs.Limit.{row_size, table_rows}
use Rattle.xcf_table.specs.declared.Row.{Row}
use Rattle.xcf_table.specs.Table.{row_numbers, row_in, row_at, Rows, add_row}
use Rattle.xcf_table.proofs.Rows.{row_in_front, row_added}
use Rattle.xcf_round_trip.proofs.RowGiven.{Like}

-- the table's first rows are these but for places
pub record Shown (table : List ℕ) (rows : Rows) : Type 0 where
  pub few : rows.count ≤ table_rows
  pub row : (k : ℕ) → k < rows.count → Like (row_at table k) (row_in rows.numbers (row_size * k))

-- one row added
module _ (rows : Rows) (r : Row) (size : length rows.numbers ≡ row_size * rows.count) where
  pub added_size : length (add_row rows r).numbers ≡ row_size * (add_row rows r).count
  unfolding add_row
  added_size = rw length-append (omega (arith, size))

  module _ (table : List ℕ) (s : Shown table (add_row rows r)) where
    pub shown_before : Shown table rows
    unfolding add_row
    shown_before = record {
      few = omega (arith, s.few);
      row = λ k h.
          subst (Like (row_at table k)) (row_in_front rows.numbers (row_numbers r) (row_size * k) (omega (arith, size)))
          (s.row k (omega arith));
    }

    pub shown_last : Like (row_at table rows.count) r
    unfolding add_row
    shown_last =
        let e : row_in (rows.numbers ++ row_numbers r) (row_size * rows.count) ≡ r = rw (sym size) (row_added rows.numbers r) in
        subst (Like (row_at table rows.count)) e (s.row rows.count (omega arith))

    pub shown_inside : rows.count < table_rows
    unfolding add_row
    shown_inside = omega (arith, s.few)
