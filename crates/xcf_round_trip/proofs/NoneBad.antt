-- Where every row is usable the search for a bad one finds none: it comes to the number of rows.
-- Assumes nothing.
use Prim.Native.Nat.{ℕ, zero, suc, ◌+◌, ◌<◌}
use mathlib.Core.Path.{◌≡◌}
use mathlib.Core.List.{List}
use mathlib.Core.Bool.{true}
use native.Mathlib.Nat.{add-zero, zero-add}
use native.Mathlib.Omega.{arith}
use Rattle.xcf_numbers.specs.Limit.{table_rows}
use Rattle.xcf_table.specs.declared.canvas.Canvas.{Canvas}
use Rattle.xcf_usable.specs.Usable.{usable, bad_from, bad_row}

module _ (c : Canvas) (names table : List ℕ) (all : (k : ℕ) → k < table_rows → usable c names table k ≡ true) where
  none_from : (n k : ℕ) → k + n ≡ table_rows → bad_from c names table n k ≡ table_rows
  unfolding bad_from
  none_from zero k e = rw add-zero at e
  none_from (suc n) k e = rw (all k (omega arith)) (none_from n (k + 1) (omega arith))

  pub none_bad : bad_row c names table ≡ table_rows
  unfolding bad_row
  none_bad = none_from table_rows 0 (zero-add _)
