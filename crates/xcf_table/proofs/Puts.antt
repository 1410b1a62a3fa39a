-- Rows put into a table: one more row stands behind those before, and the rest is cleared.
-- Assumes nothing.
use Prim.Native.Nat.{ℕ, ◌+◌, ◌*◌, ◌≤◌}
use mathlib.Core.Path.{◌≡◌, refl, ap}
use mathlib.Core.List.{List}
use mathlib.Core.Bool.{Bool, true, false, cond}
use native.Mathlib.Omega.{arith}
use borrow.Author.Tests.{le-leb, leb-true}
use lib.Dec.{leb}
use lib.ListN.{length}
use lib.Seq.{paste, length-paste, take-paste, length-take-le}
use Rattle.xcf_numbers.specs.Limit.{row_size, table_size}
use Rattle.xcf_table.specs.declared.Row.{Row}
use Rattle.xcf_table.specs.Table.{row_numbers, add_row, put_row, clear_from, rows_in, table_of}

pub put_adds : (t : List ℕ) (k : ℕ) (r : Row) → row_size * (k + 1) ≤ length t → rows_in (k + 1) (put_row t k r) ≡ add_row (rows_in k t) r
unfolding add_row put_row
put_adds t k r fits =
    let e : row_size * (k + 1) ≡ row_size * k + row_size = omega arith in
    rw (le-leb _ _ fits)
    (ap (λ (l : List ℕ). record { count = k + 1; numbers = l }) (rw e (take-paste t (row_size * k) (row_numbers r) row_size (omega arith) (omega arith))))

pub put_length : (t : List ℕ) (k : ℕ) (r : Row) → length (put_row t k r) ≡ length t
unfolding put_row
put_length t k r = go (leb (row_size * (k + 1)) (length t)) refl
  where
    go : (b : Bool) → leb (row_size * (k + 1)) (length t) ≡ b → length (cond b (paste t (row_size * k) (row_numbers r) row_size) t) ≡ length t
    go true e = let fits : row_size * (k + 1) ≤ length t = leb-true _ _ e in length-paste t (row_size * k) (row_numbers r) row_size (omega arith) (omega arith)
    go false e = refl

-- the rows of a table that is cleared behind them make that table
pub cleared_table : (t : List ℕ) (k : ℕ) → length t ≡ table_size → row_size * k ≤ table_size → clear_from t k ≡ table_of (rows_in k t)
unfolding table_of clear_from
cleared_table t k size fits = rw (length-take-le (row_size * k) t (omega arith), size)
