-- The table of whole rows that are not too many: its first rows are these (`table_row`), and behind them it has unused rows
-- (`table_unused`).
-- Assumes nothing.
use Prim.Native.Nat.{ℕ, zero, suc, ◌+◌, ◌-◌, ◌*◌, ◌≤◌, ◌<◌}
use mathlib.Core.Path.{◌≡◌, refl, ◌∙◌}
use mathlib.Core.List.{List, ◌++◌}
use native.Mathlib.Omega.{arith}
use lib.ListN.{length, get_or, replicate, length-append, length-replicate}
use lib.Seq.{get_or-append-add}
use Rattle.xcf_numbers.specs.Limit.{row_size, table_rows, table_size}
use Rattle.xcf_table.specs.Table.{row_in, unused_row, row_at, Rows, table_of}
use Rattle.xcf_table.proofs.Rows.{row_in_front, row_there}

-- behind some numbers zeros stand
no_number : (n i : ℕ) → ◌≡◌ {A = ℕ} (get_or (replicate n 0) i 0) 0
no_number zero i = refl
no_number (suc n) zero = refl
no_number (suc n) (suc i) = no_number n i

zero_behind : (xs : List ℕ) (n i : ℕ) → length xs ≤ i → get_or (xs ++ replicate n 0) i 0 ≡ 0
zero_behind xs n i h =
    let e : i ≡ length xs + (i - length xs) = omega arith in
    rw e (get_or-append-add xs (replicate n 0) (i - length xs) 0 ∙ no_number n (i - length xs))

row_behind : (xs : List ℕ) (n at : ℕ) → length xs ≤ at → row_in (xs ++ replicate n 0) at ≡ unused_row
row_behind xs n at h = simp (zero_behind xs n at h, others)
  where
    others : (i : ℕ) → get_or (xs ++ replicate n 0) (at + i) 0 ≡ 0
    others i = zero_behind xs n (at + i) (omega arith)

module _ (rows : Rows) (few : rows.count ≤ table_rows) (size : length rows.numbers ≡ row_size * rows.count) where
  pub table_length : length (table_of rows) ≡ table_size
  unfolding table_of
  table_length = simp (length-append, length-replicate) (omega arith)

  pub table_row : (k : ℕ) → k < rows.count → row_at (table_of rows) k ≡ row_in rows.numbers (row_size * k)
  unfolding table_of
  table_row k h =
      row_there (table_of rows) k (omega (arith, table_length)) ∙ row_in_front rows.numbers _ (row_size * k) (omega arith)

  pub table_unused : (k : ℕ) → rows.count ≤ k → k < table_rows → row_at (table_of rows) k ≡ unused_row
  unfolding table_of
  table_unused k h l =
      row_there (table_of rows) k (omega (arith, table_length))
      ∙ row_behind rows.numbers (table_size - length rows.numbers) (row_size * k) (omega arith)
