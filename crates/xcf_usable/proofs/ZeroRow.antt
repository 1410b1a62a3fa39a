-- A row's numbers are the 16 numbers of the table from the row's place on (`row_part`).
-- Assumes nothing.
use Prim.Native.Nat.{ℕ, zero, suc, ◌+◌, ◌*◌, ◌≤◌}
use mathlib.Core.Path.{◌≡◌, refl, ◌∙◌, ap}
use mathlib.Core.List.{List, [], ◌∷◌}
use native.Mathlib.Nat.{add-zero, add-suc}
use native.Mathlib.Omega.{arith}
use lib.ListN.{length, take, drop, get_or}
use lib.Seq.{drop-cons}
use Rattle.xcf_numbers.specs.Limit.{row_size}
use Rattle.xcf_table.specs.Table.{row_numbers, row_in, row_at}
use Rattle.xcf_table.proofs.Rows.{row_there}

-- n numbers, from number i behind a place on
unfoldable numbers_from : List ℕ → ℕ → ℕ → ℕ → List ℕ
numbers_from t at i zero = []
numbers_from t at i (suc n) = get_or t (at + i) 0 ∷ numbers_from t at (suc i) n

numbers_part : (t : List ℕ) (at i n : ℕ) → at + i + n ≤ length t → numbers_from t at i n ≡ take n (drop (at + i) t)
unfolding numbers_from
numbers_part t at i zero h = refl
numbers_part t at i (suc n) h =
    rw (drop-cons t (at + i) 0 (omega arith))
    (ap (λ (l : List ℕ). get_or t (at + i) 0 ∷ l) (numbers_part t at (suc i) n (omega arith) ∙ rw add-suc))

row_in_part : (t : List ℕ) (at : ℕ) → at + row_size ≤ length t → row_numbers (row_in t at) ≡ take row_size (drop at t)
unfolding numbers_from
row_in_part t at h = rw add-zero at (numbers_part t at 0 row_size (omega arith))

pub row_part : (t : List ℕ) (k : ℕ) → row_size * (k + 1) ≤ length t → row_numbers (row_at t k) ≡ take row_size (drop (row_size * k) t)
row_part t k h = rw (row_there t k h) (row_in_part t (row_size * k) (omega arith))
