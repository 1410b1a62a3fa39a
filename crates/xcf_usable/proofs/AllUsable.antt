-- Where the search finds no bad row, every row is usable: the search from each row on finds none either.
-- Assumes nothing.
use Prim.Native.Nat.{ℕ, zero, suc, ◌+◌, ◌-◌, ◌≤◌, ◌<◌}
use mathlib.Core.Path.{◌≡◌, refl, sym, ◌∙◌}
use mathlib.Core.List.{List}
use mathlib.Core.Bool.{Bool, true, false, cond}
use native.Mathlib.Numerals.{add-one}
use native.Mathlib.Omega.{arith}
use Rattle.xcf_numbers.specs.Limit.{table_rows}
use Rattle.xcf_table.specs.declared.canvas.Canvas.{Canvas}
use Rattle.xcf_usable.specs.Usable.{usable, bad_from, bad_row}
use Rattle.xcf_usable.proofs.BadLoop.{bad_next}

module _ (c : Canvas) (names table : List ℕ) where
  none_from : (k : ℕ) → k < table_rows → bad_from c names table (table_rows - k) k ≡ table_rows
      → (usable c names table k ≡ true) × (bad_from c names table (table_rows - (k + 1)) (k + 1) ≡ table_rows)
  none_from k h e = go (usable c names table k) refl (sym (bad_next c names table k h) ∙ e)
    where
      go : (b : Bool) → usable c names table k ≡ b → cond b (bad_from c names table (table_rows - (k + 1)) (k + 1)) k ≡ table_rows
          → (usable c names table k ≡ true) × (bad_from c names table (table_rows - (k + 1)) (k + 1) ≡ table_rows)
      go true ok rest = (ok, rest)
      go false bad end = absurd (omega arith)

  none_left : bad_row c names table ≡ table_rows → (k : ℕ) → k ≤ table_rows → bad_from c names table (table_rows - k) k ≡ table_rows
  unfolding bad_row
  none_left e zero h = e
  none_left e (suc k) h = rw add-one at (none_from k (omega arith) (none_left e k (omega arith))).1

  pub all_usable : bad_row c names table ≡ table_rows → (k : ℕ) → k < table_rows → usable c names table k ≡ true
  all_usable e k h = (none_from k h (none_left e k (omega arith))).0
