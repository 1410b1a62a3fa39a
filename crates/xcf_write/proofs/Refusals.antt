-- What is refused before the file is measured, by the tests in their order.
-- Assumes nothing.
use Prim.Native.Nat.{ℕ}
use mathlib.Core.Path.{◌≡◌, refl}
use mathlib.Core.Bool.{Bool, true, false, cond}
use mathlib.Core.List.{List}
use borrow.Author.Tests.{eqb-true, eqb-false, eq-eqb, ne_eqb}
use lib.Dec.{eqb}
use Rattle.std.specs.Prelude.{Some, None}
use Rattle.xcf_numbers.specs.Limit.{table_rows}
use Rattle.xcf_numbers.specs.Refusal
use Rattle.xcf_table.specs.declared.canvas.Canvas.{Canvas}
use Rattle.xcf_usable.specs.Usable.{bad_row, row_found}
use Rattle.xcf_body.specs.Rows.{pixels_size, used_rows}
use Rattle.xcf_write.specs.Answer.{answered, rows_refusal}

-- what the search for a bad row gives
found : (n : ℕ) {k : ℕ} → Some k ≡ row_found n → (n ≡ table_rows → ⊥) × (k ≡ n)
found n {k} = go (eqb n table_rows) refl
  where
    go : (b : Bool) → eqb n table_rows ≡ b → Some k ≡ cond b None (Some n) → (n ≡ table_rows → ⊥) × (k ≡ n)
    go true e h = cc
    go false e h = (eqb-false _ _ e, cc)

pub found_none : (n : ℕ) → None ≡ row_found n → n ≡ table_rows
found_none n = go (eqb n table_rows) refl
  where
    go : (b : Bool) → eqb n table_rows ≡ b → None ≡ cond b None (Some n) → n ≡ table_rows
    go true e h = eqb-true _ _ e
    go false e h = cc

pub bad_refused : (c : Canvas) (table names : List ℕ) (pixels : ℕ) {k : ℕ} → Some k ≡ row_found (bad_row c names table)
    → answered Refusal.bad_row k 0 ≡ rows_refusal c table names pixels
unfolding rows_refusal
bad_refused c table names pixels {k} h =
    let bad = found (bad_row c names table) h in
    rw (ne_eqb _ table_rows bad.0, bad.1)

-- no row is bad, and the used rows have so many bytes of pixels
pub record Counted (c : Canvas) (table names : List ℕ) (size : ℕ) : Type 0 where
  pub good : bad_row c names table ≡ table_rows
  pub whole : size ≡ pixels_size table (used_rows table) 0

module _ {c : Canvas} {table names : List ℕ} {pixels size : ℕ} (x : Counted c table names size) where
  pub none_refused : pixels ≡ size → answered Refusal.accepted 0 0 ≡ rows_refusal c table names pixels
  unfolding rows_refusal
  none_refused h = rw (eq-eqb _ _ x.good, ← x.whole, eq-eqb pixels size h)

  pub pixels_refused : (pixels ≡ size → ⊥) → answered Refusal.wrong_buffer 0 0 ≡ rows_refusal c table names pixels
  unfolding rows_refusal
  pixels_refused h = rw (eq-eqb _ _ x.good, ← x.whole, ne_eqb pixels size h)
