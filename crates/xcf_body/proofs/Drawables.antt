-- The drawables of a table's rows: row k's is writable where it is ready (`row_writable`), they end behind where they begin
-- (`end_most`), and what a list of all rows' places says of them (`placed_first`, `placed_next`).
-- Assumes nothing.
use Prim.Native.Nat.{ℕ, suc, ◌+◌, ◌-◌, ◌≤◌, ◌<◌}
use mathlib.Core.Path.{◌≡◌, sym, ap, ◌∙◌}
use mathlib.Core.List.{List, [], ◌∷◌}
use mathlib.Core.Bool.{Bool}
use native.Mathlib.Nat.{suc-ne-zero}
use native.Mathlib.Numerals.{add-one}
use native.Mathlib.Omega.{arith}
use lib.ListN.{length, get_or, take, drop, length-drop}
use lib.Seq.{drop-cons}
use Rattle.xcf_store.proofs.Parts.{part_length}
use Rattle.xcf_table.specs.declared.Row.{Row}
use Rattle.xcf_table.specs.Table.{row_at}
use Rattle.xcf_usable.specs.Usable.{masked}
use Rattle.xcf_drawable.specs.Drawable.{Drawable, drawable_size}
use Rattle.xcf_body.specs.Rows.{places_from, row_drawable}
use Rattle.xcf_drawable.specs.Parts.{Writable, drawn}
use Rattle.xcf_body.specs.Parts.{RowReady, end_of, Placed}

-- a row that is ready is writable
pub row_writable : {table names : List ℕ} {k : ℕ} {pixels : List ℕ} → RowReady table names k pixels → Writable (row_drawable table names k pixels)
row_writable {table} {names} {k} x = record {
  drawn = x.drawn;
  named = part_length names (row_at table k).name (row_at table k).namelen x.named;
  short = x.short;
}

-- row k's drawable, as the code takes it from the table and the names
pub row_taken : (table names pixels : List ℕ) (k : ℕ) {r : Row} {m : Bool} → r ≡ row_at table k → m ≡ masked table k
    → drawn r m (take (r.name + r.namelen - r.name) (drop r.name names)) pixels ≡ row_drawable table names k pixels
row_taken table names pixels k e m =
    let size : (row_at table k).name + (row_at table k).namelen - (row_at table k).name ≡ (row_at table k).namelen = omega arith in
    rw (e, m, size)

-- where drawables end is not before where they begin
pub end_most : (ds : List Drawable) (p : ℕ) → p ≤ end_of ds p
unfolding end_of
end_most [] p = omega arith
end_most (d ∷ ds) p = omega (arith, end_most ds (p + drawable_size d))

-- a list that goes on from k with x and xs
goes_on : (l : List ℕ) (k x : ℕ) (xs : List ℕ) → take (suc (length xs)) (drop k l) ≡ x ∷ xs
    → (get_or l k 0 ≡ x) × (take (length xs) (drop (k + 1) l) ≡ xs)
goes_on l k x xs e =
    let inside : k < length l = go (drop k l) e (length-drop k l) in
    let parts : get_or l k 0 ∷ take (length xs) (drop (suc k) l) ≡ x ∷ xs = sym (ap (take (suc (length xs))) (drop-cons l k 0 inside)) ∙ e in
    (ap (λ (r : List ℕ). get_or r 0 0) parts, rw add-one (ap (drop 1) parts))
  where
    go : (r : List ℕ) → take (suc (length xs)) r ≡ x ∷ xs → length r ≡ length l - k → k < length l
    go [] e n = absurd (suc-ne-zero _ (ap length (sym e)))
    go (y ∷ ys) e n = omega arith

module _ (places : List ℕ) where
  pub placed_first : {k p : ℕ} (ds : List Drawable) → Placed places k ds p → get_or places k 0 ≡ p
  unfolding places_from
  placed_first {k} {p} [] x = (goes_on places k p [] x.same).0
  placed_first {k} {p} (d ∷ ds) x = (goes_on places k p _ x.same).0

  pub placed_next : {k p : ℕ} (d : Drawable) (ds : List Drawable) → Placed places k (d ∷ ds) p → Placed places (k + 1) ds (p + drawable_size d)
  unfolding places_from
  placed_next {k} {p} d ds x = record { same = (goes_on places k p _ x.same).1 }
