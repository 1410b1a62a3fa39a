-- The loop that measures the rows' drawables: at row k, the places stored so far and those of what is left are all the places.
-- Assumes nothing.
use Prim.Native.Nat.{ℕ, ◌+◌, ◌*◌, ◌≤◌, ◌<◌}
use mathlib.Core.Path.{◌≡◌, refl, sym, ap, ◌∙◌}
use mathlib.Core.List.{List, [], ◌∷◌}
use native.Mathlib.Numerals.{add-one}
use native.Mathlib.Omega.{arith}
use lib.ListN.{length, set, length-set}
use lib.Seq.{sets}
use Rattle.xcf_body.specs.Parts.{pixel_limit}
use Rattle.xcf_numbers.specs.Limit.{image_limit, drawable_limit, places_size}
use Rattle.xcf_table.specs.Table.{row_at}
use Rattle.xcf_grid.specs.Drawn.{pixel_size}
use Rattle.xcf_drawable.specs.Drawable.{Drawable, drawable_size}
use Rattle.xcf_body.specs.Rows.{places_from}
use Rattle.xcf_body.proofs.RowsLeft.{row_lent, all, rest, rows_all, rows_none, rows_step, RowsLeft, rows_first, rows_next}

places_cons : (d : Drawable) (ds : List Drawable) (p : ℕ) → places_from (d ∷ ds) p ≡ p ∷ places_from ds (p + drawable_size d)
unfolding places_from
places_cons d ds p = refl

places_none : (p : ℕ) → places_from [] p ≡ p ∷ []
unfolding places_from
places_none p = refl

sets_cons : (l : List ℕ) (k x : ℕ) (xs : List ℕ) → sets l k (x ∷ xs) ≡ sets (set l k x) (k + 1) xs
sets_cons l k x xs = rw add-one

module _ (table names pixels old : List ℕ) (n start : ℕ) where
  abbrev left : ℕ → ℕ → List Drawable
  left = rest table names pixels n

  pub record Measuring (k at to : ℕ) (places : List ℕ) : Type 0 where
    pub rows : RowsLeft table names pixels n start k at to
    pub stored : sets places k (places_from (left k at) to) ≡ sets old 0 (places_from (all table names pixels n) start)
    pub long : length places ≡ places_size
    pub most : to ≤ image_limit + drawable_limit * k

  pub measuring_first : start ≤ image_limit → length old ≡ places_size → Measuring 0 0 start old
  measuring_first h l = record {
    rows = rows_first table names pixels n start;
    stored = rw (rows_all table names pixels n);
    long = l;
    most = omega arith;
  }

  module _ {k at to : ℕ} {places : List ℕ} (g : Measuring k at to places) where
    pub measuring_next : {end r : ℕ} → k < n → end ≡ at + pixel_size (row_at table k) → end ≤ pixel_limit * (k + 1)
        → r ≡ drawable_size (row_lent table names pixels k at end) → r ≤ drawable_limit
        → Measuring (k + 1) end (to + r) (set places k to)
    measuring_next {end} h e l m small =
        let step = rows_step table names pixels n k at end h e in
        record {
          rows = rows_next table names pixels n start g.rows h e l (rw m);
          stored = rw m (rw (step, places_cons, sets_cons) at g.stored);
          long = length-set places k to ∙ g.long;
          most = omega (arith, g.most);
        }

    at_end : n ≤ k → k ≡ n
    at_end h = omega (arith, g.rows.pixels_left.few)

    pub all_stored : n ≤ k → set places n to ≡ sets old 0 (places_from (all table names pixels n) start)
    all_stored h =
        ap (λ (m : ℕ). set places m to) (sym (at_end h))
        ∙ (rw (rows_none table names pixels n k at h, places_none) at g.stored)
