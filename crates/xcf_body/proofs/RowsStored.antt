-- The loop that stores the rows' drawables: at row k, what is stored and what is left are all the bytes, and the list of places goes
-- on with theirs.
-- Assumes nothing.
use Prim.Native.Nat.{ℕ, ◌+◌, ◌*◌, ◌≤◌, ◌<◌}
use mathlib.Core.Path.{◌≡◌, refl, sym, ap, ◌∙◌}
use mathlib.Core.List.{List, [], ◌∷◌, ◌++◌}
use native.Mathlib.Nat.{add-zero}
use native.Mathlib.Omega.{arith}
use lib.ListN.{length, get_or, length-append}
use lib.Seq.{sets}
use Rattle.xcf_table.specs.Table.{row_at}
use Rattle.xcf_store.specs.Put.{Put}
use Rattle.xcf_store.proofs.Stores.{sets_append, put_length}
use Rattle.xcf_drawable.specs.Drawable.{Drawable, drawable_size, drawable_bytes}
use Rattle.xcf_body.specs.Rows.{drawables_bytes}
use Rattle.xcf_grid.specs.Drawn.{pixel_size}
use Rattle.xcf_body.specs.Parts.{Placed, pixel_limit}
use Rattle.xcf_drawable.proofs.DrawableLength.{drawable_length}
use Rattle.xcf_body.proofs.Drawables.{placed_first, placed_next}
use Rattle.xcf_body.proofs.RowsLeft.{row_lent, all, rest, rows_all, rows_none, rows_step, RowsLeft, rows_first, rows_next}

bytes_cons : (d : Drawable) (ds : List Drawable) (p : ℕ) → drawables_bytes (d ∷ ds) p ≡ drawable_bytes d p ++ drawables_bytes ds (p + drawable_size d)
unfolding drawables_bytes
bytes_cons d ds p = refl

bytes_none : (p : ℕ) → drawables_bytes [] p ≡ []
unfolding drawables_bytes
bytes_none p = refl

module _ (table names pixels places old : List ℕ) (n start : ℕ) where
  abbrev left : ℕ → ℕ → List Drawable
  left = rest table names pixels n

  abbrev bytes : List ℕ
  bytes = drawables_bytes (all table names pixels n) start

  pub record Putting (k at to : ℕ) (output : List ℕ) : Type 0 where
    pub rows : RowsLeft table names pixels n start k at to
    pub placed : Placed places k (left k at) to
    pub stored : sets output to (drawables_bytes (left k at) to) ≡ sets old start bytes
    pub behind : to + length (drawables_bytes (left k at) to) ≡ start + length bytes
    pub long : length output ≡ length old

  pub putting_first : Placed places 0 (all table names pixels n) start → Putting 0 0 start old
  putting_first h =
      let whole = rows_all table names pixels n in
      record {
        rows = rows_first table names pixels n start;
        placed = rw whole h;
        stored = rw whole;
        behind = rw whole;
        long = refl;
      }

  module _ {k at to : ℕ} {output : List ℕ} (g : Putting k at to output) where
    module _ {end : ℕ} (h : k < n) (e : end ≡ at + pixel_size (row_at table k)) where
      abbrev this : Drawable
      this = row_lent table names pixels k at end

      abbrev others : List Drawable
      others = left (k + 1) end

      step : left k at ≡ this ∷ others
      step = rows_step table names pixels n k at end h e

      placed_here : Placed places k (this ∷ others) to
      placed_here = rw step at g.placed

      -- the drawable's end, which is the next one's place
      pub next_place : get_or places (k + 1) 0 ≡ to + drawable_size this
      next_place = placed_first places others (placed_next places this others placed_here)

      pub putting_next : {q : ℕ} {new : List ℕ} → end ≤ pixel_limit * (k + 1) → Put output to (drawable_bytes this to) q new
          → Putting (k + 1) end q new
      putting_next {q} {new} small p =
          let l = drawable_length this to in
          let m : q ≡ to + drawable_size this = p.behind ∙ ap (λ (m : ℕ). to + m) l in
          record {
            rows = rows_next table names pixels n start g.rows h e small m;
            placed = rw m (placed_next places this others placed_here);
            stored = rw (m, p.output, sym l, ← sets_append) (rw (l, ← bytes_cons) (rw step at g.stored));
            behind = rw m (omega (arith, l, rw (step, bytes_cons, length-append) at g.behind));
            long = put_length p ∙ g.long;
          }

    pub all_put : n ≤ k → Put old start bytes to output
    all_put h =
        let over = rows_none table names pixels n k at h in
        record {
          behind = sym (add-zero to) ∙ (rw (over, bytes_none) at g.behind);
          output = rw (over, bytes_none) at g.stored;
        }
