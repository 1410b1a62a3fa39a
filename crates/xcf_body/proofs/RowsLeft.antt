-- What is left of the rows' drawables at row k, whose pixels begin at a place: the first is row k's and the rest are those from the
-- next row on (`rows_step`), row k is ready where the rows are (`row_ready`), its pixels are lent (`row_lent_lem`), its drawable ends
-- where all end or before (`row_room`), and what is left behind it ends where all end (`rows_next`).
-- Assumes nothing.
use Prim.Native.Nat.{ℕ, ◌+◌, ◌-◌, ◌*◌, ◌≤◌, ◌<◌}
use mathlib.Core.Path.{◌≡◌, refl}
use mathlib.Core.List.{List, [], ◌∷◌}
use native.Mathlib.Nat.{sub-zero}
use native.Mathlib.Omega.{arith}
use lib.ListN.{length, take, drop}
use lib.Seq.{drop-drop}
use Rattle.xcf_numbers.specs.Limit.{table_rows}
use Rattle.xcf_laws.proofs.Steps.{rest_begins, rest_empty}
use Rattle.xcf_store.proofs.Parts.{part_length}
use Rattle.xcf_table.specs.Table.{row_at}
use Rattle.xcf_grid.specs.Drawn.{pixel_size, InRange}
use Rattle.xcf_drawable.specs.Drawable.{Drawable, drawable_size}
use Rattle.xcf_body.specs.Rows.{row_drawable, drawables_from}
use Rattle.xcf_body.specs.Parts.{RowReady, RowsReady, end_of, pixel_limit}
use Rattle.xcf_body.proofs.RowsLoop.{PixelsLeft, pixels_first, pixels_inside, pixels_next}
use Rattle.xcf_body.proofs.Drawables.{end_most}

end_cons : (d : Drawable) (ds : List Drawable) (p : ℕ) → end_of (d ∷ ds) p ≡ end_of ds (p + drawable_size d)
unfolding end_of
end_cons d ds p = refl

end_none : (p : ℕ) → end_of [] p ≡ p
unfolding end_of
end_none p = refl

-- row k's drawable, as the code lends its pixels
abbrev pub row_lent : List ℕ → List ℕ → List ℕ → ℕ → ℕ → ℕ → Drawable
row_lent table names pixels k at end = row_drawable table names k (take (end - at) (drop at pixels))

module _ (table names pixels : List ℕ) (n : ℕ) where
  -- all drawables, and those that are left from row k on
  abbrev pub all : List Drawable
  all = drawables_from table n 0 names pixels

  abbrev pub rest : ℕ → ℕ → List Drawable
  rest k at = drawables_from table (n - k) k names (drop at pixels)

  pub rows_all : rest 0 0 ≡ all
  rows_all = rw sub-zero

  pub rows_none : (k at : ℕ) → n ≤ k → rest k at ≡ []
  unfolding drawables_from
  rows_none k at h = rw (rest_empty n k h)

  pub rows_step : (k at end : ℕ) → k < n → end ≡ at + pixel_size (row_at table k)
      → rest k at ≡ row_lent table names pixels k at end ∷ rest (k + 1) end
  unfolding drawables_from
  rows_step k at end h e =
      let long : end - at ≡ pixel_size (row_at table k) = omega arith in
      rw (rest_begins n k h, drop-drop, long, e)

  module _ (start : ℕ) where
    pub record RowsLeft (k at to : ℕ) : Type 0 where
      pub pixels_left : PixelsLeft table n k at
      pub end : end_of (rest k at) to ≡ end_of all start

    pub rows_first : RowsLeft 0 0 start
    rows_first = record { pixels_left = pixels_first table n; end = rw rows_all }

    -- what is asked to find where row k's pixels end
    pub row_asked : {k at to : ℕ} → RowsLeft k at to → k < n → RowsReady table names pixels n
        → InRange (row_at table k) × ((k < table_rows) × (at ≤ pixel_limit * k))
    row_asked {k} g h r = (r.range k h, (omega (arith, r.few), g.pixels_left.most))

    module _ {k at to end : ℕ} (g : RowsLeft k at to) (h : k < n) (e : end ≡ at + pixel_size (row_at table k)) where
      end_step : end_of (rest (k + 1) end) (to + drawable_size (row_lent table names pixels k at end)) ≡ end_of all start
      end_step = rw (rows_step k at end h e, end_cons) at g.end

      pub row_room : to + drawable_size (row_lent table names pixels k at end) ≤ end_of all start
      row_room = omega (arith, end_step, end_most (rest (k + 1) end) (to + drawable_size (row_lent table names pixels k at end)))

      pub rows_next : {q : ℕ} → end ≤ pixel_limit * (k + 1) → q ≡ to + drawable_size (row_lent table names pixels k at end)
          → RowsLeft (k + 1) end q
      rows_next l m = record { pixels_left = pixels_next g.pixels_left h e l; end = rw m end_step }

      module _ (r : RowsReady table names pixels n) where
        pub row_lent_lem : end ≤ length pixels
        row_lent_lem = rw r.whole (pixels_inside g.pixels_left h e)

        pub row_ready : RowReady table names k (take (end - at) (drop at pixels))
        row_ready =
            let long : end - at ≡ pixel_size (row_at table k) = omega arith in
            record {
              drawn = record {
                range = r.range k h;
                whole = rw long (part_length pixels at (pixel_size (row_at table k)) (omega (arith, row_lent_lem)));
              };
              named = r.named k h;
              short = r.short k h;
            }

    pub rows_end : {k at to : ℕ} → RowsLeft k at to → n ≤ k → to ≡ end_of all start
    rows_end {k} {at} g h = rw (rows_none k at h, end_none) at g.end
