-- What the decoding of a drawable shows of a tile: the tile's mark and the tile's pixels.
-- Assumes nothing.
use Prim.Native.Nat.{ℕ, ◌≤◌, ◌<◌}
use mathlib.Core.Path.{◌≡◌}
use mathlib.Core.List.{List}
use native.Mathlib.Nat.{zero-add}
use native.Mathlib.Omega.{arith}
use lib.ListN.{get_or}
use Rattle.xcf_table.specs.declared.Row.{Row}
use Rattle.xcf_grid.specs.Grid.{tile_count}
use Rattle.xcf_tile_laws.proofs.Pixels.{pixels_length}
use Rattle.xcf_window.specs.Window.{tile}
use Rattle.xcf_grid.specs.Pixels.{shown}
use Rattle.xcf_decode.specs.Answer.{marks_of, row_decoding}
use Rattle.xcf_grid.proofs.Tabulated.{tabulate_entry}
use Rattle.xcf_grid.proofs.PixelLaws.{tile_shown}

module _ (size : ℕ) (f : List ℕ) (r : Row) (compression : ℕ) (wide : 1 ≤ r.width) (deep : 1 ≤ r.depth)
    (count : r.count ≡ tile_count r.width r.height) (t : ℕ) (below : t < r.count) where
  mark_shown : get_or (row_decoding size f r compression).marks t 0 ≡ (tile size f r compression t).mark
  unfolding row_decoding marks_of
  mark_shown = rw zero-add at (tabulate_entry r.count 0 (λ i. (tile size f r compression i).mark) t below)

  pixels_shown : shown r.width r.height r.depth t (row_decoding size f r compression).pixels ≡ (tile size f r compression t).pixels
  unfolding row_decoding tile
  pixels_shown =
      tile_shown (λ i. (tile size f r compression i).pixels) r.width r.height r.depth t wide deep (omega arith) (pixels_length _ _ _ _ compression)

  pub row_shows : (get_or (row_decoding size f r compression).marks t 0 ≡ (tile size f r compression t).mark)
      × (shown r.width r.height r.depth t (row_decoding size f r compression).pixels ≡ (tile size f r compression t).pixels)
  row_shows = (mark_shown, pixels_shown)
