-- Tile t put at its place in a row's pixels: its frame lies there (`tile_framed`), the length stays (`put_tile-length`), the pixels
-- whose tile is t are the tile's (`put_tile-own`), and the others stay (`put_tile-other`). A pixel's column and line of tiles are its
-- tile's, and a pixel of tile t's frame has tile t.
-- Assumes nothing.
use Prim.Native.Nat.{ℕ, ◌+◌, ◌*◌, ◌/◌, ◌%◌, ◌≤◌, ◌<◌}
use mathlib.Core.Path.{◌≡◌, sym, ap, ◌∙◌}
use mathlib.Core.Logic.{◌≢◌}
use mathlib.Core.List.{List}
use native.Mathlib.Omega.{arith}
use lib.ListN.{length, get_or}
use Rattle.xcf_numbers.specs.Limit.{tile_side}
use Rattle.xcf_table.specs.declared.Row.{Row}
use Rattle.xcf_grid.specs.Grid.{tiles_along, tile_width, tile_height, tile_count}
use Rattle.xcf_grid.specs.Pixels.{tile_at, pixel_in, byte_of}
use Rattle.xcf_grid.specs.Parts.{frame_of, put_frame, Framed}
use Rattle.xcf_grid.proofs.Grid.{tile_column, tile_line, frame_across, frame_down, tile_of_pixel}
use Rattle.xcf_grid.proofs.PutFrame.{put_frame-length, put_frame-inside, put_frame-outside}

-- tile t's frame lies in the row's drawable
pub tile_framed : {r : Row} {t tileLength pixelsLength : ℕ} → 1 ≤ r.width → t < tile_count r.width r.height
    → tile_width r.width t * tile_height r.width r.height t * r.depth ≤ tileLength → pixelsLength ≡ r.width * r.height * r.depth
    → Framed r (frame_of r t) tileLength pixelsLength
tile_framed {r} {t} some below source target = record {
  across = frame_across r.width t some;
  down = frame_down r.width r.height t some below;
  source = source;
  target = target;
}

-- the row has tile t, and its pixels and the tile's are there
pub record Put (r : Row) (pixels : List ℕ) (t : ℕ) (tile : List ℕ) : Type 0 where
  pub some : 1 ≤ r.width
  pub below : t < tile_count r.width r.height
  pub source : tile_width r.width t * tile_height r.width r.height t * r.depth ≤ length tile
  pub target : length pixels ≡ r.width * r.height * r.depth

module _ {r : Row} {pixels : List ℕ} {t : ℕ} {tile : List ℕ} (p : Put r pixels t tile) where
  framed : Framed r (frame_of r t) (length tile) (length pixels)
  framed = tile_framed p.some p.below p.source p.target

  pub put_tile-length : length (put_frame pixels r.width r.depth (frame_of r t) tile) ≡ length pixels
  put_tile-length = put_frame-length tile pixels framed

  pub put_tile-own : (x y k : ℕ) → x < r.width → y < r.height → k < r.depth → tile_at r.width x y ≡ t
      → get_or (put_frame pixels r.width r.depth (frame_of r t) tile) (byte_of r.width r.depth x y k) 0
      ≡ get_or tile (r.depth * pixel_in r.width x y + k) 0
  put_tile-own x y k wide high deep own =
      let column : x / tile_side ≡ t % tiles_along r.width = sym (tile_column r.width x y wide) ∙ ap (λ n. n % tiles_along r.width) own in
      let line : y / tile_side ≡ t / tiles_along r.width = sym (tile_line r.width x y wide) ∙ ap (λ n. n / tiles_along r.width) own in
      let across : tile_side * (t % tiles_along r.width) + x % tile_side ≡ x = omega (arith, column) in
      let down : tile_side * (t / tiles_along r.width) + y % tile_side ≡ y = omega (arith, line) in
      rw column
      (rw (across, down) at
      (put_frame-inside tile pixels framed (x % tile_side) (y % tile_side) k (omega (arith, column, wide)) (omega (arith, line, high)) deep))

  pub put_tile-other : (x y k : ℕ) → x < r.width → k < r.depth → tile_at r.width x y ≢ t
      → get_or (put_frame pixels r.width r.depth (frame_of r t) tile) (byte_of r.width r.depth x y k) 0
      ≡ get_or pixels (byte_of r.width r.depth x y k) 0
  put_tile-other x y k wide deep other =
      put_frame-outside tile pixels framed x y k wide deep
      (λ left right top bottom. other (tile_of_pixel r.width r.height t x y (record { left = left; right = right; top = top; bottom = bottom })))
