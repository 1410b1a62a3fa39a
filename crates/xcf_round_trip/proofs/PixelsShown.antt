-- Pixels that are cut into tiles and put together again are the same (`pixels_of_tiles`). By the byte: its place in its tile is
-- read at its own place in the pixels (`place_in_tile`).
-- Assumes nothing.
use Prim.Native.Nat.{ℕ, ◌+◌, ◌*◌, ◌/◌, ◌%◌, ◌<◌}
use mathlib.Core.Path.{◌≡◌, sym, ap, ◌∙◌}
use mathlib.Core.List.{List}
use native.Mathlib.Nat.{zero-add, mul_comm}
use native.Mathlib.Omega.{arith}
use lib.ListN.{get_or}
use Rattle.xcf_numbers.specs.Limit.{tile_side}
use Rattle.xcf_table.specs.declared.Row.{Row}
use Rattle.xcf_grid.specs.Grid.{side_of, tile_count}
use Rattle.xcf_grid.specs.Pixels.{tile_at, pixel_in, byte_of, pixels_of, place_of, shown}
use Rattle.xcf_grid.proofs.Grid.{tile_column, tile_line}
use Rattle.xcf_grid.proofs.Places.{place_row, place_column}
use Rattle.xcf_grid.proofs.PixelBytes.{byte_in_tile}
use Rattle.xcf_grid.proofs.Shown.{shown_all}
use Rattle.xcf_grid.proofs.Tabulated.{tabulate_entry}
use Rattle.xcf_grid.specs.Drawn.{Drawn}

-- pixel (x, y) has its column and its line in its tile
pixel_column : (w x y : ℕ) → x < w → pixel_in w x y % side_of w (x / tile_side) ≡ x % tile_side
pixel_column w x y wide =
    rw (mul_comm (y % tile_side) (side_of w (x / tile_side)))
    (place_column (side_of w (x / tile_side)) (y % tile_side) (x % tile_side) (omega arith))

pixel_line : (w x y : ℕ) → x < w → pixel_in w x y / side_of w (x / tile_side) ≡ y % tile_side
pixel_line w x y wide =
    rw (mul_comm (y % tile_side) (side_of w (x / tile_side)))
    (place_row (side_of w (x / tile_side)) (y % tile_side) (x % tile_side) (omega arith))

place_in_tile : (w d x y k : ℕ) → x < w → k < d → place_of w d (tile_at w x y) (d * pixel_in w x y + k) ≡ byte_of w d x y k
place_in_tile w d x y k wide deep =
    let across : tile_side * (x / tile_side) + x % tile_side ≡ x = omega arith in
    let down : tile_side * (y / tile_side) + y % tile_side ≡ y = omega arith in
    rw (
      place_row d (pixel_in w x y) k deep,
      place_column d (pixel_in w x y) k deep,
      tile_column w x y wide,
      tile_line w x y wide,
      pixel_column w x y wide,
      pixel_line w x y wide,
      across,
      down,
    )

-- so its tile shows it
byte_shown : (pixels : List ℕ) (w h d x y k : ℕ) → x < w → y < h → k < d
    → get_or (shown w h d (tile_at w x y) pixels) (d * pixel_in w x y + k) 0 ≡ get_or pixels (byte_of w d x y k) 0
unfolding shown
byte_shown pixels w h d x y k wide high deep =
    let i = d * pixel_in w x y + k in
    let f : ℕ → ℕ = λ j. get_or pixels (place_of w d (tile_at w x y) j) 0 in
    tabulate_entry _ 0 f i (byte_in_tile w h d x y k wide high deep)
    ∙ ap f (zero-add i)
    ∙ ap (λ j. get_or pixels j 0) (place_in_tile w d x y k wide deep)

pub pixels_of_tiles : {r : Row} {pixels : List ℕ} → Drawn r pixels → (tiles : ℕ → List ℕ)
    → ((t : ℕ) → t < tile_count r.width r.height → tiles t ≡ shown r.width r.height r.depth t pixels)
    → pixels_of tiles r.width r.height r.depth ≡ pixels
pixels_of_tiles {r} {pixels} drawn tiles same =
    sym (shown_all {r = r} (record {
      size = drawn.whole;
      bytes = λ x y k wide high deep below.
          sym (byte_shown pixels r.width r.height r.depth x y k wide high deep)
          ∙ ap (λ (l : List ℕ). get_or l (r.depth * pixel_in r.width x y + k) 0) (sym (same (tile_at r.width x y) below));
    }) drawn.range.wide.0 drawn.range.deep.0)
