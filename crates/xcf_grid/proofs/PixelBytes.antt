-- The bytes of pixels: each byte of a drawable is one of a pixel's (`byte_pixel`, `byte_high`), each byte of a pixel is one of its
-- tile's (`byte_in_tile`), and the bytes of `pixels_of` are those of the pixels' tiles (`pixels_of-length`, `pixels_of-entry`).
-- Assumes nothing.
use Prim.Native.Nat.{ℕ, ◌+◌, ◌*◌, ◌/◌, ◌%◌, ◌≤◌, ◌<◌}
use mathlib.Core.Path.{◌≡◌, ap, ◌∙◌}
use mathlib.Core.List.{List}
use native.Mathlib.Omega.{arith}
use native.Mathlib.Nat.{div-add-mod, div-lt_iff_lt-mul, zero-add}
use lib.ListN.{length, get_or}
use Rattle.xcf_numbers.specs.Limit.{tile_side}
use Rattle.xcf_grid.specs.Grid.{side_of, tile_width, tile_height}
use Rattle.xcf_grid.specs.Pixels.{tile_at, pixel_in, byte_of, byte_in, pixels_of}
use Rattle.xcf_grid.proofs.Grid.{tile_column, tile_line}
use Rattle.xcf_grid.proofs.Places.{place_below}
use Rattle.xcf_grid.proofs.Tabulated.{tabulate_length, tabulate_entry}

-- byte k of pixel (px, py) of a rectangle is one of the rectangle's
pub byte_inside : (width height depth px py k : ℕ) → px < width → py < height → k < depth → depth * (width * py + px) + k < width * height * depth
byte_inside width height depth px py k wide high deep =
    omega (arith, place_below depth (width * height) (width * py + px) k deep (place_below width height py px wide high))

pub byte_in_tile : (w h d x y k : ℕ) → x < w → y < h → k < d
    → d * pixel_in w x y + k < tile_width w (tile_at w x y) * tile_height w h (tile_at w x y) * d
byte_in_tile w h d x y k wide high deep =
    let inside = byte_inside (side_of w (x / tile_side)) (side_of h (y / tile_side)) d (x % tile_side) (y % tile_side) k (omega (arith, wide)) (omega (arith, high)) deep in
    rw (tile_column w x y wide, tile_line w x y wide) (omega (arith, inside))

-- byte i of the drawable is one of pixel (i / d % w, i / d / w)
pub byte_pixel : (w d i : ℕ) → byte_of w d (i / d % w) (i / d / w) (i % d) ≡ i
byte_pixel w d i = rw div-add-mod (div-add-mod i d)

pub byte_high : (w h d i : ℕ) → 1 ≤ w → 1 ≤ d → i < w * h * d → i / d / w < h
byte_high w h d i wide deep below =
    let pixel : i / d < h * w = (div-lt_iff_lt-mul deep).1 (omega (arith, below)) in (div-lt_iff_lt-mul wide).1 pixel

module _ (tiles : ℕ → List ℕ) (w h d : ℕ) where
  pub pixels_of-length : length (pixels_of tiles w h d) ≡ w * h * d
  unfolding pixels_of
  pixels_of-length = tabulate_length (w * h * d) 0 _

  pub pixels_of-entry : (i : ℕ) → i < w * h * d → get_or (pixels_of tiles w h d) i 0 ≡ byte_in tiles w d (i / d % w) (i / d / w) (i % d)
  unfolding pixels_of
  pixels_of-entry i below =
      tabulate_entry (w * h * d) 0 _ i below ∙ ap (λ n. byte_in tiles w d (n / d % w) (n / d / w) (n % d)) (zero-add i)
