-- The pixels of a drawable, by the pixel and by the tile: byte k of pixel (x, y) is byte k of that pixel in its own tile
-- (`pixel_byte`), each pixel has exactly one tile (`one_tile`), and what the pixels show of a tile is that tile (`tile_shown`).
-- By the arithmetic of the grid.
-- Assumes nothing.
use Prim.Native.Nat.{ℕ, zero, ◌+◌, ◌*◌, ◌/◌, ◌%◌, ◌≤◌, ◌<◌}
use mathlib.Core.Path.{◌≡◌, refl, ◌∙◌, sym, ap}
use mathlib.Core.List.{List}
use native.Mathlib.Nat.{mod-lt, div-add-mod, div-lt_iff_lt-mul, zero-add}
use native.Mathlib.Omega.{arith}
use lib.ListN.{length, get_or}
use lib.Seq.{ext_get_or}
use Rattle.xcf_numbers.specs.Limit.{tile_side}
use Rattle.xcf_grid.specs.Grid.{tiles_along, tile_width, tile_height, tile_count}
use Rattle.xcf_grid.specs.Pixels.{tabulate, tile_at, pixel_in, byte_of, byte_in, pixels_of, place_of, HasPixel, shown}
use Rattle.xcf_grid.proofs.Grid.{tile_column, tile_line, tile_below, frame_across, frame_down, tile_of_frame, tile_of_pixel}
use Rattle.xcf_grid.proofs.Places.{place_row, place_column}
use Rattle.xcf_grid.proofs.PixelBytes.{byte_inside, pixels_of-entry}
use Rattle.xcf_grid.proofs.Tabulated.{tabulate_length, tabulate_entry}

pub pixel_byte : (tiles : ℕ → List ℕ) (w h d x y k : ℕ) → x < w → y < h → k < d
    → get_or (pixels_of tiles w h d) (byte_of w d x y k) 0 ≡ byte_in tiles w d x y k
pixel_byte tiles w h d x y k wide high deep =
    let p = w * y + x in
    pixels_of-entry tiles w h d (byte_of w d x y k) (byte_inside w h d x y k wide high deep)
    ∙ rw (place_row d p k deep, place_column d p k deep, place_row w y x wide, place_column w y x wide) refl

-- a pixel's tile has it
has_pixel : (w h x y : ℕ) → x < w → y < h → HasPixel w h (tile_at w x y) x y
has_pixel w h x y wide high =
    let column = tile_column w x y wide in
    let line = tile_line w x y wide in
    record {
      left = rw column (omega arith);
      right = rw column (omega (arith, wide));
      top = rw line (omega arith);
      bottom = rw line (omega (arith, high));
    }

pub one_tile : (w h x y : ℕ) → x < w → y < h
    → (tile_at w x y < tile_count w h) × HasPixel w h (tile_at w x y) x y × ((t : ℕ) → t < tile_count w h → HasPixel w h t x y → t ≡ tile_at w x y)
one_tile w h x y wide high = (tile_below w h x y wide high, has_pixel w h x y wide high, λ t below has. sym (tile_of_pixel w h t x y has))

-- the pixel x to the right of tile t's corner and y below it, by its number in the tile
pixel_of_frame : (w t x y : ℕ) → x < tile_side → y < tile_side
    → pixel_in w (tile_side * (t % tiles_along w) + x) (tile_side * (t / tiles_along w) + y) ≡ tile_width w t * y + x
pixel_of_frame w t x y wide high =
    let column = t % tiles_along w in
    rw (place_row tile_side column x wide, place_column tile_side column x wide, place_column tile_side (t / tiles_along w) y high) (omega arith)

-- and by its bytes
frame_byte : (tiles : ℕ → List ℕ) (w h d t x y k : ℕ) → 1 ≤ w → t < tile_count w h → x < tile_width w t → y < tile_height w h t → k < d
    → get_or (pixels_of tiles w h d) (byte_of w d (tile_side * (t % tiles_along w) + x) (tile_side * (t / tiles_along w) + y) k) 0
    ≡ get_or (tiles t) (d * (tile_width w t * y + x) + k) 0
frame_byte tiles w h d t x y k some below wide high deep =
    let left = tile_side * (t % tiles_along w) in
    let top = tile_side * (t / tiles_along w) in
    let across : left + x < w = omega (arith, wide, frame_across w t some) in
    let down : top + y < h = omega (arith, high, frame_down w h t some below) in
    let near : x < tile_side = omega (arith, wide) in
    let close : y < tile_side = omega (arith, high) in
    pixel_byte tiles w h d (left + x) (top + y) k across down deep
    ∙ ap (λ p. get_or (tiles (tile_at w (left + x) (top + y))) (d * p + k) 0) (pixel_of_frame w t x y near close)
    ∙ ap (λ u. get_or (tiles u) (d * (tile_width w t * y + x) + k) 0) (tile_of_frame w t x y near close)

-- byte i of tile t, at its place in the drawable
byte_shown : (tiles : ℕ → List ℕ) (w h d t i : ℕ) → 1 ≤ w → 1 ≤ d → t < tile_count w h → i < tile_width w t * tile_height w h t * d
    → get_or (pixels_of tiles w h d) (place_of w d t i) 0 ≡ get_or (tiles t) i 0
byte_shown tiles w h d t i wide deep below inside =
    let p = i / d in
    let m = tile_width w t in
    let columns : zero < tiles_along w = omega (arith, wide) in
    let some : zero < m = omega (arith, mod-lt t columns) in
    let pixel : p < m * tile_height w h t = (div-lt_iff_lt-mul deep).1 inside in
    let line : p / m < tile_height w h t = (div-lt_iff_lt-mul some).1 (omega (arith, pixel)) in
    frame_byte tiles w h d t (p % m) (p / m) (i % d) wide below (mod-lt p some) line (mod-lt i deep)
    ∙ ap (λ q. get_or (tiles t) (d * q + i % d) 0) (div-add-mod p m)
    ∙ ap (λ j. get_or (tiles t) j 0) (div-add-mod i d)

pub tile_shown : (tiles : ℕ → List ℕ) (w h d t : ℕ) → 1 ≤ w → 1 ≤ d → t < tile_count w h
    → length (tiles t) ≡ tile_width w t * tile_height w h t * d
    → shown w h d t (pixels_of tiles w h d) ≡ tiles t
unfolding shown
tile_shown tiles w h d t wide deep below size =
    let n = tile_width w t * tile_height w h t * d in
    let f : ℕ → ℕ = λ i. get_or (pixels_of tiles w h d) (place_of w d t i) 0 in
    let long = tabulate_length n 0 f in
    ext_get_or 0 (tabulate n 0 f) (tiles t) (long ∙ sym size)
    (λ i inside. let e : i < n = rw long at inside in
    tabulate_entry n 0 f i e ∙ ap f (zero-add i) ∙ byte_shown tiles w h d t i wide deep below e)
