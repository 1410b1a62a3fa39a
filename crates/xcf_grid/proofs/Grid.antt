-- Pixels and their tiles: the tile of a pixel is one of the drawable's (`tile_below`), in the pixel's column and line of tiles
-- (`tile_column`, `tile_line`); tile t stands inside the drawable (`frame_across`, `frame_down`), has sides of 1 to 64 (`tile_width_lem`,
-- `tile_height_lem`), and has the pixels from its corner on (`tile_of_frame`) and no others (`tile_of_pixel`). By arithmetic.
-- Assumes nothing.
use Prim.Native.Nat.{ℕ, zero, ◌+◌, ◌-◌, ◌*◌, ◌/◌, ◌%◌, ◌≤◌, ◌<◌}
use mathlib.Core.Path.{◌≡◌, ◌∙◌, ap}
use native.Mathlib.Nat.{mod-lt, mod-eq_of_lt, div-eq_of_lt, mul-add-mod_self_right, mul-add-div_right, mul-le-mul, div-lt_iff_lt-mul, div-add-mod, add-zero}
use native.Mathlib.Omega.{arith}
use Rattle.xcf_numbers.specs.Limit.{tile_side}
use Rattle.xcf_grid.specs.Grid.{tiles_along, side_of, tile_count, tile_width, tile_height}
use Rattle.xcf_grid.specs.Pixels.{HasPixel, tile_at}

column_below : (w x : ℕ) → x < w → x / tile_side < tiles_along w
column_below w x h = omega (arith, h)

pub tile_column : (w x y : ℕ) → x < w → tile_at w x y % tiles_along w ≡ x / tile_side
tile_column w x y h = mul-add-mod_self_right (y / tile_side) (tiles_along w) (x / tile_side) ∙ mod-eq_of_lt (column_below w x h)

pub tile_line : (w x y : ℕ) → x < w → tile_at w x y / tiles_along w ≡ y / tile_side
tile_line w x y h =
    let below = column_below w x h in
    let some : zero < tiles_along w = omega (arith, below) in
    mul-add-div_right some (y / tile_side) (x / tile_side) ∙ ap (λ k. y / tile_side + k) (div-eq_of_lt below) ∙ add-zero (y / tile_side)

pub tile_below : (w h x y : ℕ) → x < w → y < h → tile_at w x y < tile_count w h
tile_below w h x y wide high =
    let column = column_below w x wide in
    let lines : y / tile_side + 1 ≤ tiles_along h = omega (arith, column_below h y high) in
    omega (arith, column, mul-le-mul lines (let e : tiles_along w ≤ tiles_along w = omega arith in e))

pub frame_across : (w t : ℕ) → 1 ≤ w → tile_side * (t % tiles_along w) + side_of w (t % tiles_along w) ≤ w
frame_across w t some =
    let below = mod-lt t (let e : zero < tiles_along w = omega (arith, some) in e) in
    omega (arith, below, some)

line_below : (w h t : ℕ) → 1 ≤ w → t < tile_count w h → t / tiles_along w < tiles_along h
line_below w h t some below = (div-lt_iff_lt-mul (let e : zero < tiles_along w = omega (arith, some) in e)).1 (omega (arith, below))

pub frame_down : (w h t : ℕ) → 1 ≤ w → t < tile_count w h → tile_side * (t / tiles_along w) + side_of h (t / tiles_along w) ≤ h
frame_down w h t some below = omega (arith, line_below w h t some below)

-- its sides are 1 to 64
pub tile_width_lem : (w t : ℕ) → 1 ≤ w → (1 ≤ tile_width w t) × (tile_width w t ≤ tile_side)
tile_width_lem w t some =
    let below = mod-lt t (let e : zero < tiles_along w = omega (arith, some) in e) in
    (omega (arith, below, some), omega arith)

pub tile_height_lem : (w h t : ℕ) → 1 ≤ w → t < tile_count w h → (1 ≤ tile_height w h t) × (tile_height w h t ≤ tile_side)
tile_height_lem w h t some below = (omega (arith, line_below w h t some below), omega arith)

pub tile_of_frame : (w t x y : ℕ) → x < tile_side → y < tile_side → tile_at w (tile_side * (t % tiles_along w) + x) (tile_side * (t / tiles_along w) + y) ≡ t
tile_of_frame w t x y wide high =
    let column : (tile_side * (t % tiles_along w) + x) / tile_side ≡ t % tiles_along w = omega (arith, wide) in
    let line : (tile_side * (t / tiles_along w) + y) / tile_side ≡ t / tiles_along w = omega (arith, high) in
    rw (column, line) (omega (arith, div-add-mod t (tiles_along w)))

-- so a tile that has a pixel is the pixel's tile
pub tile_of_pixel : (w h t x y : ℕ) → HasPixel w h t x y → tile_at w x y ≡ t
tile_of_pixel w h t x y p =
    let px = x - tile_side * (t % tiles_along w) in
    let py = y - tile_side * (t / tiles_along w) in
    let across : tile_side * (t % tiles_along w) + px ≡ x = omega (arith, p.left) in
    let down : tile_side * (t / tiles_along w) + py ≡ y = omega (arith, p.top) in
    rw (across, down) at (tile_of_frame w t px py (omega (arith, p.left, p.right)) (omega (arith, p.top, p.bottom)))
