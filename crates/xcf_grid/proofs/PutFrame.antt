-- A tile put at its frame's place in the pixels: its lines fit there (`frame_fits`), the length stays (`put_frame-length`), a pixel of
-- the frame is the tile's (`put_frame-inside`), and any other pixel stays (`put_frame-outside`), since a byte in a line of the frame is
-- a byte of a pixel there.
-- Assumes nothing.
use Prim.Native.Nat.{ℕ, ◌+◌, ◌-◌, ◌*◌, ◌≤◌, ◌<◌}
use mathlib.Core.Path.{◌≡◌, ap}
use mathlib.Core.List.{List}
use native.Mathlib.Omega.{arith}
use native.Mathlib.Nat.{mul-le-mul_left, lt_of_mul-lt-mul_left}
use lib.ListN.{length, get_or}
use Rattle.xcf_numbers.specs.Limit.{tile_side}
use Rattle.xcf_table.specs.declared.Row.{Row}
use Rattle.xcf_grid.specs.declared.frame.Frame.{Frame}
use Rattle.xcf_grid.specs.Pixels.{byte_of}
use Rattle.xcf_grid.specs.Parts.{put_frame, LineFits, Framed}
use Rattle.xcf_grid.proofs.PutLines.{put_lines-length, put_lines-inside, put_lines-outside}

-- a whole number of units is at most another with a part of a unit
whole_le : (unit a b part : ℕ) → part < unit → unit * a ≤ unit * b + part → a ≤ b
whole_le unit a b part less h =
    let below : a < b + 1 = lt_of_mul-lt-mul_left unit (omega (arith, less, h)) in omega (arith, below)

module _ (w d x y k : ℕ) (wide : x < w) (deep : k < d) (column line width : ℕ) (across : column + width ≤ w) where
  -- a byte of pixel (x, y) that lies in a line's bytes makes (x, y) a pixel of that line
  pixel_of_byte : d * (w * line + column) ≤ byte_of w d x y k → byte_of w d x y k < d * (w * line + column) + d * width
      → (y ≡ line) × (column ≤ x) × (x < column + width)
  pixel_of_byte low high =
      let from : w * line + column ≤ w * y + x = whole_le d _ _ k deep low in
      let below : w * y + x < w * line + column + width = lt_of_mul-lt-mul_left d (omega (arith, high)) in
      let least : line ≤ y = whole_le w line y x wide (omega (arith, from)) in
      let most : y ≤ line = whole_le w y line (w - 1) (omega (arith, wide)) (omega (arith, below, across)) in
      let e : y ≡ line = omega (arith, least, most) in
      let same : w * y ≡ w * line = ap (λ n. w * n) e in
      (e, omega (arith, from, same), omega (arith, below, same))

module _ {r : Row} {s : Frame} (tile pixels : List ℕ) (f : Framed r s (length tile) (length pixels)) where
  abbrev w : ℕ
  w = r.width

  abbrev d : ℕ
  d = r.depth

  abbrev corner : ℕ
  corner = d * (tile_side * (w * s.line + s.column))

  pub frame_fits : LineFits pixels corner (d * w) tile 0 (d * s.width) s.height
  frame_fits = record {
    source = omega (arith, f.source);
    target = omega (arith, f.target, mul-le-mul_left d f.across, mul-le-mul_left d (mul-le-mul_left w f.down));
  }

  pub put_frame-length : length (put_frame pixels w d s tile) ≡ length pixels
  unfolding put_frame
  put_frame-length = put_lines-length (d * w) tile (d * s.width) pixels corner 0 s.height frame_fits

  -- pixel (px, py) of the frame
  pub put_frame-inside : (px py k : ℕ) → px < s.width → py < s.height → k < d
      → get_or (put_frame pixels w d s tile) (byte_of w d (tile_side * s.column + px) (tile_side * s.line + py) k) 0
      ≡ get_or tile (d * (py * s.width + px) + k) 0
  unfolding put_frame
  put_frame-inside px py k wide high deep =
      let place : byte_of w d (tile_side * s.column + px) (tile_side * s.line + py) k ≡ corner + d * w * py + (d * px + k) = omega arith in
      let origin : d * (py * s.width + px) + k ≡ 0 + d * s.width * py + (d * px + k) = omega arith in
      rw (place, origin)
      (put_lines-inside (d * w) tile (d * s.width) (omega (arith, mul-le-mul_left d f.across)) pixels corner 0 s.height frame_fits py (d * px + k) high
      (omega (arith, deep, mul-le-mul_left d wide)))

  pub put_frame-outside : (x y k : ℕ) → x < w → k < d
      → (tile_side * s.column ≤ x → x < tile_side * s.column + s.width → tile_side * s.line ≤ y → y < tile_side * s.line + s.height → ⊥)
      → get_or (put_frame pixels w d s tile) (byte_of w d x y k) 0 ≡ get_or pixels (byte_of w d x y k) 0
  unfolding put_frame
  put_frame-outside x y k wide deep out =
      put_lines-outside (d * w) tile (d * s.width) pixels corner 0 s.height frame_fits (byte_of w d x y k) none
    where
      none : (j : ℕ) → j < s.height → corner + d * w * j ≤ byte_of w d x y k → byte_of w d x y k < corner + d * w * j + d * s.width → ⊥
      none j below low high =
          let p =
          pixel_of_byte w d x y k wide deep (tile_side * s.column) (tile_side * s.line + j) s.width f.across (omega (arith, low))
          (omega (arith, high)) in
          out p.1 p.2 (omega (arith, p.0)) (omega (arith, p.0, below))
