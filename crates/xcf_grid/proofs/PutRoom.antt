-- A tile's frame in its drawable leaves room for its lines (`frame_room`), and the code's products on the way there are small
-- (`frame_small`). By arithmetic.
-- Assumes nothing.
use Prim.Native.Nat.{ℕ, ◌+◌, ◌*◌, ◌≤◌}
use mathlib.Core.List.{List}
use native.Mathlib.Nat.{mul-le-mul, mul-le-mul_left}
use native.Mathlib.Omega.{arith}
use lib.ListN.{length}
use Rattle.xcf_numbers.specs.Limit.{side_limit, tile_side}
use Rattle.xcf_table.specs.declared.Row.{Row}
use Rattle.xcf_grid.specs.declared.frame.Frame.{Frame}
use Rattle.xcf_grid.specs.Parts.{LineRoom, Placeable}
use Rattle.xcf_grid.proofs.PutFrame.{frame_fits}

-- the frame's corner, in pixels and in bytes; a line of the frame and one of the drawable, in bytes
pub record Small (r : Row) (s : Frame) : Type 0 where
  pub above : r.width * s.line ≤ 268435456
  pub corner : tile_side * (r.width * s.line + s.column) ≤ 268451840
  pub place : r.depth * (tile_side * (r.width * s.line + s.column)) ≤ 1073807360
  pub line : r.depth * s.width ≤ 65536
  pub stride : r.depth * r.width ≤ 65536

module _ {r : Row} {s : Frame} {tileLength pixelsLength : ℕ} (p : Placeable r s tileLength pixelsLength) where
  area : r.width * r.height ≤ 268435456
  area = mul-le-mul p.wide p.high

  pub frame_small : Small r s
  frame_small =
      let corner : tile_side * (r.width * s.line + s.column) ≤ 268451840 = omega (arith, mul-le-mul_left r.width p.framed.down, p.framed.across, area, p.wide) in
      record {
        above = omega (arith, corner);
        corner = corner;
        place = mul-le-mul p.deep corner;
        line = omega (arith, mul-le-mul p.deep (let e : s.width ≤ side_limit = omega (arith, p.framed.across, p.wide) in e));
        stride = mul-le-mul p.deep p.wide;
      }

pub frame_room : {r : Row} {s : Frame} (tile pixels : List ℕ) → Placeable r s (length tile) (length pixels)
    → LineRoom pixels (r.depth * (tile_side * (r.width * s.line + s.column))) (r.depth * r.width) tile 0 (r.depth * s.width) s.height
frame_room {r} {s} tile pixels p = record {
  fits = frame_fits tile pixels p.framed;
  small = omega (arith, p.framed.target, mul-le-mul (area p) p.deep, (frame_small p).stride);
}
