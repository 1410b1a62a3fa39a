-- A drawable's tiles are few.
-- Assumes nothing.
use Prim.Native.Nat.{ℕ, ◌≤◌}
use native.Mathlib.Nat.{mul-le-mul}
use native.Mathlib.Omega.{arith}
use Rattle.xcf_numbers.specs.Limit.{side_limit}
use Rattle.xcf_grid.specs.Grid.{tile_count, tiles_along}

pub few_tiles : (width height : ℕ) → width ≤ side_limit → height ≤ side_limit → tile_count width height ≤ 65536
few_tiles width height w h =
    let across : tiles_along width ≤ 256 = omega arith in
    let down : tiles_along height ≤ 256 = omega arith in
    mul-le-mul across down
