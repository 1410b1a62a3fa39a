-- The tests on a tile's sizes as bounds.
-- Assumes nothing.
use mathlib.Core.Path.{◌≡◌}
use mathlib.Core.Bool.{true, ◌&&◌, and-eq-true_iff}
use Prim.Native.Nat.{ℕ, ◌≤◌}
use Rattle.xcf_numbers.specs.Limit.{depth_limit, tile_side}
use Rattle.xcf_range.specs.Range.{within}
use Rattle.xcf_tile.specs.Answer.{usable_tile}
use Rattle.xcf_range.proofs.Bounds.{within_bounds}

pub usable_bounds : (w h depth : ℕ) → usable_tile w h depth ≡ true → (w ≤ tile_side) × ((h ≤ tile_side) × (depth ≤ depth_limit))
unfolding usable_tile
usable_bounds w h depth e =
    let p = (and-eq-true_iff (within 1 tile_side w && within 1 tile_side h) (within 1 depth_limit depth)).0 e in
    let q = (and-eq-true_iff (within 1 tile_side w) (within 1 tile_side h)).0 p.0 in
    ((within_bounds 1 tile_side w q.0).1, ((within_bounds 1 tile_side h q.1).1, (within_bounds 1 depth_limit depth p.1).1))
