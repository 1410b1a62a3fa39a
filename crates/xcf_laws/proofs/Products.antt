-- What the products of sizes are bound by.
-- Assumes nothing.
use Prim.Native.Nat.{ℕ, ◌*◌, ◌≤◌}
use native.Mathlib.Nat.{mul-le-mul}
use Rattle.xcf_numbers.specs.Limit.{depth_limit, tile_side, stream_limit, tile_size}

pub small : {w h depth : ℕ} → w ≤ tile_side → h ≤ tile_side → depth ≤ depth_limit → (w * h ≤ stream_limit) × (w * h * depth ≤ tile_size)
small a b c = (mul-le-mul a b, mul-le-mul (mul-le-mul a b) c)
