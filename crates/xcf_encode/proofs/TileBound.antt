-- A tile's encoding is bounded.
-- Assumes nothing.
use mathlib.Core.List.{List}
use Prim.Native.Nat.{ℕ, ◌≤◌}
use native.Mathlib.Nat.{mul-le-mul}
use native.Mathlib.Omega.{arith}
use lib.ListN.{length}
use Rattle.xcf_numbers.specs.Limit.{depth_limit, stream_limit, encoded_size}
use Rattle.xcf_encode.specs.Tile.{encode_tile}
use Rattle.xcf_encode.specs.Parts.{most_bytes}
use Rattle.xcf_encode.proofs.StreamsBound.{all_bound, planes_within}

-- a plane takes 4096 + 3 + 2 * 31 bytes at most
pub tile_bound : (n depth : ℕ) (pixels : List ℕ) → n ≤ stream_limit → depth ≤ depth_limit → length (encode_tile n depth pixels) ≤ encoded_size
unfolding encode_tile
tile_bound n depth pixels h d =
    let most : most_bytes n ≤ 4161 = omega arith in
    omega (arith, all_bound (planes_within depth 0 n depth pixels), mul-le-mul d most)
