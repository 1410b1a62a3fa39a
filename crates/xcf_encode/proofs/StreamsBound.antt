-- How long the encodings of several streams can be: by induction over the streams, each at most as long as `bound` says.
--     all_bound                      over the count of streams
--     parts_within, planes_within    the streams that it is for
-- Assumes nothing.
use mathlib.Core.List.{List, [], ◌∷◌, flat_map}
use Prim.Native.Nat.{ℕ, zero, suc, ◌+◌, ◌*◌, ◌≤◌}
use native.Mathlib.Omega.{arith}
use lib.ListN.{length, take, drop, length-append, length-take}
use Rattle.xcf_encode.specs.Tile.{plane, planes}
use Rattle.xcf_encode.specs.Parts.{most_bytes, parts}
use Rattle.xcf_segment.specs.Segment.{encode_stream}
use Rattle.xcf_encode.proofs.Planes.{plane_length}
use Rattle.xcf_segment.proofs.Bound.{bound}

-- so many streams of at most n bytes
pub data Within (n : ℕ) : ℕ → List (List ℕ) → Type 0 where
  none : Within n 0 []
  more : {count : ℕ} {ps : List (List ℕ)} (p : List ℕ) → length p ≤ n → Within n count ps → Within n (suc count) (p ∷ ps)

pub all_bound : {n count : ℕ} {ps : List (List ℕ)} → Within n count ps → length (flat_map encode_stream ps) ≤ count * most_bytes n
unfolding flat_map
all_bound none = omega arith
all_bound (more p h w) = rw length-append (omega (arith, bound p, all_bound w))

pub parts_within : (count at n : ℕ) (planar : List ℕ) → Within n count (parts count at n planar)
unfolding parts
parts_within zero at n planar = none
parts_within (suc count) at n planar = more (take n (drop at planar)) (omega (arith, length-take n (drop at planar))) (parts_within count (at + n) n planar)

pub planes_within : (count k n depth : ℕ) (pixels : List ℕ) → Within n count (planes count k n depth pixels)
unfolding planes
planes_within zero k n depth pixels = none
planes_within (suc count) k n depth pixels = more (plane n k depth pixels) (omega (arith, plane_length n k depth pixels)) (planes_within count (k + 1) n depth pixels)
