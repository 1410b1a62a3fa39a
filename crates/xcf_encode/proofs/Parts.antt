-- Streams one behind the other, taken from the front: what is left behind the first is `parts` from the start again.
--     parts_next, parts_none    the first, and none
--     parts_short, all_bound    each is short, and so are their encodings
-- Assumes nothing.
use mathlib.Core.Path.{◌≡◌, refl, ap}
use mathlib.Core.List.{List, [], ◌∷◌, flat_map, append-nil}
use Prim.Native.Nat.{ℕ, zero, suc, ◌+◌, ◌-◌, ◌≤◌, ◌<◌}
use native.Mathlib.Nat.{mul-le-mul, zero-add}
use native.Mathlib.Numerals.{sub-one}
use native.Mathlib.Omega.{arith}
use lib.ListN.{length, take, drop, length-take}
use lib.Seq.{drop-drop, take-length}
use Rattle.std.specs.List.{All}
use Rattle.std.proofs.lemmas.List.Elements.{All-nil, All-cons}
use Rattle.xcf_numbers.specs.Limit.{depth_limit, stream_limit}
use Rattle.xcf_segment.specs.Segment.{encode_stream}
use Rattle.xcf_encode.specs.Tile.{planes, encode_tile}
use Rattle.xcf_encode.specs.Parts.{most_bytes, parts}
use Rattle.xcf_encode.proofs.StreamsBound.{all_bound, parts_within}

parts_drop : (count at n : ℕ) (planar : List ℕ) → parts count at n planar ≡ parts count 0 n (drop at planar)
unfolding parts
parts_drop zero at n planar = refl
parts_drop (suc count) at n planar =
    let behind : drop n (drop at planar) ≡ drop (at + n) planar = drop-drop n at planar in
    rw (zero-add n, parts_drop count (at + n) n planar, parts_drop count n n (drop at planar), behind)

pub parts_next : (count n : ℕ) (rest : List ℕ) → 0 < count → parts count 0 n rest ≡ take n rest ∷ parts (count - 1) 0 n (drop n rest)
unfolding parts
parts_next zero n rest h = absurd (omega arith)
parts_next (suc count) n rest h = rw (sub-one, zero-add n, parts_drop count n n rest)

pub parts_none : (count n : ℕ) (rest : List ℕ) → count ≡ 0 → parts count 0 n rest ≡ []
unfolding parts
parts_none count n rest e = rw e

abbrev pub Short : List ℕ → Type 0
Short p = length p ≤ stream_limit

pub parts_short : (count at n : ℕ) (planar : List ℕ) → n ≤ stream_limit → All Short (parts count at n planar)
unfolding parts
parts_short zero at n planar h = All-nil Short
parts_short (suc count) at n planar h =
    All-cons Short (take n (drop at planar)) (parts count (at + n) n planar) (omega (arith, length-take n (drop at planar))) (parts_short count (at + n) n planar h)

-- the encodings of short and few streams
pub parts_small : (count n : ℕ) (planar : List ℕ) → n ≤ stream_limit → count ≤ depth_limit → length (flat_map encode_stream (parts count 0 n planar)) ≤ 65536
parts_small count n planar short few =
    let most : most_bytes n ≤ 4161 = omega arith in
    omega (arith, all_bound (parts_within count 0 n planar), mul-le-mul few most)

-- the encodings of a tile's streams are the tile's
pub tile_encoding : (n depth : ℕ) (pixels planar : List ℕ) → parts depth 0 n planar ≡ planes depth 0 n depth pixels → flat_map encode_stream (parts depth 0 n planar) ≡ encode_tile n depth pixels
unfolding encode_tile
tile_encoding n depth pixels planar e = ap (flat_map encode_stream) e

-- the encoding of one stream
pub one_encoding : (stream : List ℕ) → flat_map encode_stream (parts 1 0 (length stream) stream) ≡ encode_stream stream
unfolding parts flat_map
one_encoding stream = rw (take-length, append-nil)
