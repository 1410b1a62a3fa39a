-- A tile's encoding, read back, gives the tile's pixels (`tile_read_back`): its streams are read back one after the other
-- (`streams_read_back`), and the planes together are the pixels (`planes_together`).
-- Assumes nothing.
use mathlib.Core.Path.{◌≡◌, refl, ap, ◌∙◌}
use mathlib.Core.List.{List, [], ◌++◌, flat_map, append_assoc}
use Prim.Native.Nat.{ℕ, zero, suc, ◌+◌, ◌-◌, ◌*◌, ◌≤◌, ◌<◌}
use native.Mathlib.Nat.{zero-add, add-zero, add_comm, add_assoc, mul-zero, mul_comm, mul-suc, mul-le-mul, mul-le-mul_left}
use native.Mathlib.Numerals.{add-one}
use native.Mathlib.Omega.{arith}
use lib.ListN.{length, get_or, take, drop, length-append}
use lib.Seq.{drop-cons, drop-drop, take-add, take-length, take-append-add}
use Rattle.xcf_numbers.specs.Limit.{depth_limit, tile_side, encoded_size, window_limit}
use Rattle.xcf_stream.specs.Streams.{streams_at}
use Rattle.xcf_tile.specs.Tile.{pixel, interleave, tile_of, tile_in, encoded_tile}
use Rattle.xcf_segment.specs.Segment.{encode_stream}
use Rattle.xcf_encode.specs.Tile.{plane, planes, operations_of, encode_tile}
use Rattle.xcf_encode.proofs.Planes.{plane_length}
use Rattle.xcf_encode_laws.proofs.ReadBack.{stream_read_back}
use Rattle.xcf_encode.proofs.TileBound.{tile_bound}

plane_at : (n at depth : ℕ) (pixels : List ℕ) (i : ℕ) → i < n → get_or (plane n at depth pixels) i 0 ≡ get_or pixels (at + depth * i) 0
unfolding plane
plane_at zero at depth pixels i h = absurd (omega arith)
plane_at (suc n) at depth pixels zero h = rw (mul-zero, add-zero)
plane_at (suc n) at depth pixels (suc i) h =
    let e : at + depth * suc i ≡ at + depth + depth * i = omega (arith, mul-suc depth i) in
    rw e (plane_at n (at + depth) depth pixels i (omega arith))

module _ (n depth : ℕ) (pixels : List ℕ) where
  -- the streams of `count` planes from plane k on
  streams_read_back : (count k : ℕ) (a z : List ℕ) → streams_at count (a ++ (flat_map encode_stream (planes count k n depth pixels) ++ z)) (length a) n ≡ record { mark = 0; at = length a + length (flat_map encode_stream (planes count k n depth pixels)); operations = operations_of (planes count k n depth pixels); planes = planes count k n depth pixels }
  unfolding streams_at planes flat_map operations_of
  streams_read_back zero k a z = rw add-zero
  streams_read_back (suc count) k a z =
      let p : List ℕ = plane n k depth pixels in
      let rest : List ℕ = flat_map encode_stream (planes count (k + 1) n depth pixels) in
      rw (
        append_assoc,
        rw plane_length at (stream_read_back a p (rest ++ z)),
        simp (append_assoc, length-append) at (streams_read_back count (k + 1) (a ++ encode_stream p) z),
        length-append,
        add_assoc,
      )

  -- pixel i, from its byte k on
  pixel_bytes : (count k i : ℕ) → i < n → k + depth * i + count ≤ length pixels → pixel i (planes count k n depth pixels) ≡ take count (drop (k + depth * i) pixels)
  unfolding pixel planes
  pixel_bytes zero k i h room = refl
  pixel_bytes (suc count) k i h room =
      let next : k + 1 + depth * i ≡ suc (k + depth * i) = omega arith in
      rw (plane_at, pixel_bytes count (k + 1) i h (omega arith), next, drop-cons pixels (k + depth * i) 0 (omega arith))

  -- m pixels from pixel i on
  pixels_from : length pixels ≡ depth * n → (m i : ℕ) → i + m ≤ n → interleave m i (planes depth 0 n depth pixels) ≡ take (depth * m) (drop (depth * i) pixels)
  unfolding interleave
  pixels_from exact zero i h = rw mul-zero
  pixels_from exact (suc m) i h =
      let room : depth * suc i ≤ depth * n = mul-le-mul_left depth (omega arith) in
      rw (
        pixel_bytes depth 0 i (omega arith) (omega (arith, mul-suc depth i)),
        pixels_from exact m (i + 1) (omega arith),
        zero-add,
        add-one,
        mul-suc depth i,
        mul-suc depth m,
        add_comm (depth * m) depth,
        take-add,
        drop-drop,
      )

  planes_together : length pixels ≡ depth * n → interleave n 0 (planes depth 0 n depth pixels) ≡ pixels
  planes_together exact = rw (pixels_from exact n 0 (omega arith), mul-zero, ← exact, take-length)

-- what fits in the window is not cut
window_keeps : (code z : List ℕ) → length code ≤ window_limit → take window_limit (code ++ z) ≡ code ++ take (window_limit - length code) z
window_keeps code z h =
    let limit : window_limit ≡ length code + (window_limit - length code) = omega arith in
    ap (λ (n : ℕ). take n (code ++ z)) limit ∙ take-append-add code z (window_limit - length code)

-- a tile's streams, in its window
tile_streams : (n depth : ℕ) (pixels z : List ℕ) → length (encode_tile n depth pixels) ≤ window_limit → streams_at depth (take window_limit (encode_tile n depth pixels ++ z)) 0 n ≡ record { mark = 0; at = length (encode_tile n depth pixels); operations = operations_of (planes depth 0 n depth pixels); planes = planes depth 0 n depth pixels }
unfolding encode_tile
tile_streams n depth pixels z h =
    let code : List ℕ = flat_map encode_stream (planes depth 0 n depth pixels) in
    rw window_keeps (rw zero-add at (streams_read_back n depth pixels depth 0 [] (take (window_limit - length code) z)))

pub tile_read_back : (w h depth : ℕ) (pixels z : List ℕ) → w ≤ tile_side → h ≤ tile_side → depth ≤ depth_limit → length pixels ≡ w * h * depth → tile_of (encode_tile (w * h) depth pixels ++ z) w h depth 1 ≡ record { mark = 0; consumed = length (encode_tile (w * h) depth pixels); operations = operations_of (planes depth 0 (w * h) depth pixels); pixels = pixels }
unfolding tile_of tile_in encoded_tile
tile_read_back w h depth pixels z wide high deep exact =
    let area : w * h ≤ tile_side * tile_side = mul-le-mul wide high in
    let fits : length (encode_tile (w * h) depth pixels) ≤ encoded_size = tile_bound (w * h) depth pixels area deep in
    rw (tile_streams (w * h) depth pixels z (omega arith), planes_together (w * h) depth pixels (exact ∙ mul_comm (w * h) depth))
