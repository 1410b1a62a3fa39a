-- The places of a drawable's tiles rise (`tiles_rise`): no encoding is empty.
-- Assumes nothing.
use Prim.Native.Nat.{ℕ, zero, suc, ◌+◌, ◌≤◌, ◌<◌}
use mathlib.Core.List.{List, flat_map, flatten}
use native.Mathlib.Nat.{mul-le-mul}
use native.Mathlib.Omega.{arith}
use lib.ListN.{length, length-append}
use Rattle.xcf_table.specs.declared.Row.{Row}
use Rattle.xcf_segment.specs.Segment.{Segment, run_of, copy_of, size_of, first_segment, segment_bytes, encode_stream}
use Rattle.xcf_encode.specs.Tile.{plane, planes, encode_tile}
use Rattle.xcf_segment.proofs.Segments.{first_some, encode_cons}
use Rattle.xcf_segment.proofs.SegmentBytes.{run_length, copy_length}
use Rattle.xcf_encode.proofs.Planes.{plane_length}
use Rattle.xcf_drawable.specs.Drawable.{Drawable, encoding_of, encodings, tiles_of, starts}
use Rattle.xcf_drawable.specs.Parts.{Writable}
use Rattle.xcf_grid.specs.Drawn.{Drawn, Tiled}
use Rattle.xcf_grid.proofs.Lines.{tiled_width, tiled_height}
use Rattle.xcf_drawable.proofs.EncodingBound.{tiled}
use Rattle.xcf_round_trip.proofs.Parts.{Rises}

-- an operation has a byte at least, and so have the encodings of a stream that is not empty and of a tile
bytes_some : (s : Segment) → 0 < size_of s → 0 < length (segment_bytes s)
bytes_some (run_of count value) h = rw run_length (omega arith)
bytes_some (copy_of bytes) h = rw copy_length (omega arith)

stream_some : (xs : List ℕ) → 0 < length xs → 0 < length (encode_stream xs)
stream_some xs h = rw (encode_cons xs h, length-append) (omega (arith, bytes_some (first_segment xs) (first_some xs h)))

tile_some : (n depth : ℕ) (pixels : List ℕ) → 1 ≤ n → 1 ≤ depth → 0 < length (encode_tile n depth pixels)
unfolding encode_tile flat_map planes
tile_some n zero pixels some deep = absurd (omega arith)
tile_some n (suc depth) pixels some deep =
    rw length-append (omega (arith, stream_some (plane n 0 (suc depth) pixels) (rw plane_length some)))

encoding_some : {r : Row} {t : ℕ} {pixels : List ℕ} → Tiled r t pixels → 0 < length (encoding_of r t pixels)
unfolding encoding_of
encoding_some {r} x = tile_some _ r.depth _ (mul-le-mul (tiled_width x).0 (tiled_height x).0) x.drawn.range.deep.0

-- each place is above the one before, from tile t on
encodings_rise : {r : Row} {pixels : List ℕ} → Drawn r pixels → (n t before q end : ℕ) → t + n ≤ r.count → before < q
    → q + length (flatten (encodings n t r pixels)) ≤ end → Rises before (starts (encodings n t r pixels) q) end
unfolding encodings flatten starts Rises
encodings_rise x zero t before q end count above inside = tt
encodings_rise {r} {pixels} x (suc n) t before q end count above inside =
    let some = encoding_some {t = t} (tiled x (omega arith)) in
    let room = rw length-append at inside in
    let next = q + length (encoding_of r t pixels) in
    (above, (omega arith, encodings_rise x n (t + 1) q next end (omega arith) (omega arith) (omega arith)))

pub tiles_rise : (d : Drawable) (q end : ℕ) → Writable d → 0 < q → q + length (flatten (tiles_of d)) ≤ end
    → Rises 0 (starts (tiles_of d) q) end
tiles_rise d q end w some inside = encodings_rise w.drawn d.row.count 0 0 q end (omega arith) some inside
