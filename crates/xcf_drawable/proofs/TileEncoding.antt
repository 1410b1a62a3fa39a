-- A tile's pixels at the start of a tile's room, encoded: nothing is refused, so that the encoding is stored (`tile_encoded`).
-- Assumes nothing.
use Prim.Native.Nat.{ℕ, ◌*◌, ◌≤◌}
use mathlib.Core.Path.{◌≡◌, ap, ◌∙◌}
use mathlib.Core.List.{List}
use native.Mathlib.Omega.{arith}
use native.Mathlib.Nat.{zero-add}
use borrow.Author.Tests.{eq-eqb, le-ltb}
use lib.ListN.{length, take}
use lib.Seq.{sets-eq, take-append_seam}
use Rattle.xcf_numbers.specs.Limit.{depth_limit, tile_side, tile_size}
use Rattle.xcf_table.specs.declared.Row.{Row}
use Rattle.xcf_grid.specs.Grid.{tile_width, tile_height}
use Rattle.xcf_tile.specs.Answer.{usable_tile}
use Rattle.xcf_range.proofs.Bounds.{bounds_within}
use Rattle.xcf_encode.specs.declared.EncodeAnswer.{EncodeAnswer}
use Rattle.xcf_encode.specs.Tile.{encode_tile}
use Rattle.xcf_encode.specs.Answer.{room_refusal, tile_refusal, encode_answer, encode_output, TileEncoded}
use Rattle.xcf_store.specs.Put.{Put}
use Rattle.xcf_store.proofs.Stores.{put_length}
use Rattle.xcf_grid.specs.Pixels.{shown}
use Rattle.xcf_grid.specs.Drawn.{Tiled}
use Rattle.xcf_drawable.specs.Drawable.{encoding_of}
use Rattle.xcf_grid.proofs.Lines.{tiled_width, tiled_height, tiled_size, shown_length}

-- what is not refused is stored
not_refused : {pixels : List ℕ} {w h depth : ℕ} {old : List ℕ} {a : EncodeAnswer} {new : List ℕ}
    → tile_refusal w h depth pixels (length old) ≡ 0 → length (encode_tile (w * h) depth pixels) ≤ length old
    → TileEncoded pixels w h depth old a new → Put old 0 (encode_tile (w * h) depth pixels) a.length new
unfolding encode_answer encode_output
not_refused {pixels} {w} {h} {depth} {old} z room e = record {
  behind = ap (λ x. x.length) e.answer ∙ rw (z, zero-add);
  output = e.output ∙ rw (z, sets-eq (encode_tile (w * h) depth pixels) old 0 (omega (arith, room)), zero-add);
}

module _ {r : Row} {t : ℕ} {pixels : List ℕ} (d : Tiled r t pixels) where
  abbrev own : List ℕ
  own = shown r.width r.height r.depth t pixels

  tile_fits : (old : List ℕ) → length (encoding_of r t pixels) ≤ length old
      → tile_refusal (tile_width r.width t) (tile_height r.width r.height t) r.depth own (length old) ≡ 0
  unfolding tile_refusal usable_tile room_refusal encoding_of
  tile_fits old room =
      rw (
        bounds_within 1 tile_side _ (tiled_width d),
        bounds_within 1 tile_side _ (tiled_height d),
        bounds_within 1 depth_limit r.depth d.drawn.range.deep,
        eq-eqb _ _ (shown_length d),
        le-ltb _ _ room,
      )

  module _ {size : ℕ} {tile taken : List ℕ} (long : length tile ≡ tile_size) (p : Put tile 0 own size taken) where
    -- the pixels lie in the tile's room, which keeps its length
    pub tile_there : (size ≤ length taken) × (length taken ≡ tile_size)
    tile_there =
        let same = put_length p ∙ long in (omega (arith, p.behind, shown_length d, (tiled_size d).1, same), same)

    start : take size taken ≡ own
    start =
        let exact : size ≡ length own = rw zero-add at p.behind in
        rw (p.output, exact, sets-eq own tile 0 (omega (arith, long, shown_length d, (tiled_size d).1)), zero-add) (take-append_seam own _)

    pub tile_encoded : {w h : ℕ} {old : List ℕ} {a : EncodeAnswer} {new : List ℕ}
        → w ≡ tile_width r.width t → h ≡ tile_height r.width r.height t
        → length (encoding_of r t pixels) ≤ length old → TileEncoded (take size taken) w h r.depth old a new
        → Put old 0 (encoding_of r t pixels) a.length new
    unfolding encoding_of
    tile_encoded {old = old} wide high room e = not_refused (tile_fits old room) room (rw (start, wide, high) at e)
