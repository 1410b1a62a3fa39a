-- What a call for a single tile answers and leaves in the pixel buffer.
use Rattle.std.specs.Prelude.{◌≡◌, ℕ, ◌*◌, List, [], ◌∷◌, Bool, cond, ◌&&◌, length, leb, eqb}
use Rattle.xcf_numbers.specs.Limit.{depth_limit, tile_side}
use Rattle.xcf_numbers.specs.Refusal
use Rattle.xcf_tile.specs.declared.TileAnswer.{TileAnswer}
use Rattle.xcf_tile.specs.Tile.{Tile, tile_of}
use Rattle.xcf_range.specs.Range.{within}

-- sides 1 to 64 and depth 1 to 4
unfoldable pub usable_tile : ℕ → ℕ → ℕ → Bool
usable_tile w h depth = within 1 tile_side w && within 1 tile_side h && within 1 depth_limit depth

-- 14 unless the tile is usable and compression 0 or 1; then 11 unless the buffer has the tile's length; else 0
unfoldable pub decode_refusal : ℕ → ℕ → ℕ → ℕ → ℕ → ℕ
decode_refusal w h depth compression len =
    cond (usable_tile w h depth && leb compression 1) (cond (eqb len (w * h * depth)) Refusal.accepted Refusal.wrong_buffer) Refusal.unusable

-- the numbers that it answers
abbrev pub tile_numbers : List ℕ
tile_numbers = Refusal.accepted ∷ Refusal.wrong_buffer ∷ Refusal.unusable ∷ []

-- a refusal's other fields are 0
unfoldable pub decode_answer : ℕ → Tile → TileAnswer
decode_answer refusal t =
    cond (eqb refusal 0)
    (record { number = 0; place = 0; mark = t.mark; consumed = t.consumed; operations = t.operations })
    (record { number = refusal; place = 0; mark = 0; consumed = 0; operations = 0 })

-- a refusal leaves the buffer as lent
unfoldable pub decode_pixels : ℕ → Tile → List ℕ → List ℕ
decode_pixels refusal t old = cond (eqb refusal 0) t.pixels old

pub record Decoded (window : List ℕ) (w h depth compression : ℕ) (old : List ℕ) (r : TileAnswer) (new : List ℕ) : Type 0 where
  pub answer : r ≡ decode_answer (decode_refusal w h depth compression (length old)) (tile_of window w h depth compression)
  pub pixels : new ≡ decode_pixels (decode_refusal w h depth compression (length old)) (tile_of window w h depth compression) old
