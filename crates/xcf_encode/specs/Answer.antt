-- What a call that encodes one stream or one tile answers and leaves in the output.
use Rattle.std.specs.Prelude.{◌≡◌, ℕ, ◌*◌, List, [], ◌∷◌, ◌++◌, cond, length, drop, ltb, eqb}
use Rattle.xcf_numbers.specs.Limit.{stream_limit}
use Rattle.xcf_numbers.specs.Refusal
use Rattle.xcf_encode.specs.declared.EncodeAnswer.{EncodeAnswer}
use Rattle.xcf_segment.specs.Segment.{encode_stream}
use Rattle.xcf_encode.specs.Tile.{encode_tile}
use Rattle.xcf_tile.specs.Answer.{usable_tile}

-- 18 where an encoding of `size` bytes would exceed an output of `room`; else 0
unfoldable pub room_refusal : ℕ → ℕ → ℕ
room_refusal size room = cond (ltb room size) Refusal.no_room Refusal.accepted

-- 11 for a stream over the limit, then 18; else 0
unfoldable pub stream_refusal : List ℕ → ℕ → ℕ
stream_refusal stream room = cond (ltb stream_limit (length stream)) Refusal.wrong_buffer (room_refusal (length (encode_stream stream)) room)

-- a refusal's length is 0
unfoldable pub encode_answer : ℕ → List ℕ → EncodeAnswer
encode_answer refusal encoding =
    cond (eqb refusal 0) (record { number = 0; place = 0; length = length encoding }) (record { number = refusal; place = 0; length = 0 })

-- the encoding at the output's start; the rest, and on a refusal all of it, as lent
unfoldable pub encode_output : ℕ → List ℕ → List ℕ → List ℕ
encode_output refusal encoding old = cond (eqb refusal 0) (encoding ++ drop (length encoding) old) old

pub record StreamEncoded (stream old : List ℕ) (r : EncodeAnswer) (new : List ℕ) : Type 0 where
  pub answer : r ≡ encode_answer (stream_refusal stream (length old)) (encode_stream stream)
  pub output : new ≡ encode_output (stream_refusal stream (length old)) (encode_stream stream) old

-- 14 unless the tile is usable, 11 unless the pixels have the tile's length, then 18; else 0
unfoldable pub tile_refusal : ℕ → ℕ → ℕ → List ℕ → ℕ → ℕ
tile_refusal w h depth pixels room =
    cond (usable_tile w h depth) (cond (eqb (length pixels) (w * h * depth))
    (room_refusal (length (encode_tile (w * h) depth pixels)) room)
    Refusal.wrong_buffer)
    Refusal.unusable

-- the numbers that are answered for a tile
abbrev pub encoder_numbers : List ℕ
encoder_numbers = Refusal.accepted ∷ Refusal.wrong_buffer ∷ Refusal.unusable ∷ Refusal.no_room ∷ []

pub record TileEncoded (pixels : List ℕ) (w h depth : ℕ) (old : List ℕ) (r : EncodeAnswer) (new : List ℕ) : Type 0 where
  pub answer : r ≡ encode_answer (tile_refusal w h depth pixels (length old)) (encode_tile (w * h) depth pixels)
  pub output : new ≡ encode_output (tile_refusal w h depth pixels (length old)) (encode_tile (w * h) depth pixels) old
