-- The parts of the private functions' contracts, by name.
use Rattle.std.specs.Prelude.{◌≡◌, List, [], ◌∷◌, ℕ, zero, suc, ◌+◌, ◌*◌, ◌/◌, ◌≤◌, length, take, drop, Result, Ok, Err}
use Rattle.xcf_numbers.specs.Limit.{depth_limit, stream_limit}
use Rattle.xcf_numbers.specs.declared.reason.Reason.{Reason}
use Rattle.xcf_numbers.specs.Reason.{number_of}
use Rattle.xcf_numbers.specs.Refusal
use Rattle.xcf_encode.specs.declared.EncodeAnswer.{EncodeAnswer}
use Rattle.xcf_encode.specs.Tile.{encode_tile}
use Rattle.xcf_encode.specs.Answer.{room_refusal, stream_refusal, tile_refusal, encode_answer, encode_output}
use Rattle.xcf_segment.specs.Segment.{encode_stream}

-- the length of an encoding, or the reason why there is none, as an answer
abbrev pub answer_of : Result ℕ Reason → EncodeAnswer
answer_of (Ok n) = record { number = Refusal.accepted; place = 0; length = n }
answer_of (Err r) = record { number = number_of r; place = 0; length = 0 }

abbrev pub AnswerOf : Result ℕ Reason → EncodeAnswer → Type 0
AnswerOf r a = a ≡ answer_of r

-- what is given and left in the output where there is a refusal, or none
pub record Encodes (refusal : ℕ) (encoding old : List ℕ) (r : Result ℕ Reason) (new : List ℕ) : Type 0 where
  pub answer : answer_of r ≡ encode_answer refusal encoding
  pub output : new ≡ encode_output refusal encoding old

-- the same where nothing but room is asked for, of a stream, and of a tile
abbrev pub EncodedInto : List ℕ → List ℕ → Result ℕ Reason → List ℕ → Type 0
EncodedInto encoding old = Encodes (room_refusal (length encoding) (length old)) encoding old

abbrev pub StreamEncodes : List ℕ → List ℕ → Result ℕ Reason → List ℕ → Type 0
StreamEncodes stream old = Encodes (stream_refusal stream (length old)) (encode_stream stream) old

abbrev pub TileEncodes : List ℕ → ℕ → ℕ → ℕ → List ℕ → Result ℕ Reason → List ℕ → Type 0
TileEncodes pixels w h depth old = Encodes (tile_refusal w h depth pixels (length old)) (encode_tile (w * h) depth pixels) old

-- the most bytes that a stream of n bytes is written in
abbrev pub most_bytes : ℕ → ℕ
most_bytes n = n + 3 + 2 * (n / 131)

-- `count` streams of n bytes each, the first at `at`
unfoldable pub parts : ℕ → ℕ → ℕ → List ℕ → List (List ℕ)
parts zero at n planar = []
parts (suc count) at n planar = take n (drop at planar) ∷ parts count (at + n) n planar

-- room for `count` streams of n bytes each
pub record StreamsRoom (planar : List ℕ) (n count : ℕ) : Type 0 where
  pub room : count * n ≤ length planar
  pub short : n ≤ stream_limit
  pub few : count ≤ depth_limit
