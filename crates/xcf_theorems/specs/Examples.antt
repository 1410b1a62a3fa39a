-- The worked examples (RULES, "Examples") in a table, with what it means that they hold.
use Rattle.std.specs.Prelude.{◌≡◌, List, [], ◌∷◌, ℕ, ◌-◌, replicate}
use Rattle.xcf_numbers.specs.Mark
use Rattle.xcf_stream.specs.Stream.{Stream, stream_at}
use Rattle.xcf_tile.specs.Tile.{Tile, tile_of}
use Rattle.xcf_grid.specs.Grid.{tile_count, tile_width, tile_height}
use Rattle.xcf_segment.specs.Segment.{encode_stream}

pub data Example : Type 0 where
  -- a window, the length of the stream at its start, and what it gives
  stream : (window : List ℕ) (n : ℕ) → Stream → Example
  -- a window, width, height and depth of the encoded tile at its start, and what it gives
  tile : (window : List ℕ) (w h depth : ℕ) → Tile → Example
  -- a stream's bytes and its encoding
  writing : (bytes encoding : List ℕ) → Example
  -- a drawable's width and height, the number of its tiles, and the last tile's width and height
  sides : (w h count lastW lastH : ℕ) → Example

abbrev pub Holds : Example → Type 0
Holds (stream window n s) = stream_at window 0 n ≡ s
Holds (tile window w h depth t) = tile_of window w h depth 1 ≡ t
Holds (writing bytes encoding) = encode_stream bytes ≡ encoding
Holds (sides w h count lastW lastH) =
    (tile_count w h ≡ count) × ((tile_width w (count - 1) ≡ lastW) × (tile_height w h (count - 1) ≡ lastH))

abbrev pub All : List Example → Type 0
All [] = Unit {0}
All (e ∷ es) = Holds e × All es

-- a good stream: the bytes it takes, its operations, and what it gives
abbrev good : ℕ → ℕ → List ℕ → Stream
good taken operations bytes = record { mark = 0; at = taken; operations = operations; bytes = bytes }

-- a stream whose first operation fails
abbrev marked : ℕ → Stream
marked mark = record { mark = mark; at = 0; operations = 0; bytes = [] }

abbrev pub table : List Example
table =
    stream (0xff ∷ 0x2a ∷ []) 1 (good 2 1 (0x2a ∷ []))
    ∷ stream (0x00 ∷ 0x2a ∷ []) 1 (good 2 1 (0x2a ∷ []))
    ∷ stream (0x7e ∷ 0x05 ∷ []) 127 (good 2 1 (replicate 127 0x05))
    ∷ writing (replicate 127 0x05) (0x7e ∷ 0x05 ∷ [])
    ∷ stream (0x7f ∷ 0x00 ∷ 0x80 ∷ 0x05 ∷ []) 128 (good 4 1 (replicate 128 0x05))
    ∷ writing (replicate 128 0x05) (0x7f ∷ 0x00 ∷ 0x80 ∷ 0x05 ∷ [])
    ∷ stream (0x80 ∷ 0x00 ∷ 0x00 ∷ 0xff ∷ 0x07 ∷ []) 1 (good 5 2 (0x07 ∷ []))
    ∷ stream (0x02 ∷ 0x09 ∷ []) 2 (marked Mark.overrun)
    ∷ stream (0xfe ∷ 0x01 ∷ []) 2 (marked Mark.short)
    ∷ tile (0x01 ∷ 0x10 ∷ 0xfe ∷ 0x20 ∷ 0x30 ∷ []) 2 1 2
    (record { mark = 0; consumed = 5; operations = 2; pixels = 0x10 ∷ 0x20 ∷ 0x10 ∷ 0x30 ∷ [] })
    ∷ writing (0xaa ∷ 0xaa ∷ 0xbb ∷ []) (0xfd ∷ 0xaa ∷ 0xaa ∷ 0xbb ∷ [])
    ∷ writing (0x01 ∷ 0x02 ∷ 0x02 ∷ 0x02 ∷ []) (0xff ∷ 0x01 ∷ 0x02 ∷ 0x02 ∷ [])
    ∷ sides 200 150 12 8 22
    ∷ []
