-- The streams of a tile, one for each byte of the pixel.
use Rattle.std.specs.Prelude.{ℕ, zero, suc, ◌+◌, List, [], ◌∷◌, cond, eqb}
use Rattle.xcf_numbers.specs.Mark
use Rattle.xcf_stream.specs.Stream.{Stream, stream_at}

-- the streams of a tile together; `planes` has the bytes of each stream that was begun
pub record Streams : Type 0 where
  pub mark : ℕ
  pub at : ℕ
  pub operations : ℕ
  pub planes : List (List ℕ)

-- a stream in front: the next begins at the next byte, and none follows a marked one
abbrev pub in_front : Stream → Streams → Streams
in_front s t =
    cond (eqb s.mark 0)
    (record { mark = t.mark; at = t.at; operations = s.operations + t.operations; planes = s.bytes ∷ t.planes })
    (record { mark = s.mark; at = s.at; operations = s.operations; planes = s.bytes ∷ [] })

-- `count` streams of n bytes
unfoldable pub streams_at : ℕ → List ℕ → ℕ → ℕ → Streams
streams_at zero ws at n = record { mark = Mark.good; at = at; operations = 0; planes = [] }
streams_at (suc count) ws at n = in_front (stream_at ws at n) (streams_at count ws (stream_at ws at n).at n)
