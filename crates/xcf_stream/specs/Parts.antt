-- The contracts of streams and of bytes put apart, by name.
use Rattle.std.specs.Prelude.{◌≡◌, List, [], ◌∷◌, ℕ, ◌+◌, ◌*◌, ◌≤◌, ◌<◌, length, set}
use Rattle.xcf_numbers.specs.Fault.{mark_of_any}
use Rattle.xcf_numbers.specs.Limit.{word_limit}
use Rattle.xcf_stream.specs.declared.StreamEnd.{StreamEnd}
use Rattle.xcf_stream.specs.Stream.{stream_at}
use Rattle.xcf_stream.specs.Streams.{streams_at}

-- bs put into the buffer at `at` and every `step` places after it
abbrev pub scatter : List ℕ → ℕ → ℕ → List ℕ → List ℕ
scatter buf at step [] = buf
scatter buf at step (b ∷ bs) = scatter (set buf at b) (at + step) step bs

-- planes from plane k on, each put at its byte of the pixel
unfoldable pub scatter_all : List ℕ → ℕ → ℕ → List (List ℕ) → List ℕ
scatter_all buf k depth [] = buf
scatter_all buf k depth (p ∷ ps) = scatter_all (scatter buf k depth p) (k + 1) depth ps

-- room for `count` bytes from `at` on, `step` apart
pub record StepRoom (buf : List ℕ) (at step count : ℕ) : Type 0 where
  pub fits : at + step * count < length buf + step
  pub small : length buf + step < word_limit

-- a place in the window, and room for byte k of n pixels
pub record Plane (ws : List ℕ) (from n depth k : ℕ) (pixels : List ℕ) : Type 0 where
  pub starts : from ≤ length ws
  pub below : k < depth
  pub exact : length pixels ≡ depth * n
  pub small : length pixels + depth < word_limit

-- how the stream there ended, with its bytes put into the pixels
pub record Streamed (ws : List ℕ) (from n depth k : ℕ) (old : List ℕ) (r : StreamEnd) (new : List ℕ) : Type 0 where
  pub mark : mark_of_any r.fault ≡ (stream_at ws from n).mark
  pub at : r.at ≡ (stream_at ws from n).at
  pub operations : r.operations ≡ (stream_at ws from n).operations
  pub bytes : new ≡ scatter old k depth (stream_at ws from n).bytes
  pub counted : r.operations + from ≤ r.at
  pub inside : r.at ≤ length ws

-- all streams of a tile
pub record StreamedAll (ws : List ℕ) (n depth : ℕ) (old : List ℕ) (r : StreamEnd) (new : List ℕ) : Type 0 where
  pub mark : mark_of_any r.fault ≡ (streams_at depth ws 0 n).mark
  pub at : r.at ≡ (streams_at depth ws 0 n).at
  pub operations : r.operations ≡ (streams_at depth ws 0 n).operations
  pub bytes : new ≡ scatter_all old 0 depth (streams_at depth ws 0 n).planes

-- a pixel buffer of the tile's length
pub record Sized (n depth : ℕ) (pixels : List ℕ) : Type 0 where
  pub exact : length pixels ≡ n * depth
  pub small : length pixels + depth < word_limit
