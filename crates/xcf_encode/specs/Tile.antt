-- A tile's encoding: its streams one after the other, one for each byte of the pixel.
use Rattle.std.specs.Prelude.{ℕ, zero, suc, ◌+◌, length, get_or}
use mathlib.Core.List.{List, [], ◌∷◌, flat_map}
use Rattle.xcf_segment.specs.Segment.{segments, encode_stream}

-- n bytes of the pixels, the first at `at` and each `depth` behind the one before
unfoldable pub plane : ℕ → ℕ → ℕ → List ℕ → List ℕ
plane zero at depth pixels = []
plane (suc n) at depth pixels = get_or pixels at 0 ∷ plane n (at + depth) depth pixels

-- `count` planes from plane k on
unfoldable pub planes : ℕ → ℕ → ℕ → ℕ → List ℕ → List (List ℕ)
planes zero k n depth pixels = []
planes (suc count) k n depth pixels = plane n k depth pixels ∷ planes count (k + 1) n depth pixels

unfoldable pub operations_of : List (List ℕ) → ℕ
operations_of [] = 0
operations_of (p ∷ ps) = length (segments p) + operations_of ps

-- n pixels of `depth` bytes each
unfoldable pub encode_tile : ℕ → ℕ → List ℕ → List ℕ
encode_tile n depth pixels = flat_map encode_stream (planes depth 0 n depth pixels)
