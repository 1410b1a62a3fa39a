-- A tile in its window: plain pixels, or a stream for each byte of the pixel. A marked tile's pixels are zero.
use Rattle.std.specs.Prelude.{ℕ, zero, suc, ◌+◌, ◌*◌, List, [], ◌∷◌, ◌++◌, cond, length, get_or, take, replicate, leb, eqb}
use Rattle.xcf_numbers.specs.Limit.{window_limit}
use Rattle.xcf_numbers.specs.Mark
use Rattle.xcf_stream.specs.Streams.{streams_at}

-- pixel i: byte i of each plane
unfoldable pub pixel : ℕ → List (List ℕ) → List ℕ
pixel i [] = []
pixel i (p ∷ ps) = get_or p i 0 ∷ pixel i ps

-- n pixels from pixel i on
unfoldable pub interleave : ℕ → ℕ → List (List ℕ) → List ℕ
interleave zero i ps = []
interleave (suc n) i ps = pixel i ps ++ interleave n (i + 1) ps

-- mark 0, 20 or 21; bytes of the window consumed; operations carried out in full; pixels
pub record Tile : Type 0 where
  pub mark : ℕ
  pub consumed : ℕ
  pub operations : ℕ
  pub pixels : List ℕ

-- n pixels of `depth` bytes each
unfoldable pub plain_tile : List ℕ → ℕ → ℕ → Tile
plain_tile ws n depth =
    cond (leb (n * depth) (length ws)) (record { mark = Mark.good; consumed = n * depth; operations = 0; pixels = take (n * depth) ws })
    (record { mark = Mark.short; consumed = 0; operations = 0; pixels = replicate (n * depth) 0 })

unfoldable pub encoded_tile : List ℕ → ℕ → ℕ → Tile
encoded_tile ws n depth =
    let s = streams_at depth ws 0 n in
    record {
      mark = s.mark;
      consumed = s.at;
      operations = s.operations;
      pixels = cond (eqb s.mark 0) (interleave n 0 s.planes) (replicate (n * depth) 0);
    }

-- compression 0 is plain, 1 encoded; a call with any other is refused
unfoldable pub tile_in : List ℕ → ℕ → ℕ → ℕ → Tile
tile_in ws n depth compression = cond (eqb compression 0) (plain_tile ws n depth) (encoded_tile ws n depth)

-- the tile of w by h pixels in a window
unfoldable pub tile_of : List ℕ → ℕ → ℕ → ℕ → ℕ → Tile
tile_of window w h depth compression = tile_in (take window_limit window) (w * h) depth compression
