-- What the library gives for a file f that was read: x is what the reader gave for it, the size of pointers included.
use Rattle.std.specs.Prelude.{ℕ, ◌<◌, ◌≡◌, List, true, length}
use Rattle.xcf_tile.specs.Tile.{Tile}
use Rattle.xcf_read.specs.Answer.{Reading, row_of}
use Rattle.xcf_window.specs.Window.{tile}
use Rattle.xcf_window.specs.Usable.{fits}
use Rattle.xcf_decode.specs.Answer.{Decoding, decoding}

-- tile t of row k is a tile of the file: rows have their own tiles even if they share pointers
pub record IsTile (x : Reading) (k t : ℕ) : Type 0 where
  pub row : k < x.answer.rows
  pub tile : t < (row_of x k).count

-- its own answer, on its window: mark, bytes consumed, operations and pixels
abbrev pub tile_given : List ℕ → Reading → ℕ → ℕ → Tile
tile_given f x k t = tile x.answer.size f (row_of x k) x.answer.compression t

-- the lent buffers have the right lengths for row k
abbrev pub Fit : Reading → ℕ → List ℕ → List ℕ → Type 0
Fit x k pixels marks = fits (row_of x k) (length pixels) (length marks) ≡ true

-- what the decoder, lent the file and what the reader gave for it, leaves of row k in lent buffers
abbrev pub decoding_given : List ℕ → Reading → ℕ → List ℕ → List ℕ → Decoding
decoding_given f x k pixels marks = decoding x.answer.size f x.table k x.answer.compression pixels marks
