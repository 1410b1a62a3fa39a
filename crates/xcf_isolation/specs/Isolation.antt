-- RULES, "Isolation": damage inside the windows of some tiles changes nothing outside them.
use Rattle.std.specs.Prelude.{ℕ, ◌<◌, ◌≡◌, List, length, get_or}
use Rattle.xcf_table.specs.declared.Row.{Row}
use Rattle.xcf_grid.specs.Grid.{tile_width, tile_height}
use Rattle.xcf_tile_laws.specs.Valid.{GoodWhenValid}
use Rattle.xcf_read.specs.Image.{structure_byte}
use Rattle.xcf_read.specs.Answer.{Reading, reading, row_of}
use Rattle.xcf_window.specs.Window.{window, InWindow, tile}
use Rattle.xcf_grid.specs.Pixels.{shown}
use Rattle.xcf_decode.specs.Answer.{Decoding}
use Rattle.xcf_decode_laws.specs.Given.{IsTile, decoding_given, Fit}

-- byte i lies in the window of a chosen tile
pub record InChosen (f : List ℕ) (x : Reading) (Chosen : ℕ → ℕ → Type 0) (i : ℕ) : Type 0 where
  pub k : ℕ
  pub t : ℕ
  pub is : IsTile x k t
  pub chosen : Chosen k t
  pub inside : InWindow x.answer.size f (row_of x k) t i

-- g has f's length, and differs from it only inside windows of chosen tiles, at bytes in no structure of f and in no window of a
-- tile not chosen; x is what the reader gave for f
pub record Damaged (f g : List ℕ) (x : Reading) (Chosen : ℕ → ℕ → Type 0) : Type 0 where
  pub long : length f ≡ length g
  pub inside : (i : ℕ) → (get_or f i 0 ≡ get_or g i 0 → ⊥) → InChosen f x Chosen i
  pub structure : (i : ℕ) → (get_or f i 0 ≡ get_or g i 0 → ⊥) → structure_byte f i → ⊥
  pub others : (i : ℕ) → (get_or f i 0 ≡ get_or g i 0 → ⊥) → (k t : ℕ) → IsTile x k t → (Chosen k t → ⊥) → InWindow x.answer.size f (row_of x k) t i → ⊥

-- what the decodings d of f and e of g show of a row r, whose pointers have `size` bytes: its tiles that are not chosen, and the chosen
-- ones by the rules
pub record RowIsolated (size : ℕ) (g : List ℕ) (r : Row) (compression : ℕ) (Chosen : ℕ → Type 0) (d e : Decoding) : Type 0 where
  pub accepted : (d.answer.number ≡ 0) × (e.answer.number ≡ 0)
  pub same : (t : ℕ) → t < r.count → (Chosen t → ⊥)
      → (get_or e.marks t 0 ≡ get_or d.marks t 0)
      × (shown r.width r.height r.depth t e.pixels ≡ shown r.width r.height r.depth t d.pixels)
  pub given : (t : ℕ) → t < r.count → Chosen t
      → (get_or e.marks t 0 ≡ (tile size g r compression t).mark)
      × (shown r.width r.height r.depth t e.pixels ≡ (tile size g r compression t).pixels)
  pub good : (t : ℕ) → t < r.count → Chosen t
      → GoodWhenValid (window size g r t) (tile_width r.width t) (tile_height r.width r.height t) r.depth compression
      (get_or e.marks t 0) (shown r.width r.height r.depth t e.pixels)

-- g is read as f was, and its rows are isolated: the decoder is lent a file, what the reader gave for that file, x for f and y for g,
-- and buffers that fit, with any content
pub record Isolated (f g : List ℕ) (x y : Reading) (Chosen : ℕ → ℕ → Type 0) : Type 0 where
  pub read : y ≡ x
  pub rows : (k : ℕ) → k < x.answer.rows → (pixels marks pixels' marks' : List ℕ) → Fit x k pixels marks → Fit y k pixels' marks'
      → RowIsolated x.answer.size g (row_of x k) x.answer.compression (Chosen k) (decoding_given f x k pixels marks)
      (decoding_given g y k pixels' marks')

-- any file that is accepted, any choice of its tiles
abbrev pub Isolation : Type 1
Isolation =
    (f g lent : List ℕ) (Chosen : ℕ → ℕ → Type 0) →
    let x = reading f lent in
    x.answer.number ≡ 0 → Damaged f g x Chosen → Isolated f g x (reading g lent) Chosen
