-- RULES, "Isolation": for one length of the file, a good tile depends on the structure bytes and on the bytes that it consumed. x and y
-- are what the reader gave for the files f and g.
use Rattle.std.specs.Prelude.{ℕ, ◌+◌, ◌≤◌, ◌<◌, ◌≡◌, ◌⊎◌, List, length, get_or}
use Rattle.xcf_numbers.specs.Limit.{table_size}
use Rattle.xcf_table.specs.declared.Row.{Row}
use Rattle.xcf_tile.specs.Tile.{Tile}
use Rattle.xcf_read.specs.Image.{structure_byte}
use Rattle.xcf_read.specs.Answer.{Reading, reading, row_of}
use Rattle.xcf_window.specs.Window.{pointer_at}
use Rattle.xcf_grid.specs.Pixels.{shown}
use Rattle.xcf_decode.specs.Answer.{Decoding}
use Rattle.xcf_decode_laws.specs.Given.{IsTile, tile_given, Fit, decoding_given}

-- tile t of row k is a tile of the file, and good
pub record GoodTile (f : List ℕ) (x : Reading) (k t : ℕ) : Type 0 where
  pub is : IsTile x k t
  pub good : (tile_given f x k t).mark ≡ 0

-- tile t of row k consumed byte i
unfoldable pub Consumed : List ℕ → Reading → ℕ → ℕ → ℕ → Type 0
Consumed f x k t i =
    let start = pointer_at x.answer.size f (row_of x k) t in (start ≤ i) × (i < start + (tile_given f x k t).consumed)

-- byte i decides that tile, if it is good: the byte is a structure's, or the tile consumed it
abbrev pub TileByte : List ℕ → Reading → ℕ → ℕ → ℕ → Type 0
TileByte f x k t i = structure_byte f i ⊎ Consumed f x k t i

-- a good tile consumed byte i
pub record ConsumedByGood (f : List ℕ) (x : Reading) (i : ℕ) : Type 0 where
  pub k : ℕ
  pub t : ℕ
  pub good : GoodTile f x k t
  pub consumed : Consumed f x k t i

-- byte i decides what is read, or a good tile: it is a structure's, or a good tile consumed it
abbrev pub GoodByte : List ℕ → Reading → ℕ → Type 0
GoodByte f x i = structure_byte f i ⊎ ConsumedByGood f x i

-- g has f's length, and f's bytes at these places
pub record Agree (f g : List ℕ) (Places : ℕ → Type 0) : Type 0 where
  pub long : length f ≡ length g
  pub same : (i : ℕ) → Places i → get_or f i 0 ≡ get_or g i 0

-- the decoding d of a row r is not refused, and shows tile t as it is given: its mark and its pixels
pub record Shows (r : Row) (t : ℕ) (given : Tile) (d : Decoding) : Type 0 where
  pub accepted : d.answer.number ≡ 0
  pub mark : get_or d.marks t 0 ≡ given.mark
  pub pixels : shown r.width r.height r.depth t d.pixels ≡ given.pixels

-- tile t of row k is good in g, and its own answer is the same as in f; and so the decoder shows it, before in f and after in g, in
-- buffers that fit, whatever these held
pub record Kept (f g : List ℕ) (x y : Reading) (k t : ℕ) : Type 0 where
  pub good : GoodTile g y k t
  pub same : tile_given g y k t ≡ tile_given f x k t
  pub before : (pixels marks : List ℕ) → Fit x k pixels marks → Shows (row_of x k) t (tile_given f x k t) (decoding_given f x k pixels marks)
  pub after : (pixels marks : List ℕ) → Fit y k pixels marks → Shows (row_of x k) t (tile_given f x k t) (decoding_given g y k pixels marks)

-- any file that is accepted, any good tile of it, any file that agrees with it on the bytes that decide this tile: it is read the same,
-- hence accepted, whatever the tables held, and the tile is kept
abbrev pub GoodTileKept : Type 0
GoodTileKept =
    (f g lent other : List ℕ) (k t : ℕ) →
    let x = reading f lent in
    let y = reading g other in
    x.answer.number ≡ 0 → length other ≡ table_size → GoodTile f x k t → Agree f g (TileByte f x k t)
    → (y ≡ x) × Kept f g x y k t

-- the same of all good tiles at once
abbrev pub GoodTilesKept : Type 0
GoodTilesKept =
    (f g lent other : List ℕ) →
    let x = reading f lent in
    let y = reading g other in
    x.answer.number ≡ 0 → length other ≡ table_size → Agree f g (GoodByte f x)
    → (y ≡ x) × ((k t : ℕ) → GoodTile f x k t → Kept f g x y k t)
