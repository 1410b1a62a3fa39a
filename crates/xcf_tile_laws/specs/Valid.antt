-- A window that begins with a valid encoding: what it is, and that a tile is good exactly for such a window.
use Rattle.std.specs.Prelude.{ℕ, ◌*◌, ◌≤◌, ◌≡◌, List, length, take, replicate}
use Rattle.xcf_tile.specs.Tile.{tile_of}

-- the rules give the whole tile from these bytes with no 20 or 21, all of them consumed, and these are its pixels
pub record Encoding (bytes : List ℕ) (w h depth compression : ℕ) (pixels : List ℕ) : Type 0 where
  pub good : (tile_of bytes w h depth compression).mark ≡ 0
  pub whole : (tile_of bytes w h depth compression).consumed ≡ length bytes
  pub shows : (tile_of bytes w h depth compression).pixels ≡ pixels

-- the first n bytes of the window are a valid encoding of these pixels
pub record BeginsWith (window : List ℕ) (w h depth compression : ℕ) (pixels : List ℕ) : Type 0 where
  pub n : ℕ
  pub inside : n ≤ length window
  pub encoding : Encoding (take n window) w h depth compression pixels

-- a tile's mark and pixels: it is good exactly when its window begins with a valid encoding, and then shows that encoding's
-- pixels; otherwise it is marked and its pixels are zero
pub record GoodWhenValid (window : List ℕ) (w h depth compression mark : ℕ) (pixels : List ℕ) : Type 0 where
  pub good : mark ≡ 0 → BeginsWith window w h depth compression pixels
  pub valid : (ps : List ℕ) → BeginsWith window w h depth compression ps → (mark ≡ 0) × (pixels ≡ ps)
  pub marked : (mark ≡ 0 → ⊥) → pixels ≡ replicate (w * h * depth) 0
