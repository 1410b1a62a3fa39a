-- A row with numbers in range, its pixels, and one of its tiles.
use Rattle.std.specs.Prelude.{ℕ, ◌*◌, ◌≤◌, ◌<◌, ◌≡◌, List, length}
use Rattle.xcf_numbers.specs.Limit.{side_limit, depth_limit}
use Rattle.xcf_table.specs.declared.Row.{Row}
use Rattle.xcf_grid.specs.Grid.{tile_count}

-- how many bytes of pixels a row has
abbrev pub pixel_size : Row → ℕ
pixel_size r = r.width * r.height * r.depth

-- a row with numbers in range
pub record InRange (r : Row) : Type 0 where
  pub wide : (1 ≤ r.width) × (r.width ≤ side_limit)
  pub high : (1 ≤ r.height) × (r.height ≤ side_limit)
  pub deep : (1 ≤ r.depth) × (r.depth ≤ depth_limit)
  pub count : r.count ≡ tile_count r.width r.height

-- a row in range, whose pixels are all there, and one of its tiles
pub record Drawn (r : Row) (pixels : List ℕ) : Type 0 where
  pub range : InRange r
  pub whole : length pixels ≡ pixel_size r

pub record Tiled (r : Row) (t : ℕ) (pixels : List ℕ) : Type 0 where
  pub drawn : Drawn r pixels
  pub tile : t < r.count
