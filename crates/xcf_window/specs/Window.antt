-- A tile's window: from its pointer to the next one, for the last tile to the file's end, cut at 24,576 bytes. A pointer has
-- `size` bytes.
use Rattle.std.specs.Prelude.{ℕ, ◌+◌, ◌-◌, ◌*◌, ◌≤◌, ◌<◌, min, List, cond, length, ltb}
use Rattle.xcf_numbers.specs.Limit.{window_limit}
use Rattle.xcf_store.specs.Word.{part}
use Rattle.xcf_store.specs.Pointer.{number_at}
use Rattle.xcf_table.specs.declared.Row.{Row}
use Rattle.xcf_grid.specs.Grid.{tile_width, tile_height}
use Rattle.xcf_tile.specs.Tile.{Tile, tile_of}

-- the pointer of a row's tile t
unfoldable pub pointer_at : ℕ → List ℕ → Row → ℕ → ℕ
pointer_at size f r t = number_at size f (r.pointers + size * t)

unfoldable pub window_end : ℕ → List ℕ → Row → ℕ → ℕ
window_end size f r t = cond (ltb (t + 1) r.count) (pointer_at size f r (t + 1)) (length f)

unfoldable pub window_length : ℕ → List ℕ → Row → ℕ → ℕ
window_length size f r t = min window_limit (window_end size f r t - pointer_at size f r t)

unfoldable pub window : ℕ → List ℕ → Row → ℕ → List ℕ
window size f r t = part f (pointer_at size f r t) (window_length size f r t)

-- byte i of the file is one of the window
unfoldable pub InWindow : ℕ → List ℕ → Row → ℕ → ℕ → Type 0
InWindow size f r t i = (pointer_at size f r t ≤ i) × (i < pointer_at size f r t + window_length size f r t)

-- tile t of a row
unfoldable pub tile : ℕ → List ℕ → Row → ℕ → ℕ → Tile
tile size f r compression t =
    tile_of (window size f r t) (tile_width r.width t) (tile_height r.width r.height t) r.depth compression
