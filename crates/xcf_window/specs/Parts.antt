-- The contracts of a row's tile, by name.
use Rattle.std.specs.Prelude.{ℕ, ◌+◌, ◌-◌, ◌*◌, ◌≤◌, ◌≡◌, List, ◌++◌, length, drop}
use Rattle.xcf_walk.specs.Walk.{got, run}
use Rattle.xcf_walk.specs.Pointers.{tiles}
use Rattle.xcf_table.specs.declared.Row.{Row}
use Rattle.xcf_grid.specs.Drawn.{InRange}
use Rattle.xcf_store.specs.Word.{part}
use Rattle.xcf_store.specs.Width.{bytes_of}
use Rattle.xcf_tile.specs.Compression.{number_of}
use Rattle.xcf_tile.specs.Tile.{Tile}
use Rattle.xcf_window.specs.declared.drawable.Drawable.{Drawable}
use Rattle.xcf_window.specs.Window.{pointer_at, window_end, tile}

-- the drawable of a row that is not refused
pub record DrawableOf (size : ℕ) (f : List ℕ) (r : Row) (compression : ℕ) (d : Drawable) : Type 0 where
  pub file : d.file.now ≡ f
  pub row : d.row ≡ r
  pub way : compression ≡ number_of d.compression
  pub sized : size ≡ bytes_of d.width
  pub range : InRange r

-- a row in range, whose tile pointers, of `size` bytes, are right in the file f
pub record Ready (size : ℕ) (f : List ℕ) (r : Row) : Type 0 where
  pub range : InRange r
  pub end : ℕ
  pub pointers : got tt end ≡ run (tiles size r.count 0) f r.pointers

abbrev pub IsReady : Drawable → Type 0
IsReady d = Ready (bytes_of d.width) d.file.now d.row

-- pointer t lies in the file
abbrev pub InFile : Drawable → ℕ → Type 0
InFile d t = d.row.pointers + bytes_of d.width * (t + 1) ≤ length d.file.now

-- the window of a drawable's tile t, before it is cut
abbrev pub window_at : Drawable → ℕ → List ℕ
window_at d t =
    let size = bytes_of d.width in
    let f = d.file.now in
    let start = pointer_at size f d.row t in
    part f start (window_end size f d.row t - start)

-- tile t of a drawable
abbrev pub tile_at : Drawable → ℕ → Tile
tile_at d t = tile (bytes_of d.width) d.file.now d.row (number_of d.compression) t

-- the tile's mark, and its pixels at the start of a scratch, whose rest stays
pub record Scratched (t : Tile) (m : ℕ) (old new : List ℕ) : Type 0 where
  pub mark : m ≡ t.mark
  pub size : length new ≡ length old
  pub content : new ≡ t.pixels ++ drop (length t.pixels) old
