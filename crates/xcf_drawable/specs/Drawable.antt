-- A drawable as it is written: structure, hierarchy, level and tiles, without gaps. A structure's length does not depend on its
-- pointers: lengths come first, places from them.
use Rattle.std.specs.Prelude.{ℕ, zero, suc, ◌+◌, ◌*◌, Bool, cond, length}
use mathlib.Core.List.{List, [], ◌∷◌, ◌++◌, flatten}
use Rattle.xcf_table.specs.declared.Row.{Row}
use Rattle.xcf_grid.specs.Grid.{tile_width, tile_height}
use Rattle.xcf_encode.specs.Tile.{encode_tile}
use Rattle.xcf_grid.specs.Pixels.{shown}
use Rattle.xcf_structure.specs.Structure.{structure_bytes, hierarchy_bytes, level_bytes}

-- a drawable to be written: its row, whether it has a mask, its name's bytes and its pixels
pub record Drawable : Type 0 where
  pub row : Row
  pub has_mask : Bool
  pub name : List ℕ
  pub pixels : List ℕ

-- the encoding of a row's tile t, those of n tiles from tile t on, and those of all its tiles
unfoldable pub encoding_of : Row → ℕ → List ℕ → List ℕ
encoding_of r t pixels =
    encode_tile (tile_width r.width t * tile_height r.width r.height t) r.depth (shown r.width r.height r.depth t pixels)

unfoldable pub encodings : ℕ → ℕ → Row → List ℕ → List (List ℕ)
encodings zero t r pixels = []
encodings (suc n) t r pixels = encoding_of r t pixels ∷ encodings n (t + 1) r pixels

abbrev pub row_tiles : Row → List ℕ → List (List ℕ)
row_tiles r pixels = encodings r.count 0 r pixels

abbrev pub tiles_of : Drawable → List (List ℕ)
tiles_of d = row_tiles d.row d.pixels

-- where each of some lists begins, one behind the other
unfoldable pub starts : List (List ℕ) → ℕ → List ℕ
starts [] p = []
starts (xs ∷ xss) p = p ∷ starts xss (p + length xs)

-- the lengths of a drawable's structure, of its hierarchy and level, and of all that is written for it
unfoldable pub structure_size : Drawable → ℕ
structure_size d = length (structure_bytes d.row d.has_mask d.name 0 0)

abbrev pub hierarchy_size : ℕ
hierarchy_size = 20

abbrev pub level_size : ℕ → ℕ
level_size count = 4 * (count + 3)

unfoldable pub drawable_size : Drawable → ℕ
drawable_size d = structure_size d + (hierarchy_size + (level_size d.row.count + length (flatten (tiles_of d))))

-- a drawable at the place p; its mask comes directly behind it
unfoldable pub drawable_bytes : Drawable → ℕ → List ℕ
drawable_bytes d p =
    let hierarchy = p + structure_size d in
    let level = hierarchy + hierarchy_size in
    let tiles = level + level_size d.row.count in
    structure_bytes d.row d.has_mask d.name hierarchy (cond d.has_mask (p + drawable_size d) 0)
    ++ (hierarchy_bytes d.row level ++ (level_bytes d.row (starts (tiles_of d) tiles) ++ flatten (tiles_of d)))
