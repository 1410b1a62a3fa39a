-- The contracts of lines and frames, by name.
use Rattle.std.specs.Prelude.{ℕ, zero, suc, ◌+◌, ◌*◌, ◌/◌, ◌%◌, ◌≤◌, ◌<◌, ◌≡◌, List, [], ◌++◌, length, drop}
use Rattle.std.proofs.Math.Seq.{paste}
use Rattle.xcf_numbers.specs.Limit.{side_limit, depth_limit, tile_side, word_limit}
use Rattle.xcf_table.specs.declared.Row.{Row}
use Rattle.xcf_grid.specs.Grid.{tiles_along, side_of}
use Rattle.xcf_grid.specs.declared.frame.Frame.{Frame}
use Rattle.xcf_store.specs.Word.{part}

-- where tile t stands among the tiles, and its sides
abbrev pub frame_of : Row → ℕ → Frame
frame_of r t = record {
  column = t % tiles_along r.width;
  line = t / tiles_along r.width;
  width = side_of r.width (t % tiles_along r.width);
  height = side_of r.height (t / tiles_along r.width);
}

-- n lines of a tile, each of so many bytes from a place on, put into the pixels from another place on, `stride` apart
unfoldable pub put_lines : List ℕ → ℕ → ℕ → List ℕ → ℕ → ℕ → ℕ → List ℕ
put_lines pixels to stride tile from line zero = pixels
put_lines pixels to stride tile from line (suc n) = put_lines (paste pixels to (drop from tile) line) (to + stride) stride tile (from + line) line n

-- a tile's lines put at its place in a drawable of this width and depth
unfoldable pub put_frame : List ℕ → ℕ → ℕ → Frame → List ℕ → List ℕ
put_frame pixels width depth s tile =
    put_lines pixels (depth * (tile_side * (width * s.line + s.column))) (depth * width) tile 0 (depth * s.width) s.height

-- the tile has n lines from a place on, and the pixels have room for them
pub record LineFits (pixels : List ℕ) (to stride : ℕ) (tile : List ℕ) (from line n : ℕ) : Type 0 where
  pub source : from + line * n ≤ length tile
  pub target : to + stride * n + line ≤ length pixels + stride

-- and the places behind the lines are small
pub record LineRoom (pixels : List ℕ) (to stride : ℕ) (tile : List ℕ) (from line n : ℕ) : Type 0 where
  pub fits : LineFits pixels to stride tile from line n
  pub small : length pixels + stride < word_limit

-- a tile's frame lies in its row's drawable, whose pixels and the tile's have these lengths
pub record Framed (r : Row) (s : Frame) (tileLength pixelsLength : ℕ) : Type 0 where
  pub across : tile_side * s.column + s.width ≤ r.width
  pub down : tile_side * s.line + s.height ≤ r.height
  pub source : s.width * s.height * r.depth ≤ tileLength
  pub target : pixelsLength ≡ r.width * r.height * r.depth

-- and the drawable's sides and depth are in range
pub record Placeable (r : Row) (s : Frame) (tileLength pixelsLength : ℕ) : Type 0 where
  pub framed : Framed r s tileLength pixelsLength
  pub wide : r.width ≤ side_limit
  pub high : r.height ≤ side_limit
  pub deep : r.depth ≤ depth_limit

-- n lines of some pixels, each of so many bytes, the first at a place and each `stride` behind the one before
unfoldable pub lines : List ℕ → ℕ → ℕ → ℕ → ℕ → List ℕ
lines pixels from stride line zero = []
lines pixels from stride line (suc n) = part pixels from line ++ lines pixels (from + stride) stride line n

-- the pixels have these lines, and the tile has room for them
pub record LinesFit (pixels : List ℕ) (from stride line n : ℕ) (tile : List ℕ) : Type 0 where
  pub source : from + stride * n + line ≤ length pixels + stride
  pub target : line * n ≤ length tile
  pub small : length pixels + stride < word_limit
