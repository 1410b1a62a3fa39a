-- The parts of the private functions' contracts, by name.
use Rattle.std.specs.Prelude.{◌≡◌, List, ℕ, ◌*◌, ◌≤◌}
use Rattle.xcf_numbers.specs.Limit.{depth_limit, tile_side}
use Rattle.xcf_numbers.specs.Fault.{mark_of_any}
use Rattle.xcf_stream.specs.declared.StreamEnd.{StreamEnd}
use Rattle.xcf_tile.specs.declared.Compression.{Compression}
use Rattle.xcf_tile.specs.Compression.{number_of}
use Rattle.xcf_tile.specs.Tile.{Tile}

-- r and the pixels are those of the tile t
pub record TileGiven (t : Tile) (r : StreamEnd) (new : List ℕ) : Type 0 where
  pub mark : mark_of_any r.fault ≡ t.mark
  pub consumed : r.at ≡ t.consumed
  pub operations : r.operations ≡ t.operations
  pub pixels : new ≡ t.pixels

-- sizes and a compression that are not refused
pub record UsableTile (w h depth compression len : ℕ) (c : Compression) : Type 0 where
  pub wide : w ≤ tile_side
  pub high : h ≤ tile_side
  pub deep : depth ≤ depth_limit
  pub way : compression ≡ number_of c
  pub exact : len ≡ w * h * depth
