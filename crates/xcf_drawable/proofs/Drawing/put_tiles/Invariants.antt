-- `put_tiles` meets its contract: `Storing` holds at the loop's head, and a pointer and an encoding stored keep it.
use mathlib.Core.Path.{◌≡◌}
use lib.ListN.{length}
use Rattle.xcf_numbers.specs.Limit.{tile_size}
use Rattle.xcf_drawable.proofs.TilesStored.{Storing}
use Rattle.xcf_drawable.proofs.Drawing.put_tiles.Given as goal

abbrev pub invariant-loop-t : goal.invariant-loop-t
invariant-loop-t l = record {
  stored : Storing l.self.structure.row l.self.pixels.now l.first l.initial.links l.initial.tiles l.t l.links l.tiles;
  tile : length l.tile ≡ tile_size;
  same_links : l.links.bytes.ghost_name ≡ l.initial.links.bytes.ghost_name;
  same_tiles : l.tiles.bytes.ghost_name ≡ l.initial.tiles.bytes.ghost_name;
}
