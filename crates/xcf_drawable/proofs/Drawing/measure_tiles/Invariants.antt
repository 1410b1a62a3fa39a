-- `measure_tiles` meets its contract: `Measuring` holds at the loop's head, and a tile's encoding keeps it.
use mathlib.Core.Path.{◌≡◌}
use lib.ListN.{length}
use Rattle.xcf_numbers.specs.Limit.{tile_size, encoded_size}
use Rattle.xcf_drawable.proofs.TilesMeasured.{Measuring}
use Rattle.xcf_drawable.proofs.Drawing.measure_tiles.Given as goal

abbrev pub invariant-loop-t : goal.invariant-loop-t
invariant-loop-t l =
    Measuring l.self.structure.row l.self.pixels.now l.t l.size × ((length l.tile ≡ tile_size) × (length l.encoded ≡ encoded_size))
