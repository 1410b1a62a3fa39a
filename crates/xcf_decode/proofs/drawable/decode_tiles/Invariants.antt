-- `decode_tiles` meets its contract: `TilesGoing` holds at the loop's head, and each tile keeps it.
use Rattle.xcf_store.specs.Width.{bytes_of}
use Rattle.xcf_tile.specs.Compression.{number_of}
use Rattle.xcf_decode.proofs.TilesLoop.{TilesGoing}
use Rattle.xcf_decode.proofs.drawable.decode_tiles.Given as goal

abbrev pub invariant-loop-t : goal.invariant-loop-t
invariant-loop-t l =
    let d = l.drawable in
    TilesGoing (bytes_of d.width) d.file.now d.row (number_of d.compression) l.pixels l.marks l.scratch l.t l.marked
