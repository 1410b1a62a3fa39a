-- `pixels_size` meets its contract: `PixelsLeft` holds at the loop's head.
use Rattle.xcf_body.proofs.RowsLoop.{PixelsLeft}
use Rattle.xcf_body.proofs.pixels_size.Given as goal

abbrev pub invariant-loop-k : goal.invariant-loop-k
invariant-loop-k l = PixelsLeft l.table l.n l.k l.size
