-- `pixels_size` meets its contract: `PixelsLeft` holds at the loop's head.
use Rattle.xcf_body.proofs.RowsLoop.{pixels_next, pixels_over}
use Rattle.xcf_body.proofs.pixels_size.Goals as goal

pub loop-k-preserved : goal.loop-k-preserved
loop-k-preserved c =
    let e = c.pixels_end-size.ensures in pixels_next c.loop-k.invariant c.loop-k-test.true e.0 e.1

pub returns : goal.returns
returns c = pixels_over c.loop-k.invariant c.loop-k-test.false
