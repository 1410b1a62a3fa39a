-- `depth_of` meets its contract: the list has a depth for each type, and the default for other numbers is the definition's.
use native.Mathlib.Omega.{arith}
use Rattle.xcf_table.specs.Canvas.{depth_of}
use Rattle.xcf_table.proofs.canvas.depth_of.Goals as goal

pub returns : goal.returns
unfolding depth_of
returns c = rw (c.unwrap_or.ensures, c.copied.ensures) (grind (arith, c.get.ensures.lookup))
