-- `side_ok` meets its contract, by whether the side is at least 1; the test of the limit is the definition's.
use borrow.Author.Tests.{le-leb, lt-leb}
use Rattle.xcf_table.specs.Canvas.{side_ok}
use Rattle.xcf_table.proofs.canvas.side_ok.Goals as goal

pub returns-then-n-ge1 : goal.returns-then-n-ge1
unfolding side_ok
returns-then-n-ge1 c = rw (le-leb _ _ c.if-n-ge1.true)

pub returns-else-n-ge1 : goal.returns-else-n-ge1
unfolding side_ok
returns-else-n-ge1 c = rw (lt-leb _ _ c.if-n-ge1.false)
