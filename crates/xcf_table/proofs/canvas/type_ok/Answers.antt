-- `type_ok` meets its contract, by whether the type is at most 5; the test of the base type is the definition's.
use borrow.Author.Tests.{le-leb, lt-leb}
use Rattle.xcf_table.specs.Canvas.{type_ok}
use Rattle.xcf_table.proofs.canvas.type_ok.Goals as goal

pub returns-then-t-le-TYPE_LIMIT : goal.returns-then-t-le-TYPE_LIMIT
unfolding type_ok
returns-then-t-le-TYPE_LIMIT c = rw (le-leb _ _ c.if-t-le-TYPE_LIMIT.true)

pub returns-else-t-le-TYPE_LIMIT : goal.returns-else-t-le-TYPE_LIMIT
unfolding type_ok
returns-else-t-le-TYPE_LIMIT c = rw (lt-leb _ _ c.if-t-le-TYPE_LIMIT.false)
