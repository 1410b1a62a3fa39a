-- `count` meets its contract: `KindLeft` holds at the loop's head.
use Rattle.xcf_image.proofs.RowsLoop.{KindLeft}
use Rattle.xcf_image.proofs.Image.count.Given as goal

abbrev pub invariant-loop-k : goal.invariant-loop-k
invariant-loop-k l = KindLeft l.self.table.now l.self.used l.kind l.k l.count
