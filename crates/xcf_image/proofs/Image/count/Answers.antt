-- `count` meets its contract: `KindLeft` holds at the loop's head.
use native.Mathlib.Omega.{arith}
use Rattle.xcf_image.proofs.RowsLoop.{kind_next, kind_over}
use Rattle.xcf_image.proofs.Image.count.Goals as goal

pub loop-k-preserved : goal.loop-k-preserved
loop-k-preserved c = kind_next c.loop-k.invariant c.loop-k-test.true c.row_at.ensures c.from-count.ensures

pub returns : goal.returns
returns c = (kind_over c.loop-k.invariant c.loop-k-test.false, omega (arith, c.loop-k.invariant.most, c.args.self.now.few))
