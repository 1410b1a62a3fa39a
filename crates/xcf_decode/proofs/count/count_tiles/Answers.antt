-- `count_tiles` meets its contract: `Counting` holds at the loop's head, and each tile keeps it.
use Prim.Native.Nat.{◌<◌}
use native.Mathlib.Omega.{arith}
use Rattle.xcf_decode.proofs.TilesLoop.{counting_start, counting_few, counting_good, counting_bad, counting_over}
use Rattle.xcf_decode.proofs.count.count_tiles.Goals as goal
use Rattle.xcf_decode.proofs.count.count_tiles.Goals.{then-mark-ne0, else-mark-ne0}

pub loop-t-init : goal.loop-t-init
loop-t-init c = counting_start c.requires.1

-- in a turn, the tiles before it and the marks among them are few
pub overflow_add-marked : goal.overflow_add-marked
overflow_add-marked c = omega (arith, counting_few c.requires.0 c.loop-t.invariant)

pub loop-t-preserved : goal.loop-t-preserved
loop-t-preserved c =
    let g = c.loop-t.invariant in
    let less : c.loop-t.t < c.args.drawable.now.row.count = omega (arith, c.loop-t-test.true) in
    let tile = c.decode-mark.ensures in
    elim c.if-mark-ne0.branch [
      | then-mark-ne0 w ↦ rw w.marked-is (counting_bad g less tile (λ z. omega (arith, z, w.if-mark-ne0.true)))
      | else-mark-ne0 w ↦ rw w.marked-is (counting_good g less tile (omega (arith, w.if-mark-ne0.false)))
    ]

pub returns : goal.returns
returns c = counting_over c.loop-t.invariant (omega (arith, c.loop-t-test.false))
