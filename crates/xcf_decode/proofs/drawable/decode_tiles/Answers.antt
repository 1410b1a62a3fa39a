-- `decode_tiles` meets its contract: `TilesGoing` holds at the loop's head, and each tile keeps it.
use Prim.Native.Nat.{◌+◌, ◌<◌}
use mathlib.Core.Path.{◌∙◌}
use native.Mathlib.Omega.{arith}
use Rattle.xcf_store.specs.Width.{bytes_of}
use Rattle.xcf_tile.specs.Compression.{number_of}
use Rattle.xcf_decode.proofs.TilesLoop.{Counting, going_start, counting_few, counting_good, counting_bad, tile_placeable, going_next, going_counted, going_shown, going_marked}
use Rattle.xcf_decode.proofs.drawable.decode_tiles.Goals as goal
use Rattle.xcf_decode.proofs.drawable.decode_tiles.Goals.{then-mark-ne0, else-mark-ne0}

pub loop-t-init : goal.loop-t-init
loop-t-init c = let p = c.requires.pixels_len in going_start p.0 p.1 p.2

pub put_tile-requires : goal.put_tile-requires
put_tile-requires c =
    let g = c.loop-t.invariant in
    rw c.of-frame.ensures (tile_placeable c.requires.ready g (omega (arith, c.loop-t-test.true)) _ (c.decode-mark.ensures.size ∙ g.counting.room))

-- in a turn, the tiles before it and the marks among them are few
pub overflow_add-marked : goal.overflow_add-marked
overflow_add-marked c = omega (arith, counting_few c.requires.ready c.loop-t.invariant.counting)

pub loop-t-preserved : goal.loop-t-preserved
loop-t-preserved c =
    let d = c.args.drawable.now in
    let g = c.loop-t.invariant in
    let less : c.loop-t.t < d.row.count = omega (arith, c.loop-t-test.true) in
    let tile = c.decode-mark.ensures in
    let next : Counting (bytes_of d.width) d.file.now d.row (number_of d.compression) c.decode-mark.new.scratch (c.loop-t.t + 1) c.if-mark-ne0.marked = elim c.if-mark-ne0.branch [
      | then-mark-ne0 w ↦ rw w.marked-is (counting_bad g.counting less tile (λ z. omega (arith, z, w.if-mark-ne0.true)))
      | else-mark-ne0 w ↦ rw w.marked-is (counting_good g.counting less tile (omega (arith, w.if-mark-ne0.false)))
    ] in
    rw (c.put_tile.ensures, c.of-frame.ensures) (going_next c.requires.ready g less tile next)

pub returns-clause-value : goal.returns-clause-value
returns-clause-value c = going_counted c.requires.ready c.loop-t.invariant (omega (arith, c.loop-t-test.false))

pub returns-clause-pixels_after : goal.returns-clause-pixels_after
returns-clause-pixels_after c = going_shown c.requires.ready c.loop-t.invariant (omega (arith, c.loop-t-test.false))

pub returns-clause-marks_after : goal.returns-clause-marks_after
returns-clause-marks_after c = going_marked c.requires.ready c.loop-t.invariant (omega (arith, c.loop-t-test.false))
