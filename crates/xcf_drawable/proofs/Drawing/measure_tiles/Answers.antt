-- `measure_tiles` meets its contract: `Measuring` holds at the loop's head, and a tile's encoding keeps it.
use mathlib.Core.Path.{◌∙◌}
use native.Mathlib.Omega.{arith}
use Rattle.xcf_store.proofs.Stores.{put_length}
use Rattle.xcf_drawable.proofs.EncodingBound.{tiled, encoding_bound}
use Rattle.xcf_drawable.proofs.TilesMeasured.{measuring_next, measuring_small, measuring_over}
use Rattle.xcf_drawable.proofs.Drawing.measure_tiles.Goals as goal

pub encode-size-requires-clause-pixels_in_bounds : goal.encode-size-requires-clause-pixels_in_bounds
encode-size-requires-clause-pixels_in_bounds c =
    let one = tiled c.args.self.now.writable.drawn c.loop-t-test.true in omega (arith, encoding_bound one, c.loop-t.invariant.1.1)

pub overflow_add-size : goal.overflow_add-size
overflow_add-size c =
    let d = c.args.self.now.writable.drawn in
    omega (arith, measuring_small (measuring_next c.loop-t.invariant.0 d c.loop-t-test.true c.encode-size.ensures.behind) d)

pub loop-t-preserved : goal.loop-t-preserved
loop-t-preserved c = (
  measuring_next c.loop-t.invariant.0 c.args.self.now.writable.drawn c.loop-t-test.true c.encode-size.ensures.behind,
  (omega arith, put_length c.encode-size.ensures ∙ c.loop-t.invariant.1.1),
)

pub returns : goal.returns
returns c =
    let m = c.loop-t.invariant.0 in (measuring_over m c.loop-t-test.false, measuring_small m c.args.self.now.writable.drawn)
