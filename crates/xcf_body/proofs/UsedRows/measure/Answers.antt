-- `measure` meets its contract: `Measuring` holds at the loop's head.
use mathlib.Core.Path.{ap, ◌∙◌}
use native.Mathlib.Omega.{arith}
use Rattle.xcf_drawable.specs.Drawable.{drawable_size}
use Rattle.xcf_body.proofs.RowsLeft.{row_lent_lem, rows_end}
use Rattle.xcf_body.proofs.RowsMeasured.{measuring_next, all_stored}
use Rattle.xcf_body.proofs.UsedRows.measure.Goals as goal

pub slice_bounds-drawing-end : goal.slice_bounds-drawing-end
slice_bounds-drawing-end c =
    let e = c.pixels_end-end.ensures.0 in
    omega (arith, e, row_lent_lem _ _ _ _ _ c.loop-k.invariant.rows c.loop-k-test.true e c.args.self.now.ready)

pub loop-k-preserved : goal.loop-k-preserved
loop-k-preserved c =
    let e = c.pixels_end-end.ensures in
    let size = c.measure-to.ensures in
    measuring_next _ _ _ _ _ _ c.loop-k.invariant c.loop-k-test.true e.0 e.1 (size.0 ∙ ap drawable_size c.drawing.ensures) size.1

pub returns-clause-value : goal.returns-clause-value
returns-clause-value c = rows_end _ _ _ _ _ c.loop-k.invariant.rows c.loop-k-test.false

pub returns-clause-places_after : goal.returns-clause-places_after
returns-clause-places_after c = all_stored _ _ _ _ _ _ c.loop-k.invariant c.loop-k-test.false
