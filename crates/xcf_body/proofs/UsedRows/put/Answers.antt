-- `put` meets its contract: `Putting` holds at the loop's head.
use Prim.Native.Nat.{ℕ}
use mathlib.Core.Path.{ap, ◌∙◌}
use mathlib.Core.Bool.{cond}
use native.Mathlib.Omega.{arith}
use Rattle.xcf_body.proofs.RowsLeft.{row_room, row_lent_lem}
use Rattle.xcf_body.proofs.RowsStored.{next_place, putting_next, all_put}
use Rattle.xcf_body.proofs.UsedRows.put.Goals as goal

pub slice_bounds-drawing-end : goal.slice_bounds-drawing-end
slice_bounds-drawing-end c =
    let e = c.pixels_end-end.ensures.0 in
    omega (arith, e, row_lent_lem _ _ _ _ _ c.loop-k.invariant.stored.rows c.loop-k-test.true e c.args.self.now.ready)

-- the mask, if there is one, begins where the next row's drawable does
pub put-requires-clause-mask_value : goal.put-requires-clause-mask_value
put-requires-clause-mask_value c =
    let next = next_place _ _ _ _ _ _ _ c.loop-k.invariant.stored c.loop-k-test.true c.pixels_end-end.ensures.0 in
    c.mask_place.ensures ∙ ap (λ (e : ℕ). cond c.drawing-drawing.result.structure.masked e 0) (rw c.drawing-drawing.ensures next)

pub put-requires-clause-space : goal.put-requires-clause-space
put-requires-clause-space c =
    let i = c.loop-k.invariant.stored in
    let most = row_room _ _ _ _ _ i.rows c.loop-k-test.true c.pixels_end-end.ensures.0 in
    rw c.drawing-drawing.ensures (record { room = omega (arith, most, c.requires.room, i.long); low = omega (arith, most, c.requires.low) })

pub loop-k-preserved : goal.loop-k-preserved
loop-k-preserved c =
    let e = c.pixels_end-end.ensures in
    let i = c.loop-k.invariant in
    record {
      stored = putting_next _ _ _ _ _ _ _ i.stored c.loop-k-test.true e.0 e.1 (rw c.drawing-drawing.ensures at c.put.ensures.stores);
      same = c.put.ensures.same ∙ i.same;
    }

pub returns-clause-stores : goal.returns-clause-stores
returns-clause-stores c = all_put _ _ _ _ _ _ _ c.loop-k.invariant.stored c.loop-k-test.false
