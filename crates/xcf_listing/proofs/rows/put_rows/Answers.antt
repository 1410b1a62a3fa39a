-- `put_rows` meets its contract: the loop's invariant is `RowsListed`, a turn `rows_turn`. The count fits a u64, since a row has at
-- most 65,536 tiles, and there are fewer than 2 ^ 32 rows.
use mathlib.Core.Path.{refl, ap, ◌∙◌}
use native.Mathlib.Omega.{arith}
use Rattle.xcf_listing.proofs.RowLines.{rows_start, rows_room, rows_few, rows_turn}
use Rattle.xcf_listing.proofs.rows.put_rows.Goals as goal

pub loop-k-init : goal.loop-k-init
loop-k-init c = record { rows = rows_start _ _ _ _ _ _ _; same = refl }

pub put_row-requires : goal.put_row-requires
put_row-requires c = (rows_room c.loop-k.invariant.rows c.requires.0 (omega arith), omega arith)

pub overflow_add-marked : goal.overflow_add-marked
overflow_add-marked c = omega (arith, rows_few c.loop-k.invariant.rows (ap (λ a. a.marked) c.count_marked-answer.ensures))

pub loop-k-preserved : goal.loop-k-preserved
loop-k-preserved c = record {
  rows = rows_turn c.loop-k.invariant.rows (omega arith) (ap (λ a. a.marked) c.count_marked-answer.ensures) c.put_row.ensures.stores;
  same = c.put_row.ensures.same ∙ c.loop-k.invariant.same;
}
