-- `put_rows` meets its contract: the loop's invariant is `RowsListed`, a turn `rows_turn`. The count fits a u64, since a row has at
-- most 65,536 tiles, and there are fewer than 2 ^ 32 rows.
use mathlib.Core.Path.{◌≡◌}
use Rattle.xcf_listing.proofs.RowLines.{RowsListed}
use Rattle.xcf_listing.proofs.rows.put_rows.Given as goal

abbrev pub invariant-loop-k : goal.invariant-loop-k
invariant-loop-k l = record {
  rows : RowsListed l.size l.file l.table l.compression l.rows l.initial.text.bytes.now l.initial.text.at l.k l.text.at l.marked l.text.bytes.now;
  same : l.text.bytes.ghost_name ≡ l.initial.text.bytes.ghost_name;
}
