-- The theorem of specs.Taken: a table with the rows that the reader gave for an accepted file, but for what the writer excepts, is
-- taken. The used rows along the image's walk, and the rows behind them as unused ones.
-- Assumes nothing.
use Prim.Native.Nat.{ℕ, ◌<◌}
use mathlib.Core.Path.{◌≡◌, sym, ap, subst}
use mathlib.Core.List.{List}
use mathlib.Core.Logic.{⊎_elim}
use native.Mathlib.Omega.{arith}
use Rattle.xcf_numbers.specs.Limit.{table_rows}
use Rattle.xcf_numbers.specs.Kind
use Rattle.xcf_walk.specs.Walk.{got, run}
use Rattle.xcf_laws.proofs.Cases.{below_or}
use Rattle.xcf_table.specs.declared.Row.{Row}
use Rattle.xcf_table.specs.Table.{row_at, table_of}
use Rattle.xcf_read.specs.Image.{Image, canvas_of, image}
use Rattle.xcf_read.specs.Answer.{Reading, reading_of, reading}
use Rattle.xcf_table.proofs.Tables.{table_row, table_unused}
use Rattle.xcf_read_laws.proofs.Accepted.{accepted_sized, read_walked, accepted_exactly}
use Rattle.xcf_read_laws.proofs.AcceptedRows.{accepted_rows}
use Rattle.xcf_usable.specs.Usable.{bad_row}
use Rattle.xcf_round_trip.specs.Taken.{RowExcepted, RowsExcepted, GivenIsTaken}
use Rattle.xcf_round_trip.proofs.RowGiven.{Like}
use Rattle.xcf_round_trip.proofs.RowTaken.{unused_taken}
use Rattle.xcf_round_trip.proofs.RowsShown.{Shown}
use Rattle.xcf_round_trip.proofs.ImageTaken.{ensures_taken}
use Rattle.xcf_round_trip.proofs.NoneBad.{none_bad}

module _ (file table names : List ℕ) (x : Image) (q : ℕ) (walked : got x q ≡ run image file 0)
    (same : (k : ℕ) → k < table_rows → Like (row_at table k) (row_at (table_of x.rows) k))
    (excepted : (k : ℕ) → k < table_rows → RowExcepted names (row_at table k))
    (unnamed : (k : ℕ) → k < table_rows → (row_at table k).kind ≡ Kind.unused → (row_at table k).name ≡ 0) (once : RowsExcepted table) where
  shown : Shown table x.rows
  shown =
      let i = accepted_rows file walked in
      record {
        few = i.few;
        row = λ k h. subst (Like (row_at table k)) (table_row x.rows i.few i.long k h) (same k (omega (arith, i.few)));
      }

  image_taken : bad_row (canvas_of x.head) names table ≡ table_rows
  image_taken =
      let c = canvas_of x.head in
      let i = accepted_rows file walked in
      none_bad c names table λ k h.
      ⊎_elim
      ((ensures_taken names table excepted once {S = λ _. Unit {0}}).holds 0 walked (λ _ _. tt) shown k)
      (λ behind.
      let like = subst (Like (row_at table k)) (table_unused x.rows i.few i.long k behind h) (same k h) in
      unused_taken c names table excepted once k h like (unnamed k h (ap (λ (r : Row). r.kind) like)))
      (below_or k x.rows.count)

pub given_is_taken : GivenIsTaken
unfolding canvas_of
given_is_taken file lent table names accepted same excepted unnamed once =
    let s = accepted_sized file lent accepted in
    let w = (accepted_exactly file lent s.0 s.1).0 accepted in
    let e : reading file lent ≡ reading_of (got w.0 w.1) = read_walked file lent s.0 s.1 (sym w.2) in
    subst
    (λ (r : Reading).
    bad_row (record { width = r.answer.width; height = r.answer.height; base = r.answer.base }) names table ≡ table_rows)
    (sym e)
    (image_taken file table names w.0 w.1 w.2
    (subst (λ (r : Reading). (k : ℕ) → k < table_rows → Like (row_at table k) (row_at r.table k)) e same) excepted unnamed once)
