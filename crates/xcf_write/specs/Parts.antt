-- The parts of the private functions' contracts, by name.
use Rattle.std.specs.Prelude.{ℕ, ◌≡◌, List, length}
use Rattle.xcf_numbers.specs.Refusal
use Rattle.xcf_table.specs.declared.canvas.Canvas.{Canvas}
use Rattle.xcf_body.specs.declared.UsedRows.{UsedRows}
use Rattle.xcf_body.specs.Rows.{used_rows}
use Rattle.xcf_write.specs.declared.WriteAnswer.{WriteAnswer}
use Rattle.xcf_write.specs.Answer.{answered, file_of, write_answer, write_output}

-- what is answered and left in the output where nothing but room is asked for
pub record Fitted (c : Canvas) (table names pixels old : List ℕ) (r : WriteAnswer) (new : List ℕ) : Type 0 where
  pub answer : r ≡ write_answer (answered Refusal.accepted 0 0) (length (file_of c table names pixels)) (length old)
  pub output : new ≡ write_output r (file_of c table names pixels) old

-- the used rows of a table t, with the names ns and the pixels ps
pub record Taken (rows : UsedRows) (t ns ps : List ℕ) : Type 0 where
  pub table : rows.table.now ≡ t
  pub used : rows.used ≡ used_rows t
  pub names : rows.names.now ≡ ns
  pub pixels : rows.pixels.now ≡ ps
