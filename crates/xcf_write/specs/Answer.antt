-- What the writer answers, and what it leaves in the output.
use Rattle.std.specs.Prelude.{ℕ, ◌≡◌, List, [], ◌∷◌, ◌++◌, cond, ◌&&◌, length, drop, leb, eqb}
use Rattle.xcf_numbers.specs.Limit.{file_limit, table_rows, table_size}
use Rattle.xcf_numbers.specs.Base
use Rattle.xcf_numbers.specs.Refusal
use Rattle.xcf_table.specs.declared.canvas.Canvas.{Canvas}
use Rattle.xcf_table.specs.Canvas.{side_ok}
use Rattle.xcf_usable.specs.Usable.{bad_row}
use Rattle.xcf_write.specs.declared.WriteAnswer.{WriteAnswer}
use Rattle.xcf_write.specs.File.{file_bytes}
use Rattle.xcf_body.specs.Rows.{pixels_size, drawables_from, used_rows}

-- the places of the canvas's sides and base type in a file
abbrev pub width_place : ℕ
width_place = 14

abbrev pub height_place : ℕ
height_place = 18

abbrev pub base_place : ℕ
base_place = 22

-- a number, its place and a length
abbrev pub answered : ℕ → ℕ → ℕ → WriteAnswer
answered n p size = record { number = n; place = p; length = size }

-- the file that the used rows are written as
unfoldable pub file_of : Canvas → List ℕ → List ℕ → List ℕ → List ℕ
file_of c table names pixels = file_bytes c (drawables_from table (used_rows table) 0 names pixels)

-- what is refused before the file is made: 17 at the lowest bad row, then 11 for the pixels; else number 0
unfoldable pub rows_refusal : Canvas → List ℕ → List ℕ → ℕ → WriteAnswer
rows_refusal c table names pixels =
    cond (eqb (bad_row c names table) table_rows)
    (cond (eqb pixels (pixels_size table (used_rows table) 0)) (answered Refusal.accepted 0 0) (answered Refusal.wrong_buffer 0 0))
    (answered Refusal.bad_row (bad_row c names table) 0)

-- and before that 11 for the table, 4 and 5
unfoldable pub input_refusal : Canvas → List ℕ → List ℕ → ℕ → WriteAnswer
input_refusal c table names pixels =
    cond (eqb (length table) table_size)
    (cond (side_ok c.width)
    (cond (side_ok c.height)
    (cond (leb c.base Base.grey) (rows_refusal c table names pixels) (answered Refusal.bad_base base_place 0))
    (answered Refusal.bad_side height_place 0))
    (answered Refusal.bad_side width_place 0))
    (answered Refusal.wrong_buffer 0 0)

-- then 18 where the file is longer than the lent output or the limit
unfoldable pub write_answer : WriteAnswer → ℕ → ℕ → WriteAnswer
write_answer refusal size room =
    cond (eqb refusal.number 0)
    (cond (leb size room && leb size file_limit) (answered Refusal.accepted 0 size) (answered Refusal.no_room 0 0))
    refusal

-- the file at the output's start; the rest, and on a refusal all of it, as lent
unfoldable pub write_output : WriteAnswer → List ℕ → List ℕ → List ℕ
write_output answer file old = cond (eqb answer.number 0) (file ++ drop (length file) old) old

-- an answer, and the output's content beside it
pub record Writing : Type 0 where
  pub answer : WriteAnswer
  pub output : List ℕ

unfoldable pub writing : Canvas → List ℕ → List ℕ → List ℕ → List ℕ → Writing
writing c table names pixels output =
    let file = file_of c table names pixels in
    let answer = write_answer (input_refusal c table names (length pixels)) (length file) (length output) in
    record { answer = answer; output = write_output answer file output }

-- the numbers that it answers
abbrev pub writer_numbers : List ℕ
writer_numbers = Refusal.accepted ∷ Refusal.bad_side ∷ Refusal.bad_base ∷ Refusal.wrong_buffer ∷ Refusal.bad_row ∷ Refusal.no_room ∷ []

-- the writer's promise: its answer r, and the output's new content
pub record Written (c : Canvas) (table names pixels old : List ℕ) (r : WriteAnswer) (new : List ℕ) : Type 0 where
  pub answer : r ≡ (writing c table names pixels old).answer
  pub output : new ≡ (writing c table names pixels old).output
