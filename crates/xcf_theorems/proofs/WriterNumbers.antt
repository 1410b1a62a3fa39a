-- The writer's numbers are listed: each of its answers is one of the definition's.
-- Assumes nothing.
use Prim.Native.Nat.{ℕ}
use mathlib.Core.Path.{◌≡◌, refl}
use mathlib.Core.List.{List}
use mathlib.Core.Bool.{true, ◌&&◌}
use lib.ListN.{length}
use lib.Dec.{leb, eqb}
use Rattle.std.proofs.lemmas.Bool.{cond_both}
use Rattle.xcf_numbers.specs.Limit.{file_limit, table_rows, table_size}
use Rattle.xcf_numbers.specs.Listed.{listed}
use Rattle.xcf_table.specs.declared.canvas.Canvas.{Canvas}
use Rattle.xcf_table.specs.Canvas.{side_ok}
use Rattle.xcf_usable.specs.Usable.{bad_row}
use Rattle.xcf_write.specs.declared.WriteAnswer.{WriteAnswer}
use Rattle.xcf_body.specs.Rows.{pixels_size, used_rows}
use Rattle.xcf_write.specs.Answer.{file_of, rows_refusal, input_refusal, write_answer, writing, writer_numbers}

abbrev Listed : WriteAnswer → Type 0
Listed a = listed writer_numbers a.number ≡ true

rows_listed : (c : Canvas) (table names : List ℕ) (pixels : ℕ) → Listed (rows_refusal c table names pixels)
unfolding listed rows_refusal
rows_listed c table names pixels =
    cond_both (eqb (bad_row c names table) table_rows) _ _ Listed
    (λ _. cond_both (eqb pixels (pixels_size table (used_rows table) 0)) _ _ Listed (λ _. refl) (λ _. refl)) (λ _. refl)

input_listed : (c : Canvas) (table names : List ℕ) (pixels : ℕ) → Listed (input_refusal c table names pixels)
unfolding listed input_refusal
input_listed c table names pixels =
    cond_both (eqb (length table) table_size) _ _ Listed
    (λ _. cond_both (side_ok c.width) _ _ Listed
    (λ _. cond_both (side_ok c.height) _ _ Listed (λ _. cond_both (leb c.base 1) _ _ Listed (λ _. rows_listed c table names pixels) (λ _. refl)) (λ _. refl))
    (λ _. refl))
    (λ _. refl)

pub writer_listed : (c : Canvas) (table names pixels output : List ℕ) → Listed (writing c table names pixels output).answer
unfolding listed write_answer writing
writer_listed c table names pixels output =
    let size = length (file_of c table names pixels) in
    cond_both (eqb (input_refusal c table names (length pixels)).number 0) _ _ Listed
    (λ _. cond_both (leb size (length output) && leb size file_limit) _ _ Listed (λ _. refl) (λ _. refl))
    (λ _. input_listed c table names (length pixels))
