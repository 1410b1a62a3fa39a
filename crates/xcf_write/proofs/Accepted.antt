-- What the writer's acceptance says: every test of its input was passed, the file fits, and it stands at the output's start; and what
-- its refusal leaves.
-- Assumes nothing.
use Prim.Native.Nat.{ℕ, ◌≤◌}
use mathlib.Core.Path.{◌≡◌, refl}
use mathlib.Core.List.{List, ◌++◌}
use mathlib.Core.Bool.{Bool, true, false, cond, ◌&&◌, and-eq-true_iff}
use native.Mathlib.Omega.{arith}
use borrow.Author.Tests.{eqb-true, eqb-false, leb-true, ne_eqb}
use lib.ListN.{length, drop}
use lib.Dec.{leb, eqb}
use Rattle.xcf_numbers.specs.Limit.{file_limit, table_rows, table_size}
use Rattle.xcf_numbers.specs.Base
use Rattle.xcf_numbers.specs.Refusal
use Rattle.xcf_table.specs.declared.canvas.Canvas.{Canvas}
use Rattle.xcf_table.specs.Canvas.{side_ok}
use Rattle.xcf_usable.specs.Usable.{bad_row}
use Rattle.xcf_write.specs.declared.WriteAnswer.{WriteAnswer}
use Rattle.xcf_body.specs.Rows.{pixels_size, used_rows}
use Rattle.xcf_write.specs.Answer.{answered, file_of, rows_refusal, input_refusal, write_answer, write_output, writing, Written, width_place, height_place, base_place}
use Rattle.xcf_write.specs.Parts.{Fitted}

-- of two answers chosen by a test, number 0 is the first one's where the second is a refusal
chosen : (b : Bool) (a r : WriteAnswer) → (r.number ≡ 0 → ⊥) → (cond b a r).number ≡ 0 → (b ≡ true) × (a.number ≡ 0)
chosen true a r h e = (refl, e)
chosen false a r h e = absurd (h e)

pub record InputAccepted (c : Canvas) (table names : List ℕ) (pixels : ℕ) : Type 0 where
  pub size : length table ≡ table_size
  pub wide : side_ok c.width ≡ true
  pub high : side_ok c.height ≡ true
  pub base : c.base ≤ 1
  pub usable : bad_row c names table ≡ table_rows
  pub whole : pixels ≡ pixels_size table (used_rows table) 0

module _ (c : Canvas) (table names : List ℕ) (pixels : ℕ) where
  rows_accepted : (rows_refusal c table names pixels).number ≡ 0
      → (bad_row c names table ≡ table_rows) × (pixels ≡ pixels_size table (used_rows table) 0)
  unfolding rows_refusal
  rows_accepted e =
      let a = chosen (eqb (bad_row c names table) table_rows) _ (answered Refusal.bad_row (bad_row c names table) 0) (λ z. absurd (omega arith)) e in
      let b = chosen (eqb pixels (pixels_size table (used_rows table) 0)) _ (answered Refusal.wrong_buffer 0 0) (λ z. absurd (omega arith)) a.1 in
      (eqb-true _ _ a.0, eqb-true _ _ b.0)

  pub input_accepted : (input_refusal c table names pixels).number ≡ 0 → InputAccepted c table names pixels
  unfolding input_refusal
  input_accepted e =
      let size = chosen (eqb (length table) table_size) _ (answered Refusal.wrong_buffer 0 0) (λ z. absurd (omega arith)) e in
      let wide = chosen (side_ok c.width) _ (answered Refusal.bad_side width_place 0) (λ z. absurd (omega arith)) size.1 in
      let high = chosen (side_ok c.height) _ (answered Refusal.bad_side height_place 0) (λ z. absurd (omega arith)) wide.1 in
      let base = chosen (leb c.base Base.grey) _ (answered Refusal.bad_base base_place 0) (λ z. absurd (omega arith)) high.1 in
      let rows = rows_accepted base.1 in
      record {
        size = eqb-true _ _ size.0;
        wide = wide.0;
        high = high.0;
        base = leb-true _ _ base.0;
        usable = rows.0;
        whole = rows.1;
      }

-- an accepted call
pub record Accepted (c : Canvas) (table names pixels output : List ℕ) : Type 0 where
  pub input : InputAccepted c table names (length pixels)
  pub room : length (file_of c table names pixels) ≤ length output
  pub low : length (file_of c table names pixels) ≤ file_limit
  pub size : (writing c table names pixels output).answer.length ≡ length (file_of c table names pixels)
  pub content : (writing c table names pixels output).output ≡ file_of c table names pixels ++ drop (length (file_of c table names pixels)) output

-- number 0 is given where the input is accepted and the file fits
answer_accepted : (refusal : WriteAnswer) (size room : ℕ) → (write_answer refusal size room).number ≡ 0
    → (refusal.number ≡ 0) × ((leb size room && leb size file_limit) ≡ true)
unfolding write_answer
answer_accepted refusal size room e = go (eqb refusal.number 0) refl (leb size room && leb size file_limit) refl e
  where
    go : (a : Bool) → eqb refusal.number 0 ≡ a → (b : Bool) → (leb size room && leb size file_limit) ≡ b
        → (cond a (cond b (answered Refusal.accepted 0 size) (answered Refusal.no_room 0 0)) refusal).number ≡ 0
        → (refusal.number ≡ 0) × ((leb size room && leb size file_limit) ≡ true)
    go true x true y z = (eqb-true _ _ x, y)
    go true x false y z = absurd (omega arith)
    go false x b y z = absurd (eqb-false _ _ x z)

pub accepted : (c : Canvas) (table names pixels output : List ℕ) → (writing c table names pixels output).answer.number ≡ 0
    → Accepted c table names pixels output
unfolding writing write_output write_answer
accepted c table names pixels output e =
    let file = file_of c table names pixels in
    let refusal = input_refusal c table names (length pixels) in
    let a = answer_accepted refusal (length file) (length output) e in
    let b = (and-eq-true_iff (leb (length file) (length output)) (leb (length file) file_limit)).0 a.1 in
    record {
      input = input_accepted c table names (length pixels) a.0;
      room = leb-true _ _ b.0;
      low = leb-true _ _ b.1;
      size = rw (a.0, b.0, b.1);
      content = rw (a.0, b.0, b.1);
    }

-- the promise, where the input is refused, and where it is accepted and the file is stored as it fits
module _ (c : Canvas) (table names pixels old : List ℕ) {refusal : WriteAnswer}
    (e : refusal ≡ input_refusal c table names (length pixels)) where
  pub written_refused : (refusal.number ≡ 0 → ⊥) → Written c table names pixels old refusal old
  unfolding writing write_output write_answer
  written_refused h = record { answer = rw (← e, ne_eqb _ _ h); output = rw (← e, ne_eqb _ _ h, ne_eqb _ _ h) }

  pub written_fitted : refusal.number ≡ 0 → {r : WriteAnswer} {new : List ℕ} → Fitted c table names pixels old r new
      → Written c table names pixels old r new
  unfolding writing write_answer
  written_fitted h f = record { answer = rw (← e, h) f.answer; output = rw (← e, h) (rw f.answer at f.output) }

-- what fits, and what does not
module _ (c : Canvas) (table names pixels old : List ℕ) where
  abbrev file : List ℕ
  file = file_of c table names pixels

  pub fitted : {new : List ℕ} → (leb (length file) (length old) && leb (length file) file_limit) ≡ true
      → new ≡ file ++ drop (length file) old → Fitted c table names pixels old (answered Refusal.accepted 0 (length file)) new
  unfolding write_answer write_output
  fitted t e = record { answer = rw t; output = e }

  pub not_fitted : (leb (length file) (length old) && leb (length file) file_limit) ≡ false → Fitted c table names pixels old (answered Refusal.no_room 0 0) old
  unfolding write_answer write_output
  not_fitted t = record { answer = rw t; output = refl }
