-- The count of marked tiles is that of the marks left in the buffer (`marks_counted`), and the count without buffers is the decoder's:
-- for buffers that fit, `counting` is what `decoding` answers (`count_decoded`).
-- Assumes nothing.
use Prim.Native.Nat.{ℕ}
use mathlib.Core.Path.{◌≡◌, refl}
use mathlib.Core.Bool.{Bool, true, false, cond}
use mathlib.Core.List.{List}
use borrow.Author.Tests.{eqb-false}
use lib.Dec.{eqb}
use lib.ListN.{length}
use Rattle.std.proofs.lemmas.Bool.{cond_both}
use Rattle.xcf_table.specs.Table.{row_at}
use Rattle.xcf_window.specs.Usable.{fits}
use Rattle.xcf_decode.specs.Answer.{drawable_refusal, nonzero, Decoding, row_decoding, decoding, counting}

answer_of_lem : (b : Bool) (x y : Decoding) → cond b x.answer y.answer ≡ (cond b x y).answer
answer_of_lem true x y = refl
answer_of_lem false x y = refl

pub count_decoded : (size : ℕ) (file table : List ℕ) (k compression : ℕ) (pixels marks : List ℕ) → fits (row_at table k) (length pixels) (length marks) ≡ true
    → counting size file table k compression ≡ (decoding size file table k compression pixels marks).answer
unfolding decoding counting row_decoding
count_decoded size file table k compression pixels marks fit =
    rw fit (answer_of_lem (eqb (drawable_refusal size file (length table) (row_at table k) compression true).number 0) (row_decoding size file (row_at table k) compression) _)

pub marks_counted : (size : ℕ) (file table : List ℕ) (k compression : ℕ) (pixels marks : List ℕ) →
    let d = decoding size file table k compression pixels marks in d.answer.number ≡ 0 → d.answer.marked ≡ nonzero d.marks
unfolding decoding row_decoding
marks_counted size file table k compression pixels marks =
    let r = row_at table k in
    let answer = drawable_refusal size file (length table) r compression (fits r (length pixels) (length marks)) in
    cond_both (eqb answer.number 0) (row_decoding size file r compression)
    (record { answer = answer; pixels = pixels; marks = marks }) (λ (d : Decoding). d.answer.number ≡ 0 → d.answer.marked ≡ nonzero d.marks) (λ _ _. refl)
    (λ no yes. absurd (eqb-false answer.number 0 no yes))
