-- The numbers of the decoder's refusals: a walk over tile pointers that lie in the file is refused with 13 (`pointers_13`), so that
-- the decoder answers 0, 11, 13, 14 or 15 (`decoder_listed`), and so does the count without buffers (`counter_listed`). A size of pointers
-- that there is not is a 14 (`sizes_unusable`).
-- Assumes nothing.
use Prim.Native.Nat.{ℕ, zero, suc, ◌+◌, ◌*◌, ◌≤◌}
use mathlib.Core.Path.{◌≡◌, refl, sym, ◌∙◌}
use mathlib.Core.List.{List}
use mathlib.Core.Bool.{Bool, true, false, cond, and-eq-true_iff}
use native.Mathlib.Nat.{mul-le-mul_left}
use native.Mathlib.Omega.{arith}
use borrow.Author.Tests.{le-leb, leb-true, eq-eqb, ne_eqb}
use lib.Dec.{leb, eqb}
use lib.ListN.{length}
use Rattle.std.proofs.lemmas.Bool.{cond_both}
use Rattle.xcf_numbers.specs.Limit.{file_limit, table_size}
use Rattle.xcf_numbers.specs.Refusal
use Rattle.xcf_numbers.specs.Listed.{listed}
use Rattle.xcf_walk.specs.Walk.{Outcome, got, refused, Walk, run, bytes, here, file_length, must, ◌>>=◌}
use Rattle.xcf_store.specs.Word.{part, big_endian}
use Rattle.xcf_walk.specs.Fields.{number}
use Rattle.xcf_walk.proofs.Walks.{got_not_refused}
use Rattle.xcf_table.specs.declared.Row.{Row}
use Rattle.xcf_table.specs.Table.{row_at}
use Rattle.xcf_grid.specs.Grid.{tile_count}
use Rattle.xcf_walk.specs.Pointers.{tiles}
use Rattle.xcf_store.specs.Pointer.{narrow, wide, pointer_size_ok}
use Rattle.xcf_decode.specs.declared.DecodeAnswer.{DecodeAnswer}
use Rattle.xcf_window.specs.Usable.{in_range, in_file, decodable_row, fits, row_refusal}
use Rattle.xcf_decode.specs.Answer.{refusal, pointers_refusal, drawable_refusal, decoder_numbers, marks_of, counted, Decoding, row_decoding, decoding, counting}

-- a number that lies in the file is read
number_there : (size : ℕ) (f : List ℕ) (at : ℕ) {A : Type 0} (k : ℕ → Walk A) → at + size ≤ length f
    → run (number size >>= k) f at ≡ run (k (big_endian 0 (part f at size))) f (at + size)
unfolding run number bytes
number_there size f at k fits = rw (le-leb _ _ fits)

module _ (size : ℕ) (f : List ℕ) where
  tested_13 : (t : Bool) (at : ℕ) {A : Type 0} (w : Walk A) (q : ℕ) {n p : ℕ} → (refused n p ≡ run w f q → n ≡ Refusal.bad_tile_pointer)
      → refused n p ≡ run (must t Refusal.bad_tile_pointer at >>= λ _. w) f q → n ≡ Refusal.bad_tile_pointer
  unfolding run must
  tested_13 true at w q rest e = rest e
  tested_13 false at w q rest e = cc

  closed_13 : (t : Bool) (at q : ℕ) {n p : ℕ} → refused n p ≡ run (must t Refusal.bad_tile_pointer at) f q → n ≡ Refusal.bad_tile_pointer
  unfolding run must
  closed_13 true at q e = absurd (got_not_refused (sym e))
  closed_13 false at q e = cc

  pub pointers_13 : (count before at : ℕ) {n p : ℕ} → at + size * (count + 1) ≤ length f → refused n p ≡ run (tiles size count before) f at → n ≡ Refusal.bad_tile_pointer
  unfolding tiles run here file_length
  pointers_13 zero before at inside e = closed_13 _ at (at + size) (e ∙ number_there size f at _ (omega (arith, inside)))
  pointers_13 (suc count) before at inside e =
      let room : size * (0 + 1) ≤ size * (suc count + 1) = mul-le-mul_left size (omega arith) in
      tested_13 _ at (tiles size count (big_endian 0 (part f at size))) (at + size) (pointers_13 count _ (at + size) (omega (arith, inside)))
      (e ∙ number_there size f at _ (omega (arith, inside, room)))

-- an answer with one of the decoder's numbers
abbrev Listed : DecodeAnswer → Type 0
Listed a = listed decoder_numbers a.number ≡ true

module _ (size : ℕ) (f : List ℕ) (n : ℕ) (r : Row) (compression : ℕ) where
  pointers_inside : decodable_row size (length f) r compression ≡ true → r.pointers + size * (r.count + 1) ≤ length f
  unfolding decodable_row in_file
  pointers_inside e =
      let row = (and-eq-true_iff (in_range r) _).0 ((and-eq-true_iff (pointer_size_ok size) _).0 e).1 in
      let file = (and-eq-true_iff (in_file size (length f) r) _).0 row.1 in
      leb-true _ _ ((and-eq-true_iff (eqb r.count (tile_count r.width r.height)) _).0 file.0).1

  outcome_listed : (x : Outcome (Unit {0})) → ((m p : ℕ) → refused m p ≡ x → m ≡ Refusal.bad_tile_pointer) → Listed (pointers_refusal x)
  unfolding listed
  outcome_listed (got u q) h = refl
  outcome_listed (refused m p) h = rw (h m p refl)

  pointers_listed : decodable_row size (length f) r compression ≡ true → Listed (pointers_refusal (run (tiles size r.count 0) f r.pointers))
  pointers_listed e = outcome_listed _ (λ m p x. pointers_13 size f r.count 0 r.pointers (pointers_inside e) x)

  drawable_listed : (fit : Bool) → Listed (drawable_refusal size f n r compression fit)
  unfolding drawable_refusal row_refusal listed
  drawable_listed fit = go (eqb n table_size) (leb (length f) file_limit) (decodable_row size (length f) r compression) refl fit
    where
      refusal_at : Bool → Bool → Bool → ℕ
      refusal_at a b c = cond a (cond b (cond c 0 14) 15) 11

      go : (a b c : Bool) → decodable_row size (length f) r compression ≡ c → (fit : Bool)
          → Listed (cond (eqb (refusal_at a b c) 0) (cond fit (pointers_refusal (run (tiles size r.count 0) f r.pointers)) (refusal Refusal.wrong_buffer 0)) (refusal (refusal_at a b c) 0))
      go true true true e true = pointers_listed e
      go true true true e false = refl
      go true true false e fit = refl
      go true false c e fit = refl
      go false b c e fit = refl

pub decoder_listed : (size : ℕ) (file table : List ℕ) (k compression : ℕ) (pixels marks : List ℕ) → listed decoder_numbers (decoding size file table k compression pixels marks).answer.number ≡ true
unfolding decoding row_decoding listed
decoder_listed size file table k compression pixels marks =
    let r = row_at table k in
    let answer = drawable_refusal size file (length table) r compression (fits r (length pixels) (length marks)) in
    cond_both (eqb answer.number 0) (row_decoding size file r compression) (record { answer = answer; pixels = pixels; marks = marks })
    (λ (d : Decoding). Listed d.answer) (λ _. refl)
    (λ _. drawable_listed size file (length table) r compression (fits r (length pixels) (length marks)))

pub counter_listed : (size : ℕ) (file table : List ℕ) (k compression : ℕ) → listed decoder_numbers (counting size file table k compression).number ≡ true
unfolding counting listed
counter_listed size file table k compression =
    let r = row_at table k in
    let answer = drawable_refusal size file (length table) r compression true in
    cond_both (eqb answer.number 0) (counted (marks_of size file r compression)) answer Listed (λ _. refl)
    (λ _. drawable_listed size file (length table) r compression true)

-- a size of pointers that is neither 4 nor 8
pub sizes_unusable : (size : ℕ) (file table : List ℕ) (k compression : ℕ) (pixels marks : List ℕ) → (size ≡ narrow → ⊥) → (size ≡ wide → ⊥)
    → length table ≡ table_size → length file ≤ file_limit
    → (decoding size file table k compression pixels marks ≡ record { answer = refusal Refusal.unusable 0; pixels = pixels; marks = marks })
    × (counting size file table k compression ≡ refusal Refusal.unusable 0)
unfolding decoding counting drawable_refusal row_refusal decodable_row pointer_size_ok
sizes_unusable size file table k compression pixels marks narrower wider fit short = (
  rw (eq-eqb _ _ fit, le-leb _ _ short, ne_eqb size narrow narrower, ne_eqb size wide wider),
  rw (eq-eqb _ _ fit, le-leb _ _ short, ne_eqb size narrow narrower, ne_eqb size wide wider),
)
