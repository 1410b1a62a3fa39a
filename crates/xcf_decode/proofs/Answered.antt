-- What the decoder answers, by the drawable's refusal: the refusal, or else the row's decoding (`decodes_refused`, `decodes_row`);
-- and the same of the count, to which nothing is lent (`counts_refused`, `counts_row`).
-- Assumes nothing.
use Prim.Native.Nat.{ℕ}
use mathlib.Core.Path.{◌≡◌}
use mathlib.Core.List.{List}
use mathlib.Core.Bool.{true}
use borrow.Author.Tests.{eq-eqb, ne_eqb}
use lib.ListN.{length}
use Rattle.xcf_table.specs.declared.Row.{Row}
use Rattle.xcf_table.specs.Table.{row_at}
use Rattle.xcf_window.specs.Usable.{fits}
use Rattle.xcf_decode.specs.declared.DecodeAnswer.{DecodeAnswer}
use Rattle.xcf_decode.specs.Answer.{drawable_refusal, nonzero, marks_of, Decoding, row_decoding, decoding, counting, DrawableDecoded}

-- the decoder, of a table whose row k is r
module _ {size : ℕ} {f table : List ℕ} {k compression : ℕ} {pixels marks : List ℕ} {r : Row} {a : DecodeAnswer} (row : r ≡ row_at table k)
    (asked : a ≡ drawable_refusal size f (length table) r compression (fits r (length pixels) (length marks))) where
  decodes_is : {d : Decoding} → decoding size f table k compression pixels marks ≡ d → DrawableDecoded size f table k compression pixels marks d.answer d.pixels d.marks
  decodes_is e = record { answer = rw e; pixels = rw e; marks = rw e }

  pub decodes_refused : (a.number ≡ 0 → ⊥) → DrawableDecoded size f table k compression pixels marks a pixels marks
  unfolding decoding
  decodes_refused bad = decodes_is (rw (← row, ← asked, ne_eqb a.number 0 bad))

  pub decodes_row : a.number ≡ 0 → {marked : ℕ} {new newMarks : List ℕ}
      → marked ≡ (row_decoding size f r compression).answer.marked
      → new ≡ (row_decoding size f r compression).pixels
      → newMarks ≡ (row_decoding size f r compression).marks
      → DrawableDecoded size f table k compression pixels marks (record { number = 0; place = 0; marked = marked }) new newMarks
  unfolding decoding row_decoding
  decodes_row z m p q = rw (m, p, q) (decodes_is (rw (← row, ← asked, eq-eqb _ 0 z)))

-- the count
module _ (size : ℕ) (f table : List ℕ) (k compression : ℕ) {r : Row} {a : DecodeAnswer} (row : r ≡ row_at table k)
    (asked : a ≡ drawable_refusal size f (length table) r compression true) where
  pub counts_refused : (a.number ≡ 0 → ⊥) → a ≡ counting size f table k compression
  unfolding counting
  counts_refused bad = rw (← row, ← asked, ne_eqb a.number 0 bad)

  pub counts_row : a.number ≡ 0 → {marked : ℕ} → marked ≡ nonzero (marks_of size f r compression)
      → record { number = 0; place = 0; marked = marked } ≡ counting size f table k compression
  unfolding counting
  counts_row z m = rw (m, ← row, ← asked, eq-eqb _ 0 z)
