-- What the decoder of a drawable answers, and what it leaves in the buffers lent for the pixels and the marks. A pointer has `size`
-- bytes.
use Rattle.std.specs.Prelude.{ℕ, ◌+◌, ◌≡◌, List, [], ◌∷◌, Bool, true, cond, length, eqb, Option, Some, None}
use Rattle.xcf_numbers.specs.Refusal
use Rattle.xcf_walk.specs.Walk.{Outcome, got, refused, run}
use Rattle.xcf_table.specs.declared.Row.{Row}
use Rattle.xcf_table.specs.Table.{row_at}
use Rattle.xcf_walk.specs.Pointers.{tiles}
use Rattle.xcf_decode.specs.declared.DecodeAnswer.{DecodeAnswer}
use Rattle.xcf_decode.specs.declared.check.Lent.{Lent}
use Rattle.xcf_window.specs.Window.{tile}
use Rattle.xcf_grid.specs.Pixels.{tabulate, pixels_of}
use Rattle.xcf_window.specs.Usable.{fits, row_refusal}

abbrev pub refusal : ℕ → ℕ → DecodeAnswer
refusal n p = record { number = n; place = p; marked = 0 }

-- the walk over the tile pointers is refused at the lowest bad one
abbrev pub pointers_refusal : Outcome (Unit {0}) → DecodeAnswer
pointers_refusal (got u q) = refusal Refusal.accepted 0
pointers_refusal (refused n p) = refusal n p

-- the lent pixels and marks fit a row; where none are lent, nothing has to
abbrev pub lent_fits : Row → Option Lent → Bool
lent_fits r None = true
lent_fits r (Some lent) = fits r lent.pixels lent.marks

-- then 11 where the lent pixels or marks do not fit, then 13
unfoldable pub drawable_refusal : ℕ → List ℕ → ℕ → Row → ℕ → Bool → DecodeAnswer
drawable_refusal size file tableLength r compression fit =
    let n = row_refusal size (length file) tableLength r compression in
    cond (eqb n 0) (cond fit (pointers_refusal (run (tiles size r.count 0) file r.pointers)) (refusal Refusal.wrong_buffer 0)) (refusal n 0)

-- the marks of a row's tiles, and how many of some marks are not zero
unfoldable pub marks_of : ℕ → List ℕ → Row → ℕ → List ℕ
marks_of size file r compression = tabulate r.count 0 (λ t. (tile size file r compression t).mark)

unfoldable pub nonzero : List ℕ → ℕ
nonzero [] = 0
nonzero (m ∷ ms) = cond (eqb m 0) (nonzero ms) (nonzero ms + 1)

-- an answer that says how many marks are not zero
abbrev pub counted : List ℕ → DecodeAnswer
counted marks = record { number = 0; place = 0; marked = nonzero marks }

-- an answer, and the content of both buffers beside it
pub record Decoding : Type 0 where
  pub answer : DecodeAnswer
  pub pixels : List ℕ
  pub marks : List ℕ

unfoldable pub row_decoding : ℕ → List ℕ → Row → ℕ → Decoding
row_decoding size file r compression = record {
  answer = counted (marks_of size file r compression);
  pixels = pixels_of (λ t. (tile size file r compression t).pixels) r.width r.height r.depth;
  marks = marks_of size file r compression;
}

-- a refusal leaves pixels and marks as lent
unfoldable pub decoding : ℕ → List ℕ → List ℕ → ℕ → ℕ → List ℕ → List ℕ → Decoding
decoding size file table k compression pixels marks =
    let r = row_at table k in
    let answer = drawable_refusal size file (length table) r compression (fits r (length pixels) (length marks)) in
    cond (eqb answer.number 0) (row_decoding size file r compression) (record { answer = answer; pixels = pixels; marks = marks })

-- the numbers that it answers
abbrev pub decoder_numbers : List ℕ
decoder_numbers = Refusal.accepted ∷ Refusal.wrong_buffer ∷ Refusal.bad_tile_pointer ∷ Refusal.unusable ∷ Refusal.too_long ∷ []

-- the same answer with nothing lent for pixels and marks
unfoldable pub counting : ℕ → List ℕ → List ℕ → ℕ → ℕ → DecodeAnswer
counting size file table k compression =
    let r = row_at table k in
    let answer = drawable_refusal size file (length table) r compression true in
    cond (eqb answer.number 0) (counted (marks_of size file r compression)) answer

-- the decoder's promise: its answer r, and the new content of the buffers
pub record DrawableDecoded (size : ℕ) (file table : List ℕ) (k compression : ℕ) (oldPixels oldMarks : List ℕ) (r : DecodeAnswer) (newPixels newMarks : List ℕ) : Type 0 where
  pub answer : r ≡ (decoding size file table k compression oldPixels oldMarks).answer
  pub pixels : newPixels ≡ (decoding size file table k compression oldPixels oldMarks).pixels
  pub marks : newMarks ≡ (decoding size file table k compression oldPixels oldMarks).marks
