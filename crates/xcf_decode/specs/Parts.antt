-- The contracts of a drawable's decoding, by name.
use Rattle.std.specs.Prelude.{ℕ, ◌≡◌, List, Bool, true, Result, Ok, Err}
use Rattle.xcf_numbers.specs.declared.reason.Refusal.{Refusal}
use Rattle.xcf_numbers.specs.Reason.{number_of}
use Rattle.xcf_store.specs.Width.{bytes_of}
use Rattle.xcf_table.specs.declared.Row.{Row}
use Rattle.xcf_tile.specs.Compression as compression
use Rattle.xcf_window.specs.declared.drawable.Drawable.{Drawable}
use Rattle.xcf_window.specs.Parts.{DrawableOf, IsReady}
use Rattle.xcf_decode.specs.declared.DecodeAnswer.{DecodeAnswer}
use Rattle.xcf_decode.specs.Answer.{refusal, nonzero, marks_of, Decoding, row_decoding}

-- what is answered of a refusal
abbrev pub AnswerOf : Refusal → DecodeAnswer → Type 0
AnswerOf e r = r ≡ refusal (number_of e.reason) e.place

-- and of what is accepted, before anything is counted
abbrev pub verdict_answer : {A : Type 0} → Result A Refusal → DecodeAnswer
verdict_answer (Ok a) = refusal 0 0
verdict_answer (Err e) = refusal (number_of e.reason) e.place

-- the drawable of a row, ready to be decoded, with buffers that fit
pub record ReadyOf (size : ℕ) (f : List ℕ) (r : Row) (n : ℕ) (fit : Bool) (d : Drawable) : Type 0 where
  pub drawable : DrawableOf size f r n d
  pub ready : IsReady d
  pub fits : fit ≡ true

abbrev pub marked_of : Drawable → ℕ
marked_of d = nonzero (marks_of (bytes_of d.width) d.file.now d.row (compression.number_of d.compression))

abbrev pub decoding_of : Drawable → Decoding
decoding_of d = row_decoding (bytes_of d.width) d.file.now d.row (compression.number_of d.compression)
