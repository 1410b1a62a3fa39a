-- The listing of a file: a line for its canvas and one for each row, or the refusal's line alone; and what the call that lists it
-- answers and leaves in the table and the text.
use Rattle.std.specs.Prelude.{ℕ, zero, suc, ◌+◌, ◌≡◌, List, [], ◌∷◌, ◌++◌, Bool, true, false, cond, ◌&&◌, length, drop, leb, eqb}
use Rattle.xcf_numbers.specs.Limit.{file_limit, table_size}
use Rattle.xcf_numbers.specs.Refusal
use Rattle.xcf_read.specs.Answer.{refusal, Reading, reading}
use Rattle.xcf_decode.specs.Answer.{counting}
use Rattle.xcf_listing.specs.declared.ListAnswer.{ListAnswer}
use Rattle.xcf_line.specs.Line.{refused_line, canvas_line}
use Rattle.xcf_row_line.specs.RowLine.{row_line}

-- n rows from row k on; a pointer has `size` bytes
unfoldable pub row_lines : ℕ → List ℕ → List ℕ → ℕ → ℕ → ℕ → List ℕ
row_lines size file table compression k zero = []
row_lines size file table compression k (suc n) =
    row_line table k (counting size file table k compression).marked ++ row_lines size file table compression (k + 1) n

-- the marked tiles of n rows from row k on
unfoldable pub marked_tiles : ℕ → List ℕ → List ℕ → ℕ → ℕ → ℕ → ℕ
marked_tiles size file table compression k zero = 0
marked_tiles size file table compression k (suc n) =
    (counting size file table k compression).marked + marked_tiles size file table compression (k + 1) n

unfoldable pub lines_of : List ℕ → Reading → List ℕ
lines_of file x =
    cond (eqb x.answer.number 0)
    (canvas_line x.answer ++ row_lines x.answer.size file x.table x.answer.compression 0 x.answer.rows)
    (refused_line x.answer.number x.answer.place)

-- the most bytes of a file whose listing is printed; a longer one is refused as too long
abbrev pub list_limit : ℕ
list_limit = 32768

-- what the reader gives for a file of at most `limit` bytes; a longer one is refused as too long
unfoldable pub reading_within : ℕ → List ℕ → List ℕ → Reading
reading_within limit file table =
    cond (leb (length file) limit) (reading file table) (record { answer = refusal Refusal.too_long 0; table = table })

-- room for every listing
abbrev pub text_size : ℕ
text_size = 65536

-- a table of the right length, and room for every listing
unfoldable pub lent_fits : ℕ → ℕ → Bool
lent_fits table text = eqb table table_size && leb text_size text

-- an answer, and the content of the table and the text beside it
pub record Listing : Type 0 where
  pub answer : ListAnswer
  pub table : List ℕ
  pub text : List ℕ

-- beside a listing: the file's verdict, its marked tiles, and the listing's length
abbrev pub list_answer : ℕ → ℕ → ℕ → ℕ → ListAnswer
list_answer refused at marked size = record { number = 0; place = 0; refused = refused; at = at; marked = marked; length = size }

-- the verdict is the reader's
unfoldable pub answer_of : List ℕ → Reading → ListAnswer
answer_of file x =
    let marked = marked_tiles x.answer.size file x.table x.answer.compression 0 x.answer.rows in
    list_answer x.answer.number x.answer.place marked (length (lines_of file x))

-- the call's own refusal
abbrev pub not_listed : ListAnswer
not_listed = record { number = Refusal.wrong_buffer; place = 0; refused = 0; at = 0; marked = 0; length = 0 }

-- 11 leaves the table and the text as lent; else the table is the reader's, and the listing stands at the text's start
unfoldable pub listing : ℕ → List ℕ → List ℕ → List ℕ → Listing
listing limit file table text =
    let x = reading_within limit file table in
    let lines = lines_of file x in
    cond (lent_fits (length table) (length text))
    (record { answer = answer_of file x; table = x.table; text = lines ++ drop (length lines) text })
    (record { answer = not_listed; table = table; text = text })

-- the numbers that the call answers
abbrev pub lister_numbers : List ℕ
lister_numbers = Refusal.accepted ∷ Refusal.wrong_buffer ∷ []

-- the promise: the answer r, and the new content of table and text
pub record Lists (limit : ℕ) (file oldTable oldText : List ℕ) (r : ListAnswer) (newTable newText : List ℕ) : Type 0 where
  pub answer : r ≡ (listing limit file oldTable oldText).answer
  pub table : newTable ≡ (listing limit file oldTable oldText).table
  pub text : newText ≡ (listing limit file oldTable oldText).text

-- the same of a printed listing, whose answer is not handed out
abbrev pub Prints : List ℕ → List ℕ → List ℕ → List ℕ → List ℕ → Type 0
Prints file oldTable oldText newTable newText =
    Lists list_limit file oldTable oldText (listing list_limit file oldTable oldText).answer newTable newText

-- what the exported call says of a file beside what the reader says: with a table and a text that fit, and with others
pub record ListsAsTheReader (file oldTable oldText : List ℕ) : Type 0 where
  pub verdict : lent_fits (length oldTable) (length oldText) ≡ true →
      let a = (listing file_limit file oldTable oldText).answer in
      let r = (reading file oldTable).answer in
      (a.number ≡ 0) × (a.refused ≡ r.number) × (a.at ≡ r.place)
  pub table : lent_fits (length oldTable) (length oldText) ≡ true → (listing file_limit file oldTable oldText).table ≡ (reading file oldTable).table
  pub text : lent_fits (length oldTable) (length oldText) ≡ true →
      let lines = lines_of file (reading file oldTable) in (listing file_limit file oldTable oldText).text ≡ lines ++ drop (length lines) oldText
  pub unfit : lent_fits (length oldTable) (length oldText) ≡ false
      → listing file_limit file oldTable oldText ≡ record { answer = not_listed; table = oldTable; text = oldText }
