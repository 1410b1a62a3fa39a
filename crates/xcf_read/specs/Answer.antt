-- What the reader answers for a file and a lent table, and what it leaves in the table.
use Rattle.std.specs.Prelude.{ℕ, ◌≡◌, List, [], ◌∷◌, cond, length, leb, eqb}
use Rattle.xcf_numbers.specs.Limit.{file_limit, table_size}
use Rattle.xcf_numbers.specs.Refusal
use Rattle.xcf_walk.specs.Walk.{Outcome, got, refused, run}
use Rattle.xcf_table.specs.Table.{no_rows, table_of, row_at}
use Rattle.xcf_read.specs.declared.ReadAnswer.{ReadAnswer}
use Rattle.xcf_parse.specs.Image.{pointer_size}
use Rattle.xcf_read.specs.Image.{Image, image}
use Rattle.xcf_table.specs.declared.Row.{Row}

abbrev pub refusal : ℕ → ℕ → ReadAnswer
refusal n p = record { number = n; place = p; width = 0; height = 0; base = 0; version = 0; compression = 0; rows = 0; size = 0 }

-- an answer, and the table's content beside it
pub record Reading : Type 0 where
  pub answer : ReadAnswer
  pub table : List ℕ

-- what the walk's outcome says; after a refusal no row is left
abbrev pub reading_of : Outcome Image → Reading
reading_of (got x q) = record {
  answer = record {
    number = 0;
    place = 0;
    width = x.head.width;
    height = x.head.height;
    base = x.head.base;
    version = x.head.version;
    compression = x.head.compression;
    rows = x.rows.count;
    size = pointer_size x.head.version;
  };
  table = table_of x.rows;
}
reading_of (refused n p) = record { answer = refusal n p; table = table_of no_rows }

-- a table of the wrong length, then a file over the limit, the table as lent; then the walk from place 0
unfoldable pub reading : List ℕ → List ℕ → Reading
reading file table =
    cond (eqb (length table) table_size)
    (cond (leb (length file) file_limit) (reading_of (run image file 0))
    (record { answer = refusal Refusal.too_long 0; table = table }))
    (record { answer = refusal Refusal.wrong_buffer 0; table = table })

-- the numbers of the walk's refusals
abbrev pub refusals : List ℕ
refusals =
    Refusal.past_end ∷ Refusal.not_xcf ∷ Refusal.bad_version ∷ Refusal.bad_side ∷ Refusal.bad_base ∷ Refusal.bad_length ∷ Refusal.bad_content
    ∷ Refusal.too_many ∷ Refusal.no_pointer ∷ Refusal.disagrees ∷ Refusal.unended_string ∷ Refusal.bad_tile_pointer ∷ Refusal.floating ∷ Refusal.bad_precision ∷ []

-- the numbers of a verdict on a file, and all that the reader answers
abbrev pub verdict_numbers : List ℕ
verdict_numbers = Refusal.accepted ∷ Refusal.too_long ∷ refusals

abbrev pub reader_numbers : List ℕ
reader_numbers = Refusal.wrong_buffer ∷ verdict_numbers

-- the reader's promise for a file and a lent table: its answer r, and the table's new content
pub record Read (file old : List ℕ) (r : ReadAnswer) (new : List ℕ) : Type 0 where
  pub answer : r ≡ (reading file old).answer
  pub table : new ≡ (reading file old).table

-- row k of the table that the reader gave
abbrev pub row_of : Reading → ℕ → Row
row_of x k = row_at x.table k
