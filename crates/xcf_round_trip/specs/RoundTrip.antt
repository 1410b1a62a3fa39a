-- RULES, "Exactness", of the writer: what it writes reads back as the same rows, names and pixels, with no tile marked; only the
-- rows' places differ.
use Rattle.std.specs.Prelude.{ℕ, ◌≤◌, ◌<◌, ◌≡◌, List, true, length, get_or, take, replicate}
use Rattle.xcf_numbers.specs.Limit.{table_rows, table_size, word_limit}
use Rattle.xcf_store.specs.Pointer.{narrow}
use Rattle.xcf_store.specs.Word.{part}
use Rattle.xcf_table.specs.declared.Row.{Row}
use Rattle.xcf_table.specs.Name.{name_of}
use Rattle.xcf_table.specs.Table.{unused_row, row_at}
use Rattle.xcf_table.specs.declared.canvas.Canvas.{Canvas}
use Rattle.xcf_read.specs.Answer.{reading}
use Rattle.xcf_window.specs.Usable.{fits}
use Rattle.xcf_decode.specs.Answer.{decoding}
use Rattle.xcf_image.specs.Image.{version_of}
use Rattle.xcf_image.specs.Parts.{rows_from}
use Rattle.xcf_grid.specs.Drawn.{pixel_size}
use Rattle.xcf_body.specs.Rows.{pixels_size, used_rows}
use Rattle.xcf_write.specs.Answer.{writing}

-- a row with other numbers in fields 5, 7 and 8
abbrev pub with_places : Row → ℕ → ℕ → ℕ → Row
with_places r name list pointers = record {
  kind = r.kind;
  width = r.width;
  height = r.height;
  depth = r.depth;
  form = r.form;
  name = name;
  namelen = r.namelen;
  list = list;
  pointers = pointers;
  count = r.count;
  opacity = r.opacity;
  flags = r.flags;
  dx = r.dx;
  dy = r.dy;
  mode = r.mode;
  owner = r.owner;
}

-- of the row r that was lent and the row s that was read from the file f: the bytes of their names are the same
abbrev pub SameName : List ℕ → List ℕ → Row → Row → Type 0
SameName names f r s = name_of f s ≡ name_of names r

-- the file f reads back: the reader, lent any table of the right length, gives the canvas and the rows; each used row is the one lent
-- but for fields 5, 7 and 8, and the others are unused in both tables; each used row has its name; and the decoder, lent the file and that table, and buffers of the right length
-- whatever they held before, gives its pixels with no mark
pub record ReadsBack (c : Canvas) (table names pixels f lent : List ℕ) : Type 0 where
  pub answer : (reading f lent).answer
      ≡ record {
        number = 0;
        place = 0;
        width = c.width;
        height = c.height;
        base = c.base;
        version = version_of (rows_from table (used_rows table) 0);
        compression = 1;
        rows = used_rows table;
        size = narrow;
      }
  pub rows : (k : ℕ) → k < used_rows table →
      let s = row_at (reading f lent).table k in s ≡ with_places (row_at table k) s.name s.list s.pointers
  pub unused : (k : ℕ) → used_rows table ≤ k → k < table_rows
      → (row_at (reading f lent).table k ≡ unused_row) × (row_at table k ≡ unused_row)
  pub named : (k : ℕ) → k < used_rows table → SameName names f (row_at table k) (row_at (reading f lent).table k)
  pub decoded : (k : ℕ) → k < used_rows table → (buffer marks : List ℕ)
      → fits (row_at table k) (length buffer) (length marks) ≡ true
      → decoding narrow f (reading f lent).table k 1 buffer marks
      ≡ record {
        answer = record { number = 0; place = 0; marked = 0 };
        pixels = part pixels (pixels_size table k 0) (pixel_size (row_at table k));
        marks = replicate (row_at table k).count 0;
      }

-- every input that the writer accepts; the numbers of a lent table have 32 bits
abbrev pub RoundTrip : Type 0
RoundTrip =
    (c : Canvas) (table names pixels output lent : List ℕ) → ((i : ℕ) → get_or table i 0 < word_limit) → length lent ≡ table_size →
    let w = writing c table names pixels output in
    w.answer.number ≡ 0 → ReadsBack c table names pixels (take w.answer.length w.output) lent
