-- Parts of private contracts.
use Rattle.std.specs.Prelude.{ℕ, ◌*◌, List, Result, Ok, Err}
use Rattle.xcf_numbers.specs.declared.reason.Refusal.{Refusal}
use Rattle.xcf_numbers.specs.Reason.{number_of}
use Rattle.xcf_walk.specs.Walk.{Walk}
use Rattle.xcf_table.specs.Table.{Rows}
use Rattle.xcf_table.specs.declared.canvas.Canvas.{Canvas}
use Rattle.xcf_parse.specs.declared.image.Head.{Head}
use Rattle.xcf_parse.specs.Image.{pointer_size}
use Rattle.xcf_read.specs.declared.ReadAnswer.{ReadAnswer}
use Rattle.xcf_read.specs.declared.drawable.Kind.{Kind}
use Rattle.xcf_read.specs.declared.drawable.Kind.TheVariants as kind
use Rattle.xcf_read.specs.declared.image.Contents.{Contents}
use Rattle.xcf_read.specs.Drawable.{layer_rows, canvas_channel_rows}
use Rattle.xcf_read.specs.Answer.{refusal, Read}

-- the drawable of a kind: a layer, with its mask, or a channel
abbrev pub drawable : ℕ → Kind → Canvas → Rows → Walk Rows
drawable size kind.Layer c = layer_rows size c
drawable size kind.Channel c = canvas_channel_rows size c

-- so many rows at most for n drawables of a kind: a layer may have a mask
abbrev pub rows_most : Kind → ℕ → ℕ
rows_most kind.Layer n = 2 * n
rows_most kind.Channel n = n

-- the answer for a head and so many rows
abbrev pub accepted : Head → ℕ → ReadAnswer
accepted h rows = record {
  number = 0;
  place = 0;
  width = h.width;
  height = h.height;
  base = h.base;
  version = h.version;
  compression = h.compression;
  rows = rows;
  size = pointer_size h.version;
}

-- what is read, and the table's new content, are what the reader promises
abbrev pub answer_of : Result Contents Refusal → ReadAnswer
answer_of (Ok x) = accepted x.head x.rows
answer_of (Err e) = refusal (number_of e.reason) e.place

abbrev pub Reads : List ℕ → List ℕ → Result Contents Refusal → List ℕ → Type 0
Reads file old r new = Read file old (answer_of r) new
