-- What a file's version says: how many bytes a pointer has, whether there is a precision word, how long a property of type 5 may be.
-- And what becomes of a pointer that leads past the file's end.
use Rattle.std.specs.Prelude.{ℕ, suc, ◌+◌, ◌≤◌, ◌<◌, ◌≡◌, List, ◌∷◌, ◌⊎◌, true, length}
use Rattle.xcf_numbers.specs.Listed.{listed}
use Rattle.xcf_numbers.specs.Precision
use Rattle.xcf_numbers.specs.PropertyType
use Rattle.xcf_numbers.specs.Refusal
use Rattle.xcf_numbers.specs.Version
use Rattle.xcf_store.specs.Pointer.{narrow, wide, number_at}
use Rattle.xcf_property.specs.declared.Properties.{Properties}
use Rattle.xcf_walk.specs.Walk.{Walk, Outcome, Turn, got, refused, run, done, ◌>>=◌, ◌>>◌}
use Rattle.xcf_walk.specs.Pointers.{tiles}
use Rattle.xcf_table.specs.Table.{Rows}
use Rattle.xcf_table.specs.declared.canvas.Canvas.{Canvas}
use Rattle.xcf_parse.specs.declared.drawable.Fields.{Fields}
use Rattle.xcf_parse.specs.declared.drawable.Layer.{Layer}
use Rattle.xcf_parse.specs.declared.drawable.Owner.{Owner}
use Rattle.xcf_parse.specs.Header.{versions, header}
use Rattle.xcf_parse.specs.Hierarchy.{agrees, pointer, rest, hierarchy}
use Rattle.xcf_parse.specs.Drawable.{side, layer, channel}
use Rattle.xcf_parse.specs.Image.{base_type, head}
use Rattle.xcf_read.specs.Drawable.{channel_rows, mask_rows, layer_rows, canvas_channel_rows}
use Rattle.xcf_read.specs.Image.{drawables}
use Rattle.xcf_read.specs.Answer.{Reading}

-- of what the reader gave: an accepted file has a version that is read, and its pointers have eight bytes in version 11 and four in the
-- others; a refusal says 0
pub record Sized (x : Reading) : Type 0 where
  pub known : x.answer.number ≡ 0 → listed versions x.answer.version ≡ true
  pub eight : x.answer.number ≡ 0 → x.answer.version ≡ Version.wide → x.answer.size ≡ wide
  pub four : x.answer.number ≡ 0 → (x.answer.version ≡ Version.wide → ⊥) → x.answer.size ≡ narrow
  pub refused : (x.answer.number ≡ 0 → ⊥) → x.answer.size ≡ 0

-- the first bytes, the sides and the base type: the version, where all are taken
abbrev pub up_to_base : Walk ℕ
up_to_base = do
  version ← header
  side
  side
  base_type version
  done version

-- where these are taken and the version is 11, the precision word stands at 26; missing it is a 1, and unless it is 150 a 25, before
-- anything of the list behind it is read
pub record PrecisionRule (file : List ℕ) (q : ℕ) : Type 0 where
  pub place : q ≡ 26
  pub missing : length file < 30 → run head file 0 ≡ refused Refusal.past_end 26
  pub other : 30 ≤ length file → (number_at 4 file 26 ≡ Precision.eight_bit_gamma → ⊥) → run head file 0 ≡ refused Refusal.bad_precision 26

-- a property of type 5 may have four bytes, and in version 11 eight
abbrev pub FloatingLength : ℕ → ℕ → Type 0
FloatingLength version n = (n ≡ narrow) ⊎ ((version ≡ Version.wide) × (n ≡ wide))

-- a property of type 5 in a layer's list, at a place, of n bytes as its length word says: another length is a 6 at that word, a payload
-- that is not there a 1, and then it is a 16
pub record FloatingRule (file : List ℕ) (version n at : ℕ) (o : Outcome (Turn Properties Properties)) : Type 0 where
  pub other : (FloatingLength version n → ⊥) → o ≡ refused Refusal.bad_length (at + 4)
  pub missing : FloatingLength version n → length file < at + 8 + n → o ≡ refused Refusal.past_end (at + 8)
  pub floats : FloatingLength version n → at + 8 + n ≤ length file → o ≡ refused Refusal.floating at

-- such a property's type and length words stand there
pub record FloatingAt (file : List ℕ) (n at : ℕ) : Type 0 where
  pub inside : at + 8 ≤ length file
  pub kind : number_at 4 file at ≡ PropertyType.floating
  pub said : number_at 4 file (at + 4) ≡ n

-- a hierarchy up to the pointer of its first level
abbrev pub up_to_level : ℕ → ℕ → ℕ → ℕ → Walk ℕ
up_to_level size width height depth = do
  agrees width
  agrees height
  agrees depth
  pointer size

-- a pointer p of whichever size that leads past the file's end, or to its last three bytes, is a 1 at its whole value: that of the next
-- layer or channel; of a hierarchy, once the fields of its mask or channel, or of its layer, are read; of a layer's mask; of a first
-- level, once the further pointers are read
pub record PastEnd (file : List ℕ) (p : ℕ) : Type 0 where
  pub next_layer : (size : ℕ) (c : Canvas) (ps : List ℕ) (rows : Rows) (at : ℕ)
      → run (drawables (layer_rows size c) (p ∷ ps) rows) file at ≡ refused Refusal.past_end p
  pub next_channel : (size : ℕ) (c : Canvas) (ps : List ℕ) (rows : Rows) (at : ℕ)
      → run (drawables (canvas_channel_rows size c) (p ∷ ps) rows) file at ≡ refused Refusal.past_end p
  pub channel_hierarchy : (size : ℕ) (o : Owner) (rows : Rows) (at : ℕ) (x : Fields) (q : ℕ) → got x q ≡ run (channel size o) file at
      → x.hierarchy ≡ p → run (channel_rows size o rows) file at ≡ refused Refusal.past_end p
  pub layer_hierarchy : (size : ℕ) (c : Canvas) (rows : Rows) (at : ℕ) (x : Layer) (q : ℕ) → got x q ≡ run (layer size c.base) file at
      → x.fields.hierarchy ≡ p → run (layer_rows size c rows) file at ≡ refused Refusal.past_end p
  pub mask : (size : ℕ) (x : Layer) (k : ℕ) (rows : Rows) (at : ℕ) → (x.mask ≡ 0 → ⊥) → x.mask ≡ p
      → run (mask_rows size x k rows) file at ≡ refused Refusal.past_end p
  pub level : (size width height depth at q r : ℕ) → got p q ≡ run (up_to_level size width height depth) file at
      → got tt r ≡ run (rest size) file q → run (hierarchy size width height depth) file at ≡ refused Refusal.past_end p

-- a tile pointer that is not below the file's length is a 13 at its own place
abbrev pub TilePastEnd : Type 0
TilePastEnd =
    (size n before : ℕ) (file : List ℕ) (at : ℕ) → at + size ≤ length file → length file ≤ number_at size file at
    → run (tiles size (suc n) before) file at ≡ refused Refusal.bad_tile_pointer at
