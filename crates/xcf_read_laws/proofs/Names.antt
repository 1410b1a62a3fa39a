-- What acceptance says of names: the name of a layer (`ensures_layer_name`), and of a mask or channel (`ensures_channel_name`), is said
-- to be well-formed exactly as its bytes are, and a row's flags tell it (`layer_told`, `channel_told`).
-- Assumes nothing.
use Prim.Native.Nat.{ℕ}
use mathlib.Core.Path.{◌≡◌, ◌∙◌}
use mathlib.Core.List.{List}
use Rattle.xcf_property.specs.Property.{layer_list}
use Rattle.xcf_walk.specs.Walk.{here}
use Rattle.xcf_store.specs.Word.{part}
use Rattle.xcf_utf8.specs.Utf8.{well_formed}
use Rattle.xcf_walk.specs.declared.cursor.Name.{Name}
use Rattle.xcf_walk.specs.Fields.{number, string}
use Rattle.xcf_walk.specs.Property.{properties}
use Rattle.xcf_walk.proofs.Within.{got_string}
use Rattle.xcf_walk_laws.proofs.Ensures.{Ensures, ensures_done, ensures_bind, ensures_next}
use Rattle.xcf_parse.specs.declared.drawable.Fields.{Fields}
use Rattle.xcf_parse.specs.declared.drawable.Layer.{Layer}
use Rattle.xcf_parse.specs.declared.drawable.Owner.{Owner}
use Rattle.xcf_parse.specs.Hierarchy.{pointer}
use Rattle.xcf_parse.specs.Drawable.{side, side_like, layer_type, fields, layer, channel}
use Rattle.xcf_row.specs.Row.{layer_row, channel_row}
use Rattle.xcf_table.specs.Name.{Told}
use Rattle.xcf_read_laws.proofs.Flags.{layer_bits, channel_bits}

-- a string's name is said to be well-formed as its bytes in the file f are
abbrev pub SaysUtf8 : List ℕ → Name → Type 0
SaysUtf8 f name = name.utf8 ≡ well_formed (part f name.place name.length)

module _ (f : List ℕ) where
  pub layer_told : (x : Layer) (tiles k : ℕ) → SaysUtf8 f x.fields.name → Told f (layer_row x tiles k)
  unfolding layer_row
  layer_told x tiles k says = (layer_bits x.fields.properties x.fields.name x.mask).name ∙ rw says

  pub channel_told : (o : Owner) (x : Fields) (tiles : ℕ) → SaysUtf8 f x.name → Told f (channel_row o x tiles)
  unfolding channel_row
  channel_told o x tiles says = (channel_bits x.properties x.name).name ∙ rw says

module _ {f : List ℕ} {S : ℕ → Type 0} where
  ensures_string : Ensures f S (SaysUtf8 f) string
  ensures_string = record { holds = λ at e s. (got_string f at e).2 }

  ensures_fields_name : (size list : ℕ) → Ensures f S (λ x. SaysUtf8 f x.name) (fields size list)
  unfolding fields
  ensures_fields_name size list =
      ensures_bind _ ensures_string λ name says. ensures_next here _ λ place. ensures_next (properties size list 0) _ λ p.
      ensures_next (pointer size) _ λ to. ensures_done says

  pub ensures_layer_name : (size base : ℕ) → Ensures f S (λ x. SaysUtf8 f x.fields.name) (layer size base)
  unfolding layer
  ensures_layer_name size base =
      ensures_next side _ λ width. ensures_next side _ λ height. ensures_next (layer_type base) _ λ form.
      ensures_bind _ (ensures_fields_name size layer_list) λ x says. ensures_next (number size) _ λ mask. ensures_done says

  pub ensures_channel_name : (size : ℕ) (o : Owner) → Ensures f S (λ x. SaysUtf8 f x.name) (channel size o)
  unfolding channel
  ensures_channel_name size o =
      ensures_next (side_like _) _ λ _. ensures_next (side_like _) _ λ _. ensures_fields_name size o.kind
