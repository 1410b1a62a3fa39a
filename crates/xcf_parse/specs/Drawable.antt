-- The structure of a layer, and of a mask or channel. A pointer has `size` bytes.
use Rattle.std.specs.Prelude.{ℕ, eqb}
use Rattle.xcf_numbers.specs.Refusal
use Rattle.xcf_walk.specs.Walk.{Walk, done, here, must, ◌>>=◌, ◌>>◌}
use Rattle.xcf_walk.specs.Fields.{number, word, string}
use Rattle.xcf_property.specs.Property.{layer_list}
use Rattle.xcf_walk.specs.Property.{properties}
use Rattle.xcf_parse.specs.declared.drawable.Fields.{Fields}
use Rattle.xcf_parse.specs.declared.drawable.Layer.{Layer}
use Rattle.xcf_parse.specs.declared.drawable.Owner.{Owner}
use Rattle.xcf_parse.specs.Hierarchy.{pointer}
use Rattle.xcf_table.specs.Canvas.{side_ok, type_ok}

unfoldable pub side : Walk ℕ
side = do
  at ← here
  n ← word
  must (side_ok n) Refusal.bad_side at
  done n

-- a side that has to be its owner's
unfoldable pub side_like : ℕ → Walk (Unit {0})
side_like v = do
  at ← here
  n ← side
  must (eqb n v) Refusal.disagrees at

unfoldable pub layer_type : ℕ → Walk ℕ
layer_type base = do
  at ← here
  t ← word
  must (type_ok base t) Refusal.disagrees at
  done t

-- string, properties and hierarchy pointer, as every drawable has them
unfoldable pub fields : ℕ → ℕ → Walk Fields
fields size kind = do
  name ← string
  list ← here
  p ← properties size kind 0
  h ← pointer size
  done (record { name = name; list = list; properties = p; hierarchy = h })

unfoldable pub layer : ℕ → ℕ → Walk Layer
layer size base = do
  width ← side
  height ← side
  form ← layer_type base
  x ← fields size layer_list
  mask ← number size
  done (record { width = width; height = height; form = form; fields = x; mask = mask })

-- a mask or channel
unfoldable pub channel : ℕ → Owner → Walk Fields
channel size o = do
  side_like o.width
  side_like o.height
  fields size o.kind
