-- What a property's length and content may be, by its type, and what a list of properties says.
use Rattle.std.specs.Prelude.{ℕ, ◌+◌, ◌*◌, List, [], ◌∷◌, Bool, true, cond, ◌&&◌, ◌||◌, length, get_or, leb, ltb, eqb}
use Rattle.xcf_numbers.specs.Limit.{full_opacity}
use Rattle.xcf_numbers.specs.PropertyType
use Rattle.xcf_numbers.specs.Kind
use Rattle.xcf_property.specs.declared.Content.{Content}
use Rattle.xcf_property.specs.declared.Properties.{Properties}
use Rattle.xcf_store.specs.Word.{word_of}

-- whose list it is: the image's, or a drawable's by its row's kind
abbrev pub image_list : ℕ
image_list = 0

abbrev pub layer_list : ℕ
layer_list = Kind.layer

-- in the list below: a type that is skipped by its length
abbrev pub any : ℕ
any = 4294967295

-- the payload lengths of types 0 to 29
abbrev pub lengths : List ℕ
lengths =
    0 ∷ any ∷ 0 ∷ 0 ∷ 0 ∷ 4 ∷ 4 ∷ 4 ∷ 4 ∷ 4 ∷ 4 ∷ 4 ∷ 4 ∷ 4 ∷ 4 ∷ 8 ∷ 3 ∷ 1 ∷ any ∷ 8
    ∷ 4 ∷ any ∷ 4 ∷ any ∷ any ∷ any ∷ any ∷ any ∷ any ∷ 0 ∷ []

-- in a file whose pointers have `size` bytes; type 5 holds a pointer, and may be as long as one
unfoldable pub length_ok : ℕ → ℕ → ℕ → Bool
length_ok size kind n =
    cond (eqb kind PropertyType.floating && eqb n size) true
    (cond (ltb kind (length lengths))
    (cond (eqb (get_or lengths kind 0) any) true (eqb n (get_or lengths kind 0)))
    true)

-- a payload of n bytes: its only byte or its first word, and its second word
unfoldable pub content_of : List ℕ → Content
content_of b = record { first = cond (eqb (length b) 1) (get_or b 0 0) (word_of b 0); second = word_of b 4 }

unfoldable pub is_colour_map : ℕ → ℕ → Bool
is_colour_map list kind = eqb list image_list && eqb kind PropertyType.colour_map

-- what the length word of a map of count colours may say: the bytes that it takes, or, as old releases wrote, count + 4
unfoldable pub map_length_ok : ℕ → ℕ → Bool
map_length_ok count n = eqb n (3 * count + 4) || eqb n (count + 4)

-- type 5 in a layer's list
unfoldable pub is_floating : ℕ → ℕ → Bool
is_floating list kind = eqb list layer_list && eqb kind PropertyType.floating

-- the list ends, and an indexed image's colour map has not come
unfoldable pub lacks_map : ℕ → Properties → Bool
lacks_map kind p = eqb kind PropertyType.end && eqb p.unmapped 1

-- compression in the image's list is 0 or 1; in a drawable's, opacity is at most 255, visible and a layer's apply mask are 0 or 1
unfoldable pub allowed : ℕ → ℕ → ℕ → Bool
allowed list kind v =
    cond (eqb list image_list)
    (cond (eqb kind PropertyType.compression) (leb v 1) true)
    (cond (eqb kind PropertyType.opacity) (leb v full_opacity)
    (cond (eqb kind PropertyType.visible) (leb v 1)
    (cond (eqb list layer_list && eqb kind PropertyType.apply) (leb v 1) true)))

-- what holds where the list says nothing; unmapped is 1 for an indexed image
abbrev pub defaults : ℕ → ℕ → Properties
defaults list unmapped = record {
  compression = 0;
  unmapped = unmapped;
  opacity = full_opacity;
  mode = 0;
  visible = cond (eqb list layer_list) 1 0;
  apply = 1;
  dx = 0;
  dy = 0;
  active = 0;
  selection = 0;
  group = 0;
}

-- the type that says a drawable is active
unfoldable pub active_type : ℕ → ℕ
active_type list = cond (eqb list layer_list) PropertyType.active_layer PropertyType.active_channel

-- the list after one more property: the last of a type stands
unfoldable pub put : ℕ → ℕ → Content → Properties → Properties
put list kind c p = record {
  compression = cond (eqb kind PropertyType.compression) c.first p.compression;
  unmapped = cond (eqb kind PropertyType.colour_map) 0 p.unmapped;
  opacity = cond (eqb kind PropertyType.opacity) c.first p.opacity;
  mode = cond (eqb kind PropertyType.mode) c.first p.mode;
  visible = cond (eqb kind PropertyType.visible) c.first p.visible;
  apply = cond (eqb kind PropertyType.apply) c.first p.apply;
  dx = cond (eqb kind PropertyType.offsets) c.first p.dx;
  dy = cond (eqb kind PropertyType.offsets) c.second p.dy;
  active = cond (eqb kind (active_type list)) 1 p.active;
  selection = cond (eqb kind PropertyType.selection) 1 p.selection;
  group = cond (eqb kind PropertyType.group_item) 1 p.group;
}

-- the values beside a refusal
abbrev pub no_content : Content
no_content = record { first = 0; second = 0 }

abbrev pub no_properties : Properties
no_properties = record {
  compression = 0;
  unmapped = 0;
  opacity = 0;
  mode = 0;
  visible = 0;
  apply = 0;
  dx = 0;
  dy = 0;
  active = 0;
  selection = 0;
  group = 0;
}
