-- The bytes that a drawable's structures are written as.
use Rattle.std.specs.Prelude.{ℕ, ◌+◌, Bool, cond, length, eqb}
use mathlib.Core.List.{List, [], ◌∷◌, ◌++◌, flat_map}
use Rattle.xcf_numbers.specs.Flag
use Rattle.xcf_numbers.specs.Flag.{flag_set}
use Rattle.xcf_numbers.specs.PropertyType
use Rattle.xcf_property.specs.Property.{active_type}
use Rattle.xcf_table.specs.declared.Row.{Row}
use Rattle.xcf_usable.specs.Usable.{is_layer, visible, apply}
use Rattle.xcf_store.specs.Word.{word_bytes, words, when}

-- the most bytes of a drawable's properties, and a bound of its structure's
abbrev pub properties_limit : ℕ
properties_limit = 88

abbrev pub structure_limit : ℕ
structure_limit = 1200

-- a name's length word, and its bytes closed by a zero; an empty name is a length of 0
unfoldable pub name_bytes : List ℕ → List ℕ
name_bytes name = cond (eqb (length name) 0) (word_bytes 0) (word_bytes (length name + 1) ++ (name ++ (0 ∷ [])))

-- a property: type, length, payload
pub record Property : Type 0 where
  pub kind : ℕ
  pub payload : List ℕ

unfoldable pub property_bytes : Property → List ℕ
property_bytes x = word_bytes x.kind ++ (word_bytes (length x.payload) ++ x.payload)

abbrev pub list_bytes : List Property → List ℕ
list_bytes = flat_map property_bytes

-- a property whose payload is some words
abbrev pub worded : ℕ → List ℕ → Property
worded kind ns = record { kind = kind; payload = words ns }

-- a drawable's properties, each where it is due (RULES, "Written files"); a usable layer is never the selection
unfoldable pub drawable_properties : Row → Bool → List Property
drawable_properties r has_mask =
    when (flag_set r.flags Flag.selection) (worded PropertyType.selection [] ∷ [])
    ++ (when (flag_set r.flags Flag.active) (worded (active_type r.kind) [] ∷ [])
    ++ (worded PropertyType.opacity (r.opacity ∷ []) ∷ worded PropertyType.visible (visible r ∷ [])
    ∷ (when has_mask (worded PropertyType.apply (apply r ∷ []) ∷ [])
    ++ (when (is_layer r) (worded PropertyType.mode (r.mode ∷ []) ∷ worded PropertyType.offsets (r.dx ∷ r.dy ∷ []) ∷ [])
    ++ (worded PropertyType.end [] ∷ [])))))

-- a drawable's structure: sides, a layer's type, name, properties, hierarchy pointer, a layer's mask pointer
unfoldable pub structure_bytes : Row → Bool → List ℕ → ℕ → ℕ → List ℕ
structure_bytes r has_mask name hierarchy mask =
    words (r.width ∷ r.height ∷ when (is_layer r) (r.form ∷ []))
    ++ (name_bytes name ++ (list_bytes (drawable_properties r has_mask) ++ words (hierarchy ∷ when (is_layer r) (mask ∷ []))))

-- its hierarchy, of one level
unfoldable pub hierarchy_bytes : Row → ℕ → List ℕ
hierarchy_bytes r level = words (r.width ∷ r.height ∷ r.depth ∷ level ∷ 0 ∷ [])

-- its level: sides, and the pointers of its tiles
unfoldable pub level_bytes : Row → List ℕ → List ℕ
level_bytes r pointers = words (r.width ∷ r.height ∷ (pointers ++ (0 ∷ [])))
