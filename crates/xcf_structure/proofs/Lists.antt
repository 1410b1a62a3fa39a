-- A drawable's property list as words: the parts that the code stores, in order, each where its test holds; and its length.
-- Assumes nothing.
use mathlib.Core.Path.{◌≡◌, refl, ◌∙◌}
use mathlib.Core.List.{List, [], ◌∷◌, ◌++◌, flat_map}
use mathlib.Core.Bool.{Bool, true, false, cond}
use Prim.Native.Nat.{ℕ, ◌+◌, ◌*◌, ◌≤◌}
use mir.Val.{bool_byte}
use native.Mathlib.Omega.{arith}
use lib.ListN.{length, length-append}
use Rattle.xcf_numbers.specs.Flag
use Rattle.xcf_numbers.specs.Flag.{flag_set}
use Rattle.xcf_numbers.specs.PropertyType
use Rattle.xcf_laws.proofs.FlatMaps.{flat_map-append}
use Rattle.xcf_property.specs.declared.ListKind.{ListKind}
use Rattle.xcf_property.specs.List.{list_number, ListOf}
use Rattle.xcf_property.specs.Property.{active_type}
use Rattle.xcf_table.specs.declared.Row.{Row}
use Rattle.xcf_usable.specs.Usable.{is_layer, visible, apply}
use Rattle.xcf_store.specs.Word.{word_bytes, words, when}
use Rattle.xcf_structure.specs.Structure.{Property, property_bytes, list_bytes, worded, drawable_properties}
use Rattle.xcf_store.proofs.Words.{words_length, when_length}

list_six : (a b c d e f : List Property) → list_bytes (a ++ (b ++ (c ++ (d ++ (e ++ f))))) ≡ list_bytes a ++ (list_bytes b ++ (list_bytes c ++ (list_bytes d ++ (list_bytes e ++ list_bytes f))))
list_six a b c d e f = simp (flat_map-append property_bytes)

-- properties by a test are words by that test
list_when : (test : Bool) (xs : List Property) (ns : List ℕ) → list_bytes xs ≡ words ns → list_bytes (when test xs) ≡ words (when test ns)
unfolding flat_map
list_when true xs ns e = e
list_when false xs ns e = refl

-- properties of no word, of one and of two
flag_words : (kind : ℕ) → list_bytes (worded kind [] ∷ []) ≡ words (kind ∷ 0 ∷ [])
unfolding flat_map property_bytes word_bytes
flag_words kind = refl

one_words : (kind a : ℕ) → list_bytes (worded kind (a ∷ []) ∷ []) ≡ words (kind ∷ 4 ∷ a ∷ [])
unfolding flat_map property_bytes word_bytes
one_words kind a = refl

-- opacity and visibility, mode and offsets
shown_words : (a b : ℕ) → list_bytes (worded PropertyType.opacity (a ∷ []) ∷ worded PropertyType.visible (b ∷ []) ∷ []) ≡ words (PropertyType.opacity ∷ 4 ∷ a ∷ PropertyType.visible ∷ 4 ∷ b ∷ [])
unfolding flat_map property_bytes word_bytes
shown_words a b = refl

layer_words : (a b c : ℕ) → list_bytes (worded PropertyType.mode (a ∷ []) ∷ worded PropertyType.offsets (b ∷ c ∷ []) ∷ []) ≡ words (PropertyType.mode ∷ 4 ∷ a ∷ PropertyType.offsets ∷ 8 ∷ b ∷ c ∷ [])
unfolding flat_map property_bytes word_bytes
layer_words a b c = refl

-- an active drawable's property is by its row's kind, though that is read as a kind of list
pub active_of : {kind : ℕ} {list : ListKind} → ListOf kind list → active_type (list_number list) ≡ active_type kind
unfolding active_type
active_of h = rw h.layer

-- the list as it is stored: from a part on to its end
module _ (r : Row) (has_mask : Bool) where
  abbrev pub end_on : List ℕ
  end_on = words (PropertyType.end ∷ 0 ∷ [])

  abbrev pub layer_on : List ℕ
  layer_on = words (when (is_layer r) (PropertyType.mode ∷ 4 ∷ r.mode ∷ PropertyType.offsets ∷ 8 ∷ r.dx ∷ r.dy ∷ [])) ++ end_on

  abbrev pub apply_on : List ℕ
  apply_on = words (when has_mask (PropertyType.apply ∷ 4 ∷ apply r ∷ [])) ++ layer_on

  abbrev pub shown_on : List ℕ
  shown_on = words (PropertyType.opacity ∷ 4 ∷ r.opacity ∷ PropertyType.visible ∷ 4 ∷ visible r ∷ []) ++ apply_on

  abbrev pub active_on : List ℕ
  active_on = words (when (flag_set r.flags Flag.active) (active_type r.kind ∷ 0 ∷ [])) ++ shown_on

  abbrev pub selection_on : List ℕ
  selection_on = words (when (flag_set r.flags Flag.selection) (PropertyType.selection ∷ 0 ∷ [])) ++ active_on

pub list_words : (r : Row) (has_mask : Bool) → list_bytes (drawable_properties r has_mask) ≡ selection_on r has_mask
unfolding drawable_properties
list_words r has_mask =
    list_six
    (when (flag_set r.flags Flag.selection) (worded PropertyType.selection [] ∷ []))
    (when (flag_set r.flags Flag.active) (worded (active_type r.kind) [] ∷ []))
    (worded PropertyType.opacity (r.opacity ∷ []) ∷ worded PropertyType.visible (visible r ∷ []) ∷ [])
    (when has_mask (worded PropertyType.apply (apply r ∷ []) ∷ []))
    (when (is_layer r) (worded PropertyType.mode (r.mode ∷ []) ∷ worded PropertyType.offsets (r.dx ∷ r.dy ∷ []) ∷ []))
    (worded PropertyType.end [] ∷ [])
    ∙ rw (
      list_when (flag_set r.flags Flag.selection) _ _ (flag_words PropertyType.selection),
      list_when (flag_set r.flags Flag.active) _ _ (flag_words (active_type r.kind)),
      shown_words r.opacity (visible r),
      list_when has_mask _ _ (one_words PropertyType.apply (apply r)),
      list_when (is_layer r) _ _ (layer_words r.mode r.dx r.dy),
      flag_words PropertyType.end,
    )

-- what is there by a test, as its count of bytes
pub cond_times : (test : Bool) (n : ℕ) → cond test n 0 ≡ n * bool_byte test
cond_times true n = omega arith
cond_times false n = omega arith

pub list_length : (r : Row) (has_mask : Bool) → length (list_bytes (drawable_properties r has_mask)) ≡ 8 * bool_byte (flag_set r.flags Flag.selection) + 8 * bool_byte (flag_set r.flags Flag.active) + 24 + 12 * bool_byte has_mask + 28 * bool_byte (is_layer r) + 8
list_length r has_mask = rw list_words (simp (length-append, when_length, words_length, cond_times) (omega arith))

pub byte_most : (test : Bool) → bool_byte test ≤ 1
byte_most true = omega arith
byte_most false = omega arith
