-- A structure's parts as the code stores them, and its length: that of its parts, whatever its pointers are.
-- Assumes nothing.
use mathlib.Core.Path.{◌≡◌, sym, ◌∙◌}
use mathlib.Core.List.{List, [], ◌∷◌, ◌++◌, append_assoc}
use mathlib.Core.Bool.{Bool, true, false, cond}
use Prim.Native.Nat.{ℕ, ◌+◌, ◌*◌}
use mir.Val.{bool_byte}
use native.Mathlib.Omega.{arith}
use lib.ListN.{length, length-append}
use lib.Dec.{eqb}
use Rattle.xcf_laws.proofs.FlatMaps.{flat_map-cons, flat_map-append}
use Rattle.xcf_table.specs.declared.Row.{Row}
use Rattle.xcf_usable.specs.Usable.{is_layer}
use Rattle.xcf_store.specs.Word.{word_bytes, words, when}
use Rattle.xcf_structure.proofs.Lists.{cond_times}
use Rattle.xcf_structure.specs.Structure.{name_bytes, list_bytes, drawable_properties, structure_bytes}
use Rattle.xcf_store.proofs.Words.{word_length, words_length, when_length}

-- a name's
named_length : (test : Bool) (n : ℕ) (name : List ℕ) → length (cond test (word_bytes 0) (word_bytes n ++ (name ++ (0 ∷ [])))) ≡ cond test 4 (length name + 5)
named_length true n name = word_length 0
named_length false n name = rw (length-append, word_length, length-append) (omega arith)

pub name_length : (name : List ℕ) → length (name_bytes name) ≡ cond (eqb (length name) 0) 4 (length name + 5)
unfolding name_bytes
name_length name = named_length (eqb (length name) 0) (length name + 1) name

-- the structure as it is stored: from a part on to its end
module _ (r : Row) (has_mask : Bool) (name : List ℕ) (hierarchy mask : ℕ) where
  abbrev pub mask_on : List ℕ
  mask_on = words (when (is_layer r) (mask ∷ []))

  abbrev pub pointers_on : List ℕ
  pointers_on = word_bytes hierarchy ++ mask_on

  abbrev pub list_on : List ℕ
  list_on = list_bytes (drawable_properties r has_mask) ++ pointers_on

  abbrev pub name_on : List ℕ
  name_on = name_bytes name ++ list_on

  abbrev pub form_on : List ℕ
  form_on = words (when (is_layer r) (r.form ∷ [])) ++ name_on

  abbrev pub sides_on : List ℕ
  sides_on = words (r.width ∷ r.height ∷ []) ++ form_on

module _ (r : Row) (has_mask : Bool) (name : List ℕ) where
  pub structure_words : (hierarchy mask : ℕ) → structure_bytes r has_mask name hierarchy mask ≡ sides_on r has_mask name hierarchy mask
  unfolding structure_bytes
  structure_words hierarchy mask =
      rw (flat_map-append word_bytes (r.width ∷ r.height ∷ []) (when (is_layer r) (r.form ∷ [])), append_assoc, flat_map-cons word_bytes hierarchy)

  pub structure_size_lem : (hierarchy mask : ℕ) → length (structure_bytes r has_mask name hierarchy mask) ≡ 12 + 8 * bool_byte (is_layer r) + length (name_bytes name) + length (list_bytes (drawable_properties r has_mask))
  structure_size_lem hierarchy mask = rw structure_words (simp (length-append, when_length, words_length, word_length, cond_times) (omega arith))

  pub structure_length : (h m : ℕ) → length (structure_bytes r has_mask name h m) ≡ length (structure_bytes r has_mask name 0 0)
  structure_length h m = structure_size_lem h m ∙ sym (structure_size_lem 0 0)
