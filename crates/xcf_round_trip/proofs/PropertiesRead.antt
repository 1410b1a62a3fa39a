-- The properties that the writer gives an image and a drawable are read as what they say: every entry is one that a turn takes
-- (`image_taken`, `drawable_taken`), and the entries put one after the other give the record (`drawable_says`).
-- Assumes nothing.
use Prim.Native.Nat.{ℕ, ◌+◌, ◌*◌, ◌/◌, ◌%◌, ◌≤◌, ◌<◌}
use mathlib.Core.Path.{◌≡◌, refl, sym}
use mathlib.Core.List.{List, [], ◌∷◌, ◌++◌, flat_map}
use mathlib.Core.Bool.{Bool, true, false, cond, and-false}
use native.Mathlib.Omega.{arith}
use borrow.Author.Tests.{eqb-true, eqb-false, le-leb}
use lib.Dec.{eqb}
use lib.ListN.{length}
use Rattle.std.proofs.lemmas.Bool.{cond_both}
use Rattle.xcf_numbers.specs.Flag
use Rattle.xcf_numbers.specs.Flag.{flag_set}
use Rattle.xcf_numbers.specs.Limit.{full_opacity}
use Rattle.xcf_numbers.specs.PropertyType
use Rattle.xcf_property.specs.declared.Content.{Content}
use Rattle.xcf_property.specs.declared.Properties.{Properties}
use Rattle.xcf_store.specs.Word.{word_of, word_bytes, words, when}
use Rattle.xcf_property.specs.Property.{image_list, length_ok, content_of, allowed, active_type, defaults, put}
use Rattle.xcf_walk.specs.Property.{properties}
use Rattle.xcf_laws.proofs.Cases.{cond_same}
use Rattle.xcf_table.specs.declared.Row.{Row}
use Rattle.xcf_usable.specs.Usable.{is_layer, apply}
use Rattle.xcf_structure.specs.Structure.{Property, property_bytes, list_bytes, worded, drawable_properties}
use Rattle.xcf_image.specs.Image.{image_properties}
use Rattle.xcf_store.proofs.Words.{words_length}
use Rattle.xcf_round_trip.proofs.Parts.{Stands, properties_of}
use Rattle.xcf_round_trip.proofs.Steps.{ReadsTo}
use Rattle.xcf_round_trip.proofs.WordsRead.{word_value}
use Rattle.xcf_round_trip.proofs.PropertyList.{put_all, Plain, Taken, AllTaken, closes, goes, reads_list}

-- the content of no word, of one and of two
content_none : content_of (words []) ≡ record { first = 0; second = 0 }
unfolding content_of word_of flat_map
content_none = refl

content_word : (n : ℕ) → n < 4294967296 → content_of (words (n ∷ [])) ≡ record { first = n; second = 0 }
unfolding content_of word_of flat_map word_bytes
content_word n small = rw (word_value n small)

content_words : (m n : ℕ) → m < 4294967296 → n < 4294967296 → content_of (words (m ∷ n ∷ [])) ≡ record { first = m; second = n }
unfolding content_of word_of flat_map word_bytes
content_words m n small low = rw (word_value m small, word_value n low)

-- a content of at most 1 is allowed in every entry
allowed_low : (list kind n : ℕ) → n ≤ 1 → allowed list kind n ≡ true
unfolding allowed
allowed_low list kind n low = simp (le-leb n 1 low, le-leb n full_opacity (omega arith), cond_same)

module _ (size list kind : ℕ) (plain : Plain kind) where
  -- an entry of at most two words, by its content
  entry : (ns : List ℕ) {c : Content} → length ns ≤ 2 → length_ok size kind (4 * length ns) ≡ true → content_of (words ns) ≡ c
      → allowed list kind c.first ≡ true → Taken size list (worded kind ns)
  entry ns short sized e fine = record {
    plain = plain;
    short = omega (arith, words_length ns);
    sized = rw words_length sized;
    fine = rw e fine;
  }

  -- an entry of no word, and of one that is 0 or 1
  bare : length_ok size kind 0 ≡ true → Taken size list (worded kind [])
  bare sized = entry [] (omega arith) sized content_none (allowed_low list kind 0 (omega arith))

  flag : (n : ℕ) → length_ok size kind 4 ≡ true → Taken size list (worded kind (n % 2 ∷ []))
  flag n sized =
      entry (n % 2 ∷ []) (omega arith) sized (content_word (n % 2) (omega arith)) (allowed_low list kind (n % 2) (omega arith))

-- entries that are there where a test holds
when_taken : {size list : ℕ} {xs : List Property} (test : Bool) (ys : List Property) → (AllTaken size list xs → AllTaken size list (ys ++ xs))
    → AllTaken size list xs → AllTaken size list (when test ys ++ xs)
when_taken true ys h ts = h ts
when_taken false ys h ts = ts

active_taken : (size list : ℕ) {xs : List Property} → AllTaken size list xs → AllTaken size list (worded (active_type list) [] ∷ xs)
unfolding active_type length_ok
active_taken size list {xs} ts =
    cond_both (eqb list 1) 2 3 (λ kind. AllTaken size list (worded kind [] ∷ xs))
    (λ _. goes refl (bare size list 2 (omega arith) refl) ts)
    (λ _. goes refl (bare size list 3 (omega arith) refl) ts)

-- an entry that is left out is as one of type 0, which says nothing
none_active : (list : ℕ) → eqb 0 (active_type list) ≡ false
unfolding active_type
none_active list = cond_both (eqb list 1) 2 3 (λ kind. eqb 0 kind ≡ false) (λ _. refl) (λ _. refl)

put_none : (list : ℕ) (c : Content) (s : Properties) → put list 0 c s ≡ s
unfolding put
put_none list c s = rw (none_active list)

module _ (list : ℕ) where
  put_when : (test : Bool) (x : Property) (xs : List Property) (s : Properties)
      → put_all list (when test (x ∷ []) ++ xs) s ≡ put_all list xs (put list (cond test x.kind 0) (content_of x.payload) s)
  unfolding put_all
  put_when true x xs s = refl
  put_when false x xs s = rw put_none

  put_cons : (x : Property) (xs : List Property) (s : Properties)
      → put_all list (x ∷ xs) s ≡ put_all list xs (put list x.kind (content_of x.payload) s)
  unfolding put_all
  put_cons x xs s = refl

  put_nil : (s : Properties) → put_all list [] s ≡ s
  unfolding put_all
  put_nil s = refl

-- choices: the test of a choice, a choice by a choice, and the one that a bit makes
eqb_cond : (test : Bool) (a b n : ℕ) → eqb (cond test a b) n ≡ cond test (eqb a n) (eqb b n)
eqb_cond true a b n = refl
eqb_cond false a b n = refl

cond_test : (test : Bool) (x y : ℕ) → cond (cond test true false) x y ≡ cond test x y
cond_test true x y = refl
cond_test false x y = refl

cond_bit : (n : ℕ) → cond (eqb (n % 2) 1) 1 0 ≡ n % 2
cond_bit n =
    cond_both (eqb (n % 2) 1) 1 0 (λ v. v ≡ n % 2) (λ e. sym (eqb-true _ _ e)) (λ e. omega (arith, eqb-false (n % 2) 1 e))

bit_small : (n : ℕ) → n % 2 < 4294967296
bit_small n = omega arith

ruleset put_entries = (
  put_when,
  put_cons,
  put_nil,
  content_word,
  content_words,
  bit_small,
  eqb_cond,
  cond_same,
  cond_test,
  cond_bit,
)

-- a row whose list of properties can be read
pub record Listed (r : Row) : Type 0 where
  pub opaque : r.opacity ≤ full_opacity
  pub mode : r.mode < 4294967296
  pub dx : r.dx < 4294967296
  pub dy : r.dy < 4294967296

module _ (size : ℕ) (r : Row) (has_mask : Bool) (l : Listed r) where
  opacity_small : r.opacity < 4294967296
  opacity_small = omega (arith, l.opaque)

  opacity_taken : Taken size r.kind (worded PropertyType.opacity (r.opacity ∷ []))
  unfolding length_ok allowed
  opacity_taken =
      entry size r.kind PropertyType.opacity (omega arith) (r.opacity ∷ []) (omega arith) refl (content_word r.opacity opacity_small)
      (rw (le-leb _ _ l.opaque, cond_same))

  mode_taken : Taken size r.kind (worded PropertyType.mode (r.mode ∷ []))
  unfolding length_ok allowed
  mode_taken =
      entry size r.kind PropertyType.mode (omega arith) (r.mode ∷ []) (omega arith) refl (content_word r.mode l.mode)
      (simp (and-false, cond_same))

  offsets_taken : Taken size r.kind (worded PropertyType.offsets (r.dx ∷ r.dy ∷ []))
  unfolding length_ok allowed
  offsets_taken =
      entry size r.kind PropertyType.offsets (omega arith) (r.dx ∷ r.dy ∷ []) (omega arith) refl (content_words r.dx r.dy l.dx l.dy)
      (simp (and-false, cond_same))

  drawable_taken : AllTaken size r.kind (drawable_properties r has_mask)
  unfolding drawable_properties length_ok
  drawable_taken =
      when_taken (flag_set r.flags Flag.selection) (worded PropertyType.selection [] ∷ []) (goes refl (bare size r.kind PropertyType.selection (omega arith) refl))
      (when_taken (flag_set r.flags Flag.active) (worded (active_type r.kind) [] ∷ []) (active_taken size r.kind)
      (goes refl opacity_taken
      (goes refl (flag size r.kind PropertyType.visible (omega arith) (r.flags / Flag.visible) refl)
      (when_taken has_mask (worded PropertyType.apply (apply r ∷ []) ∷ []) (goes refl (flag size r.kind PropertyType.apply (omega arith) (r.flags / Flag.apply) refl))
      (when_taken (is_layer r) (worded PropertyType.mode (r.mode ∷ []) ∷ worded PropertyType.offsets (r.dx ∷ r.dy ∷ []) ∷ [])
      (λ ts. goes refl mode_taken (goes refl offsets_taken ts))
      (closes refl (bare size r.kind PropertyType.end (omega arith) refl)))))))

  drawable_says : (layer : Bool) → is_layer r ≡ layer
      → put_all r.kind (drawable_properties r has_mask) (defaults r.kind 0) ≡ properties_of r has_mask
  unfolding drawable_properties put active_type
  drawable_says true e =
      simp (
        e,
        content_word r.opacity opacity_small,
        content_word r.mode l.mode,
        content_words r.dx r.dy l.dx l.dy,
        put_entries,
      )
  drawable_says false e = simp (e, content_word r.opacity opacity_small, put_entries)

  pub reads_properties : {f : List ℕ} {p : ℕ} → Stands f p (list_bytes (drawable_properties r has_mask))
      → ReadsTo (properties size r.kind 0) f p (properties_of r has_mask) (p + length (list_bytes (drawable_properties r has_mask)))
  reads_properties s = rw (drawable_says (is_layer r) refl) at (reads_list drawable_taken s)

image_taken : (size : ℕ) → AllTaken size image_list image_properties
unfolding image_properties content_of length_ok allowed
image_taken size =
    goes {x = record { kind = 17; payload = 1 ∷ [] }} refl
    (record { plain = omega arith; short = omega arith; sized = refl; fine = refl })
    (closes refl (bare size image_list 0 (omega arith) refl))

pub reads_image_properties : (size : ℕ) {f : List ℕ} {p : ℕ} → Stands f p (list_bytes image_properties)
    → ReadsTo (properties size image_list 0) f p (record {
      compression = 1;
      unmapped = 0;
      opacity = full_opacity;
      mode = 0;
      visible = 0;
      apply = 1;
      dx = 0;
      dy = 0;
      active = 0;
      selection = 0;
      group = 0;
    }) (p + 17)
unfolding image_properties put_all put content_of flat_map property_bytes word_bytes active_type
reads_image_properties size s = reads_list (image_taken size) s
