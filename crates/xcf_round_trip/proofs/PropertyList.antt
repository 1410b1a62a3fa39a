-- A list of properties that stands in a file is read as its entries put one after the other (`reads_list`). Each entry but the
-- last is a turn of the loop that goes on; more turns are left than bytes of the file, and an entry has a byte at least.
-- Assumes nothing.
use Prim.Native.Nat.{ℕ, zero, suc, ◌+◌, ◌≤◌, ◌<◌}
use mathlib.Core.Path.{◌≡◌, refl}
use mathlib.Core.List.{List, [], ◌∷◌, append-nil, flat_map}
use mathlib.Core.Bool.{true, false, cond, and-false}
use native.Mathlib.Nat.{add_assoc}
use native.Mathlib.Omega.{arith}
use borrow.Author.Tests.{ne_eqb}
use lib.Dec.{eqb}
use lib.ListN.{length, length-append}
use Rattle.xcf_numbers.specs.PropertyType
use Rattle.xcf_numbers.specs.Refusal
use Rattle.xcf_property.specs.declared.Properties.{Properties}
use Rattle.xcf_walk.specs.Walk.{more, last, turns, loop}
use Rattle.xcf_walk.specs.Fields.{word}
use Rattle.xcf_property.specs.Property.{length_ok, content_of, is_colour_map, is_floating, lacks_map, allowed, defaults, put}
use Rattle.xcf_walk.specs.Property.{payload, content, property, property_turn, properties}
use Rattle.xcf_laws.proofs.Cases.{cond_same}
use Rattle.xcf_store.specs.Word.{word_bytes}
use Rattle.xcf_structure.specs.Structure.{Property, property_bytes, list_bytes}
use Rattle.xcf_round_trip.proofs.Parts.{Stands}
use Rattle.xcf_round_trip.proofs.Stands.{stands_front, stands_behind}
use Rattle.xcf_round_trip.proofs.Steps.{ReadsTo, then, then_here, then_length, ends, reads_bytes, reads_must}
use Rattle.xcf_round_trip.proofs.WordsRead.{reads_word}

-- a list after one more entry, and after some
abbrev put_entry : ℕ → Property → Properties → Properties
put_entry list x s = put list x.kind (content_of x.payload) s

unfoldable pub put_all : ℕ → List Property → Properties → Properties
put_all list [] s = s
put_all list (x ∷ xs) s = put_all list xs (put_entry list x s)

-- a type that is neither a colour map's nor a floating selection's
abbrev pub Plain : ℕ → Type 0
Plain kind = (kind < 4294967296) × (kind ≡ 1 → ⊥) × (kind ≡ 5 → ⊥)

-- an entry that a turn takes, whatever came before it, where pointers have `size` bytes
pub record Taken (size list : ℕ) (x : Property) : Type 0 where
  pub plain : Plain x.kind
  pub short : length x.payload < 4294967296
  pub sized : length_ok size x.kind (length x.payload) ≡ true
  pub fine : allowed list x.kind (content_of x.payload).first ≡ true

-- a list of them, the last and no other of type 0
pub data AllTaken (size list : ℕ) : List Property → Type 0 where
  closes : {x : Property} → eqb x.kind PropertyType.end ≡ true → Taken size list x → AllTaken size list (x ∷ [])
  goes : {x : Property} {xs : List Property} → eqb x.kind PropertyType.end ≡ false → Taken size list x → AllTaken size list xs → AllTaken size list (x ∷ xs)

module _ {f : List ℕ} {size list : ℕ} {x : Property} (t : Taken size list x) where
  reads_content : (p at : ℕ) → Stands f p x.payload
      → ReadsTo (content size list x.kind at (length x.payload)) f p (content_of x.payload) (p + length x.payload)
  unfolding content is_colour_map payload
  reads_content p at s =
      rw (ne_eqb _ _ t.plain.1, and-false) (then _ (reads_must _ Refusal.bad_length at t.sized) (then _ (reads_bytes x.payload s) ends))

  reads_property : (p : ℕ) → Stands f p (property_bytes x)
      → ReadsTo (property size list) f p
      (record { kind = x.kind; start = p; place = p + 4 + 4; length = length x.payload; content = content_of x.payload })
      (p + length (property_bytes x))
  unfolding word property property_bytes word_bytes
  reads_property p s =
      let behind = stands_behind (word_bytes x.kind) _ s in
      let end : p + 4 + 4 + length x.payload ≡ p + length (property_bytes x) = omega arith in
      rw (← end)
      (then_here _ (then _ (reads_word x.kind t.plain.0 (stands_front (word_bytes x.kind) _ s))
      (then_here _ (then _ (reads_word _ t.short (stands_front (word_bytes _) _ behind))
      (then_here _ (then _ (reads_content (p + 4 + 4) _ (stands_behind (word_bytes _) _ behind)) ends))))))

  reads_turn : (p : ℕ) (q : Properties) → q.unmapped ≡ 0 → Stands f p (property_bytes x)
      → ReadsTo (property_turn size list q) f p
      (cond (eqb x.kind PropertyType.end) (last (put_entry list x q)) (more (put_entry list x q))) (p + length (property_bytes x))
  unfolding property_turn is_floating lacks_map
  reads_turn p q mapped s =
      then _ (reads_property p s)
      (then _ (reads_must _ _ _ (rw (ne_eqb _ _ t.plain.2, and-false)))
      (then _ (reads_must _ _ _ (rw (mapped, and-false))) (then _ (reads_must _ _ _ t.fine) ends)))

property_long : (x : Property) → 1 ≤ length (property_bytes x)
unfolding property_bytes word_bytes
property_long x = omega arith

put_mapped : (list : ℕ) (x : Property) (q : Properties) → q.unmapped ≡ 0 → (put_entry list x q).unmapped ≡ 0
unfolding put
put_mapped list x q mapped = rw mapped (cond_same (eqb x.kind PropertyType.colour_map) 0)

-- the turns of a list, more of them than bytes are left
turns_read : {f : List ℕ} {size list p : ℕ} {xs : List Property} (q : Properties) (n : ℕ) → AllTaken size list xs → q.unmapped ≡ 0
    → length f ≤ p + n → Stands f p (list_bytes xs)
    → ReadsTo (turns (suc n) (property_turn size list) q) f p (put_all list xs q) (p + length (list_bytes xs))
unfolding turns put_all flat_map
turns_read q n (closes {x} e t) mapped enough s =
    rw append-nil (then _ (reads_turn t _ q mapped (stands_front (property_bytes x) [] s)) (rw e ends))
turns_read q zero (goes {x} {xs} e t ts) mapped enough s =
    absurd (omega (arith, s.inside, property_long x, length-append (property_bytes x) (list_bytes xs)))
turns_read {p = p} q (suc n) (goes {x} {xs} e t ts) mapped enough s =
    rw (length-append, ← add_assoc)
    (then _ (reads_turn t _ q mapped (stands_front (property_bytes x) (list_bytes xs) s))
    (rw e
    (turns_read {p = p + length (property_bytes x)} (put_entry _ x q) n ts (put_mapped _ x q mapped) (omega (arith, property_long x))
    (stands_behind (property_bytes x) (list_bytes xs) s))))

pub reads_list : {f : List ℕ} {p size list : ℕ} {xs : List Property} → AllTaken size list xs → Stands f p (list_bytes xs)
    → ReadsTo (properties size list 0) f p (put_all list xs (defaults list 0)) (p + length (list_bytes xs))
unfolding properties loop
reads_list {f} ts s = then_length _ (turns_read _ (length f) ts refl (omega arith) s)
