-- A drawable's structure as it is written is read back: its fields (`reads_fields`), and a layer's (`reads_layer_structure`), a
-- mask's or a channel's (`reads_channel_structure`) as a whole.
-- Assumes nothing.
use Prim.Native.Nat.{ℕ, ◌+◌, ◌≤◌, ◌<◌}
use mathlib.Core.Path.{◌≡◌, refl}
use mathlib.Core.List.{List, [], ◌∷◌, ◌++◌}
use mathlib.Core.Bool.{Bool, true, false, cond}
use native.Mathlib.Omega.{arith}
use borrow.Author.Tests.{eq-eqb}
use lib.ListN.{length}
use Rattle.xcf_numbers.specs.Limit.{side_limit, written_type_limit}
use Rattle.xcf_numbers.specs.Kind
use Rattle.xcf_numbers.specs.Refusal
use Rattle.xcf_utf8.specs.Utf8.{well_formed}
use Rattle.xcf_walk.specs.Fields.{word}
use Rattle.xcf_table.specs.declared.Row.{Row}
use Rattle.xcf_range.proofs.Bounds.{bounds_within}
use Rattle.xcf_parse.specs.declared.drawable.Fields.{Fields}
use Rattle.xcf_parse.specs.declared.drawable.Layer.{Layer}
use Rattle.xcf_parse.specs.declared.drawable.Owner.{Owner}
use Rattle.xcf_table.specs.Canvas.{side_ok, type_ok}
use Rattle.xcf_parse.specs.Drawable.{side, side_like, layer_type, fields, layer, channel}
use Rattle.xcf_usable.specs.Usable.{is_layer}
use Rattle.xcf_store.specs.Word.{words, when}
use Rattle.xcf_structure.specs.Structure.{name_bytes, list_bytes, drawable_properties, structure_bytes}
use Rattle.xcf_drawable.specs.Drawable.{Drawable}
use Rattle.xcf_drawable.specs.Parts.{Writable}
use Rattle.xcf_store.proofs.Words.{words_length}
use Rattle.xcf_round_trip.proofs.Parts.{Stands, Gives, properties_of, sides_size}
use Rattle.xcf_round_trip.proofs.Stands.{stands_front, stands_behind}
use Rattle.xcf_round_trip.proofs.Steps.{ReadsTo, reads_gives, then, then_here, ends, reads_must}
use Rattle.xcf_round_trip.proofs.WordsRead.{words_rest, reads_number}
use Rattle.xcf_round_trip.proofs.NameRead.{reads_name}
use Rattle.xcf_round_trip.proofs.PropertiesRead.{Listed, reads_properties}
use Rattle.xcf_round_trip.proofs.HierarchyRead.{reads_pointer}

-- how long the words before a name are
pub sides_length : (b : Bool) (width height form : ℕ) → length (words (width ∷ height ∷ when b (form ∷ []))) ≡ cond b 12 8
sides_length true width height form = words_length _
sides_length false width height form = words_length _

-- a side, one that has to be its owner's, and a layer's type
module _ {f : List ℕ} {p : ℕ} (n : ℕ) (ns : List ℕ) (range : (1 ≤ n) × (n ≤ side_limit)) (s : Stands f p (words (n ∷ ns))) where
  side_ok_lem : side_ok n ≡ true
  unfolding side_ok
  side_ok_lem = bounds_within 1 side_limit n range

  pub reads_side : ReadsTo side f p n (p + 4)
  unfolding side word
  reads_side = then_here _ (then _ (reads_number n ns s (omega arith)) (then _ (reads_must _ Refusal.bad_side p side_ok_lem) ends))

  reads_side_like : ReadsTo (side_like n) f p tt (p + 4)
  unfolding side_like
  reads_side_like = then_here _ (then _ reads_side (reads_must _ Refusal.disagrees p (eq-eqb n n refl)))

reads_type : {f : List ℕ} {p : ℕ} (base t : ℕ) (ns : List ℕ) → type_ok base t ≡ true → t ≤ 3 → Stands f p (words (t ∷ ns))
    → ReadsTo (layer_type base) f p t (p + 4)
unfolding layer_type word
reads_type base t ns ok low s = then_here _ (then _ (reads_number t ns s (omega arith)) (then _ (reads_must _ Refusal.disagrees _ ok) ends))

-- the fields of a drawable whose name stands at q, a layer that stands at p, and the owner that a mask's or channel's row shows
abbrev pub fields_of : Drawable → ℕ → ℕ → Fields
fields_of d q h = record {
  name = record { place = q + 4; length = length d.name; utf8 = well_formed d.name };
  list = q + length (name_bytes d.name);
  properties = properties_of d.row d.has_mask;
  hierarchy = h;
}

abbrev pub layer_of : Drawable → ℕ → ℕ → ℕ → Layer
layer_of d p h m = record {
  width = d.row.width;
  height = d.row.height;
  form = d.row.form;
  fields = fields_of d (p + sides_size d.row) h;
  mask = m;
}

abbrev pub owner_of : Row → Owner
owner_of r = record { kind = r.kind; width = r.width; height = r.height; dx = r.dx; dy = r.dy; row = r.owner }

-- the bytes of the properties, and of the sides
abbrev list_of : Drawable → List ℕ
list_of d = list_bytes (drawable_properties d.row d.has_mask)

abbrev pub sides_of : Row → List ℕ
sides_of r = words (r.width ∷ r.height ∷ when (is_layer r) (r.form ∷ []))

module _ (d : Drawable) (w : Writable d) (l : Listed d.row) (h : ℕ) (some : 0 < h) (low : h < 4294967296) where
  -- behind the hierarchy pointer stand some words more
  reads_fields : {f : List ℕ} {q : ℕ} (list : ℕ) (ms : List ℕ) → d.row.kind ≡ list
      → Stands f q (name_bytes d.name ++ (list_of d ++ words (h ∷ ms)))
      → ReadsTo (fields 4 list) f q (fields_of d q h) (q + length (name_bytes d.name) + length (list_of d) + 4)
  unfolding fields
  reads_fields list ms kind s =
      let behind = stands_behind (name_bytes d.name) _ s in
      let size : length d.name < 4294967295 = omega (arith, w.named, w.short) in
      rw (← kind)
      (then _ (reads_name d.name size (stands_front (name_bytes d.name) _ s))
      (then_here _ (then _ (reads_properties _ d.row d.has_mask l (stands_front (list_of d) _ behind))
      (then _ (reads_pointer h ms low (stands_behind (list_of d) _ behind) some) ends))))

  -- a structure that stands at p
  module _ {f : List ℕ} {p : ℕ} (m : ℕ) (s : Stands f p (structure_bytes d.row d.has_mask d.name h m)) where
    sides_stand : Stands f p (sides_of d.row)
    unfolding structure_bytes
    sides_stand = stands_front _ _ s

    fields_stand : Stands f (p + sides_size d.row)
        (name_bytes d.name ++ (list_of d ++ words (h ∷ when (is_layer d.row) (m ∷ []))))
    unfolding structure_bytes
    fields_stand = rw sides_length at (stands_behind (sides_of d.row) _ s)

    pub reads_layer_structure : (base : ℕ) → d.row.kind ≡ Kind.layer → type_ok base d.row.form ≡ true → d.row.form ≤ written_type_limit
        → m < 4294967296 → Gives (layer 4 base) f p (layer_of d p h m)
    unfolding layer
    reads_layer_structure base kind type form below =
        let is : is_layer d.row ≡ true = eq-eqb d.row.kind Kind.layer kind in
        let at : p + 4 + 4 + 4 ≡ p + sides_size d.row = rw is (omega arith) in
        let sides = rw is at sides_stand in
        let sides₁ = words_rest _ _ sides in
        let last : when (is_layer d.row) (m ∷ []) ≡ m ∷ [] = rw is in
        let pointers = rw last at (stands_behind (list_of d) _ (stands_behind (name_bytes d.name) _ fields_stand)) in
        reads_gives
        (then _ (reads_side _ _ w.drawn.range.wide sides) (then _ (reads_side _ _ w.drawn.range.high sides₁)
        (then _ (rw at at (reads_type base _ _ type form (words_rest _ _ sides₁)))
        (then _ (reads_fields 1 _ kind fields_stand) (then _ (reads_number m [] (words_rest h _ pointers) below) ends)))))

    pub reads_channel_structure : is_layer d.row ≡ false
        → Gives (channel 4 (owner_of d.row)) f p (fields_of d (p + sides_size d.row) h)
    unfolding channel
    reads_channel_structure isnt =
        let at : p + 4 + 4 ≡ p + sides_size d.row = rw isnt (omega arith) in
        let sides = rw isnt at sides_stand in
        reads_gives
        (then _ (reads_side_like _ _ w.drawn.range.wide sides) (then _ (rw at at (reads_side_like _ _ w.drawn.range.high (words_rest _ _ sides)))
        (reads_fields d.row.kind _ refl fields_stand)))
