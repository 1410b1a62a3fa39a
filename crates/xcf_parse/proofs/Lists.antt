-- No rule tells a list's number from the number of its row's kind (`fields_same`).
-- Assumes nothing.
use Prim.Native.Nat.{ℕ}
use mathlib.Core.Path.{◌≡◌, refl, fun_ext}
use lib.Dec.{eqb}
use Rattle.xcf_numbers.specs.Kind
use Rattle.xcf_property.specs.declared.Properties.{Properties}
use Rattle.xcf_property.specs.declared.ListKind.{ListKind}
use Rattle.xcf_property.specs.List.{list_number, ListOf}
use Rattle.xcf_property.specs.Property.{is_colour_map, is_floating, allowed, put, active_type}
use Rattle.xcf_walk.specs.Property.{content, property, property_turn, properties}
use Rattle.xcf_parse.specs.Drawable.{fields}

-- two numbers that no rule tells apart
module _ (a b : ℕ) (image : eqb a Kind.unused ≡ eqb b Kind.unused) (layer : eqb a Kind.layer ≡ eqb b Kind.layer) where
  property_same : (size : ℕ) → property size a ≡ property size b
  unfolding property content is_colour_map
  property_same size = simp image

  turn_same : (size : ℕ) (p : Properties) → property_turn size a p ≡ property_turn size b p
  unfolding property_turn is_floating allowed put active_type
  turn_same size p = simp (property_same size, image, layer)

  properties_same : (size : ℕ) → properties size a 0 ≡ properties size b 0
  unfolding properties
  properties_same size = rw (fun_ext (turn_same size), layer) refl

pub fields_same : (size kind : ℕ) (list : ListKind) → ListOf kind list → fields size (list_number list) ≡ fields size kind
unfolding fields
fields_same size kind list h = simp (properties_same (list_number list) kind h.image h.layer size)
