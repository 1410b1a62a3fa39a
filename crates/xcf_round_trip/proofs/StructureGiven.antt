-- What the reader has tested of a layer (`layer_given`), and of a mask or channel (`channel_given`): sides, a layer's type, opacity.
-- Assumes nothing.
use Prim.Native.Nat.{ℕ, ◌≤◌}
use mathlib.Core.Path.{◌≡◌, refl}
use mathlib.Core.List.{List}
use mathlib.Core.Bool.{true, false}
use lib.Dec.{eqb}
use Rattle.xcf_numbers.specs.Limit.{full_opacity}
use Rattle.xcf_numbers.specs.Refusal
use Rattle.xcf_walk.specs.Walk.{here}
use Rattle.xcf_walk.specs.Fields.{number, word, string}
use Rattle.xcf_property.specs.Property.{image_list, layer_list}
use Rattle.xcf_walk_laws.proofs.Ensures.{Ensures, ensures_done, ensures_must, ensures_weaken, ensures_both, ensures_bind, ensures_next}
use Rattle.xcf_parse.specs.declared.drawable.Layer.{Layer}
use Rattle.xcf_parse.specs.declared.drawable.Owner.{Owner}
use Rattle.xcf_parse.specs.declared.drawable.Fields.{Fields}
use Rattle.xcf_parse.specs.Hierarchy.{pointer}
use Rattle.xcf_parse.specs.Drawable.{side, side_like, layer_type, fields, layer, channel}
use Rattle.xcf_table.specs.Canvas.{type_ok}
use Rattle.xcf_read_laws.proofs.Ranges.{Side, LayerInRange, ensures_layer, ensures_channel}
use Rattle.xcf_round_trip.proofs.OpacityRead.{ensures_opacity}

pub record LayerGiven (base : ℕ) (x : Layer) : Type 0 where
  pub range : LayerInRange x
  pub type : type_ok base x.form ≡ true
  pub opaque : x.fields.properties.opacity ≤ full_opacity

pub record ChannelGiven (o : Owner) (x : Fields) : Type 0 where
  pub width : Side o.width
  pub height : Side o.height
  pub opaque : x.properties.opacity ≤ full_opacity

module _ {f : List ℕ} {S : ℕ → Type 0} where
  fields_opaque : (size list : ℕ) → eqb list image_list ≡ false
      → Ensures f S (λ x. x.properties.opacity ≤ full_opacity) (fields size list)
  unfolding fields
  fields_opaque size list drawn =
      ensures_next string _ λ name. ensures_next here _ λ place. ensures_bind _ (ensures_opacity list drawn size 0) λ p h.
      ensures_next (pointer size) _ λ to. ensures_done h

  type_given : (base : ℕ) → Ensures f S (λ t. type_ok base t ≡ true) (layer_type base)
  unfolding layer_type
  type_given base =
      ensures_next here _ λ at. ensures_next word _ λ t. ensures_bind _ (ensures_must (type_ok base t) Refusal.disagrees at) λ _ e. ensures_done e

  layer_tested : (size base : ℕ)
      → Ensures f S (λ x. (type_ok base x.form ≡ true) × (x.fields.properties.opacity ≤ full_opacity)) (layer size base)
  unfolding layer
  layer_tested size base =
      ensures_next side _ λ width. ensures_next side _ λ height. ensures_bind _ (type_given base) λ form t.
      ensures_bind _ (fields_opaque size layer_list refl) λ x h. ensures_next (number size) _ λ mask. ensures_done (t, h)

  channel_opaque : (size : ℕ) (o : Owner) → eqb o.kind image_list ≡ false
      → Ensures f S (λ x. x.properties.opacity ≤ full_opacity) (channel size o)
  unfolding channel
  channel_opaque size o drawn = ensures_next (side_like _) _ λ _. ensures_next (side_like _) _ λ _. fields_opaque size o.kind drawn

  pub layer_given : (size base : ℕ) → Ensures f S (LayerGiven base) (layer size base)
  layer_given size base =
      ensures_weaken (λ x b. record { range = b.0; type = b.1.0; opaque = b.1.1 })
      (ensures_both (ensures_layer size base) (layer_tested size base))

  pub channel_given : (size : ℕ) (o : Owner) → eqb o.kind image_list ≡ false → Ensures f S (ChannelGiven o) (channel size o)
  channel_given size o drawn =
      ensures_weaken (λ x b. record { width = b.0.0; height = b.0.1; opaque = b.1 })
      (ensures_both (ensures_channel size o) (channel_opaque size o drawn))
