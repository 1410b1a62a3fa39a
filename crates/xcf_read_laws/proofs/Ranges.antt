-- The ranges of an accepted image's numbers: a layer's sides are 1 to 16384 and its depth 1 to 4 (`ensures_layer`), so are a mask's
-- or channel's sides (`ensures_channel`), the compression is 0 or 1 (`ensures_head`), and pointers are at most so many
-- (`ensures_pointers`). Each by the test that its structure asks for; the turns of the image's property list keep the compression's.
-- Assumes nothing.
use Prim.Native.Nat.{ℕ, zero, suc, ◌≤◌, ◌<◌}
use mathlib.Core.Path.{◌≡◌}
use mathlib.Core.List.{List, [], ◌∷◌}
use mathlib.Core.Bool.{Bool, true, false, cond, and-eq-true_iff}
use native.Mathlib.Omega.{arith}
use borrow.Author.Tests.{leb-true, eqb-true}
use lib.Dec.{leb, eqb}
use lib.ListN.{length, get_or}
use Rattle.std.proofs.lemmas.Bool.{cond_both}
use Rattle.xcf_numbers.specs.Limit.{side_limit}
use Rattle.xcf_numbers.specs.PropertyType
use Rattle.xcf_numbers.specs.Refusal
use Rattle.xcf_property.specs.declared.Content.{Content}
use Rattle.xcf_property.specs.declared.Properties.{Properties}
use Rattle.xcf_walk.specs.Walk.{here, must}
use Rattle.xcf_walk.specs.Fields.{number, word}
use Rattle.xcf_property.specs.Property.{image_list, layer_list, allowed, put}
use Rattle.xcf_walk.specs.Property.{property, property_turn, properties}
use Rattle.xcf_range.proofs.Bounds.{within_bounds}
use Rattle.xcf_parse.specs.declared.drawable.Layer.{Layer}
use Rattle.xcf_parse.specs.declared.drawable.Owner.{Owner}
use Rattle.xcf_parse.specs.Header.{header}
use Rattle.xcf_table.specs.Canvas.{side_ok, type_ok, depths, depth_of}
use Rattle.xcf_parse.specs.Drawable.{side, side_like, layer_type, fields, layer, channel}
use Rattle.xcf_parse.specs.Image.{base_type, precision, head}
use Rattle.xcf_walk.specs.Pointers.{pointers}
use Rattle.xcf_walk_laws.proofs.Ensures.{Ensures, ensures_always, ensures_done, ensures_must, ensures_weaken, ensures_bind, ensures_next, ensures_cond, InTurn, ensures_loop}

abbrev pub Side : ℕ → Type 0
Side n = (1 ≤ n) × (n ≤ side_limit)

abbrev pub Depth : ℕ → Type 0
Depth n = (1 ≤ n) × (n ≤ 4)

pub record LayerInRange (x : Layer) : Type 0 where
  pub width : Side x.width
  pub height : Side x.height
  pub depth : Depth (depth_of x.form)

-- each number of a list is a depth
abbrev Depths : List ℕ → Type 0
Depths [] = Unit {0}
Depths (d ∷ ds) = Depth d × Depths ds

depth_in_list : (ds : List ℕ) (t : ℕ) → Depths ds → t < length ds → Depth (get_or ds t 0)
depth_in_list [] t h below = absurd (omega arith)
depth_in_list (d ∷ ds) zero h below = h.0
depth_in_list (d ∷ ds) (suc t) h below = depth_in_list ds t h.1 (omega arith)

depth_in_range : (base t : ℕ) → type_ok base t ≡ true → Depth (depth_of t)
unfolding type_ok depth_of
depth_in_range base t e = depth_in_list depths t (omega arith) (omega (arith, leb-true t 5 ((and-eq-true_iff (leb t 5) _).0 e).0))

put_compression : (kind : ℕ) (c : Content) (p : Properties) → allowed image_list kind c.first ≡ true → p.compression ≤ 1
    → (put image_list kind c p).compression ≤ 1
unfolding allowed put
put_compression kind c p e h = go (eqb kind PropertyType.compression) e
  where
    go : (t : Bool) → cond t (leb c.first 1) true ≡ true → cond t c.first p.compression ≤ 1
    go true e = leb-true _ 1 e
    go false e = h

module _ {f : List ℕ} {S : ℕ → Type 0} where
  ensures_side : Ensures f S Side side
  unfolding side side_ok
  ensures_side = ensures_next here _ λ at. ensures_next word _ λ n. ensures_bind _ (ensures_must (side_ok n) Refusal.bad_side at) λ _ e. ensures_done (within_bounds 1 side_limit n e)

  ensures_side_like : (v : ℕ) → Ensures f S (λ _. Side v) (side_like v)
  unfolding side_like
  ensures_side_like v =
      ensures_next here _ λ at. ensures_bind _ ensures_side λ n h. ensures_weaken (λ _ e. rw (eqb-true n v e) at h) (ensures_must (eqb n v) Refusal.disagrees at)

  ensures_layer_type : (base : ℕ) → Ensures f S (λ t. Depth (depth_of t)) (layer_type base)
  unfolding layer_type
  ensures_layer_type base =
      ensures_next here _ λ at. ensures_next word _ λ t. ensures_bind _ (ensures_must (type_ok base t) Refusal.disagrees at) λ _ e. ensures_done (depth_in_range base t e)

  pub ensures_layer : (size base : ℕ) → Ensures f S LayerInRange (layer size base)
  unfolding layer
  ensures_layer size base =
      ensures_bind _ ensures_side λ width w. ensures_bind _ ensures_side λ height h. ensures_bind _ (ensures_layer_type base) λ form d.
      ensures_next (fields size layer_list) _ λ x. ensures_next (number size) _ λ mask. ensures_done (record { width = w; height = h; depth = d })

  -- a mask or channel has its owner's sides
  pub ensures_channel : (size : ℕ) (o : Owner) → Ensures f S (λ _. Side o.width × Side o.height) (channel size o)
  unfolding channel
  ensures_channel size o = ensures_bind _ (ensures_side_like _) λ _ w. ensures_bind _ (ensures_side_like _) λ _ h. ensures_always λ _. (w, h)

  compression_turn : (size : ℕ) (p : Properties) → p.compression ≤ 1 → Ensures f S (InTurn (λ x. x.compression ≤ 1)) (property_turn size image_list p)
  unfolding property_turn
  compression_turn size p h =
      ensures_next (property size image_list) _ λ x. ensures_next (must _ Refusal.floating _) _ λ _. ensures_next (must _ Refusal.bad_content _) _ λ _.
      ensures_bind _ (ensures_must (allowed image_list x.kind x.content.first) Refusal.bad_content x.place) λ _ e.
      let kept = put_compression x.kind x.content p e h in
      ensures_done (cond_both (eqb x.kind PropertyType.end) _ _ (InTurn _) (λ _. kept) (λ _. kept))

  ensures_compression : (size unmapped : ℕ) → Ensures f S (λ p. p.compression ≤ 1) (properties size image_list unmapped)
  unfolding properties
  ensures_compression size unmapped = ensures_loop (property_turn size image_list) (compression_turn size) _ (omega arith)

  pub ensures_head : Ensures f S (λ h. h.compression ≤ 1) head
  unfolding head
  ensures_head =
      ensures_next header _ λ version. ensures_next side _ λ width. ensures_next side _ λ height. ensures_next (base_type version) _ λ base.
      ensures_next (precision version) _ λ _. ensures_bind _ (ensures_compression _ _) λ p h. ensures_done h

  pub ensures_pointers : (size most : ℕ) → Ensures f S (λ ps. length ps ≤ most) (pointers size most)
  unfolding pointers
  ensures_pointers size zero =
      ensures_next here _ λ at. ensures_next (number size) _ λ p. ensures_next (must _ Refusal.too_many _) _ λ _. ensures_done (omega arith)
  ensures_pointers size (suc most) =
      ensures_next (number size) _ λ p.
      ensures_cond (eqb p 0) (ensures_done (omega arith)) (ensures_bind _ (ensures_pointers size most) λ ps h. ensures_done (omega arith))
