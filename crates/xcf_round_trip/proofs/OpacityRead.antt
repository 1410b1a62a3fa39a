-- A drawable's opacity is at most 255: the walk over its properties tests each that says it, and its turns keep it.
-- Assumes nothing.
use Prim.Native.Nat.{ℕ, ◌≤◌}
use mathlib.Core.Path.{◌≡◌}
use mathlib.Core.List.{List}
use mathlib.Core.Bool.{Bool, true, false, cond}
use native.Mathlib.Omega.{arith}
use borrow.Author.Tests.{leb-true}
use lib.Dec.{leb, eqb}
use Rattle.std.proofs.lemmas.Bool.{cond_both}
use Rattle.xcf_numbers.specs.Limit.{full_opacity}
use Rattle.xcf_numbers.specs.PropertyType
use Rattle.xcf_numbers.specs.Refusal
use Rattle.xcf_property.specs.declared.Content.{Content}
use Rattle.xcf_property.specs.declared.Properties.{Properties}
use Rattle.xcf_walk.specs.Walk.{must}
use Rattle.xcf_property.specs.Property.{image_list, allowed, put}
use Rattle.xcf_walk.specs.Property.{property, property_turn, properties}
use Rattle.xcf_walk_laws.proofs.Ensures.{Ensures, ensures_done, ensures_must, ensures_bind, ensures_next, InTurn, ensures_loop}

module _ (list : ℕ) (drawn : eqb list image_list ≡ false) where
  put_opacity : (kind : ℕ) (c : Content) (p : Properties) → allowed list kind c.first ≡ true → p.opacity ≤ full_opacity
      → (put list kind c p).opacity ≤ full_opacity
  unfolding allowed put
  put_opacity kind c p e h = go (eqb kind PropertyType.opacity) _ (rw drawn at e)
    where
      go : (t other : Bool) → cond t (leb c.first full_opacity) other ≡ true → cond t c.first p.opacity ≤ full_opacity
      go true other e = leb-true _ full_opacity e
      go false other e = h

  module _ {f : List ℕ} {S : ℕ → Type 0} where
    opacity_turn : (size : ℕ) (p : Properties) → p.opacity ≤ full_opacity → Ensures f S (InTurn (λ x. x.opacity ≤ full_opacity)) (property_turn size list p)
    unfolding property_turn
    opacity_turn size p h =
        ensures_next (property size list) _ λ x. ensures_next (must _ Refusal.floating _) _ λ _. ensures_next (must _ Refusal.bad_content _) _ λ _.
        ensures_bind _ (ensures_must (allowed list x.kind x.content.first) Refusal.bad_content x.place) λ _ e.
        let kept = put_opacity x.kind x.content p e h in
        ensures_done (cond_both (eqb x.kind PropertyType.end) _ _ (InTurn _) (λ _. kept) (λ _. kept))

    pub ensures_opacity : (size unmapped : ℕ) → Ensures f S (λ p. p.opacity ≤ full_opacity) (properties size list unmapped)
    unfolding properties
    ensures_opacity size unmapped = ensures_loop (property_turn size list) (opacity_turn size) _ (omega arith)
