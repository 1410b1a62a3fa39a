-- `next_property` meets its contract: a property that ends the list changes nothing (`put_end`).
use Prim.Native.Nat.{ℕ}
use mathlib.Core.Path.{◌≡◌, refl, sym, ap}
use mathlib.Core.Bool.{not}
use borrow.Author.Tests.{eq-eqb, ne_eqb}
use Rattle.xcf_numbers.specs.PropertyType
use Rattle.xcf_property.specs.declared.Content.{Content}
use Rattle.xcf_property.specs.declared.Properties.{Properties}
use Rattle.xcf_property.specs.declared.ListKind.{ListKind}
use Rattle.xcf_property.specs.declared.ListKind.TheVariants as listkind
use Rattle.xcf_property.specs.List.{list_number}
use Rattle.xcf_property.specs.Property.{put, active_type}
use Rattle.xcf_walk.specs.Property.{property_turn}
use Rattle.xcf_walk.specs.Walk.{last}
use Rattle.xcf_walk.proofs.Steps.{then, then_checked, ends}
use Rattle.xcf_walk.proofs.cursor.Cursor.next_property.Goals as goal

put_end : (list : ListKind) (kind : ℕ) (x : Content) (p : Properties) → kind ≡ PropertyType.end → put (list_number list) kind x p ≡ p
unfolding put active_type
put_end listkind.Image kind x p e = rw e refl
put_end listkind.Layer kind x p e = rw e refl
put_end listkind.Mask kind x p e = rw e refl
put_end listkind.Channel kind x p e = rw e refl

pub returns-then-x-eq-END : goal.returns-then-x-eq-END
unfolding property_turn
returns-then-x-eq-END c =
    then _ c.in_ok-x.ensures
    (then_checked _ _ _ (ap not (sym c.is_floating.ensures)) c.in_ok-check.ensures.walks
    (then_checked _ _ _ (ap not (sym c.lacks_map.ensures)) c.in_ok-check-2.ensures.walks
    (then_checked _ _ _ (sym c.allowed.ensures) c.in_ok-check-3.ensures.walks
    (ends _ (rw (eq-eqb _ _ c.if-x-eq-END.true) (ap last (put_end c.args.list _ _ _ c.if-x-eq-END.true)))))))

pub returns-else-x-eq-END : goal.returns-else-x-eq-END
unfolding property_turn
returns-else-x-eq-END c =
    then _ c.in_ok-x.ensures
    (then_checked _ _ _ (ap not (sym c.is_floating.ensures)) c.in_ok-check.ensures.walks
    (then_checked _ _ _ (ap not (sym c.lacks_map.ensures)) c.in_ok-check-2.ensures.walks
    (then_checked _ _ _ (sym c.allowed.ensures) c.in_ok-check-3.ensures.walks
    (ends _ (rw (ne_eqb _ _ c.if-x-eq-END.false) refl)))))
