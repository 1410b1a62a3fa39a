-- `put` meets its contract: the type that says a drawable is active is none of the others, in each of the four lists (`says_active`).
use mathlib.Core.Path.{◌≡◌, refl}
use Rattle.xcf_property.specs.List.{list_number}
use Rattle.xcf_property.specs.declared.Content.{Content}
use Rattle.xcf_property.specs.declared.ListKind.{ListKind}
use Rattle.xcf_property.specs.declared.ListKind.TheVariants as listkind
use Rattle.xcf_property.specs.declared.Properties.{Properties}
use Rattle.xcf_property.specs.Property.{active_type, put}
use Rattle.xcf_property.proofs.Properties.put.Goals as goal

says_active : (list : ListKind) (c : Content) (p : Properties)
    → record { compression = p.compression; unmapped = p.unmapped; opacity = p.opacity; mode = p.mode; visible = p.visible; apply = p.apply; dx = p.dx; dy = p.dy; active = 1; selection = p.selection; group = p.group } ≡ put (list_number list) (active_type (list_number list)) c p
unfolding active_type put
says_active listkind.Image c p = refl
says_active listkind.Layer c p = refl
says_active listkind.Mask c p = refl
says_active listkind.Channel c p = refl

pub returns-then-kind-active_type : goal.returns-then-kind-active_type
returns-then-kind-active_type c =
    let a = c.args in
    rw (c.if-kind-active_type.true, c.active_type.ensures) (says_active a.list a.content a.self)
