-- `payload` meets its contract: the bytes that it passes over are the content's.
use mathlib.Core.Path.{refl, sym, ◌∙◌, ap}
use Rattle.xcf_property.specs.Property.{content_of}
use Rattle.xcf_walk.specs.Property.{payload}
use Rattle.xcf_walk.proofs.Steps.{then, then_checked, ends, whole}
use Rattle.xcf_walk.proofs.cursor.Cursor.payload.Goals as goal

pub returns : goal.returns
unfolding payload
returns c =
    then_checked _ _ _ (sym c.length_ok-right.ensures) c.in_ok-check.ensures.walks
    (then _ c.in_ok-bytes.ensures.walks (ends _ (sym (c.content_of.ensures ∙ ap content_of (whole refl)))))
