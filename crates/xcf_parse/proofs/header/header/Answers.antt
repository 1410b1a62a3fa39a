-- `header` meets its contract: the version is the tag's.
use mathlib.Core.Path.{sym}
use Rattle.xcf_walk.proofs.Steps.{then, then_here, then_checked, then_held, fails, ends}
use Rattle.xcf_parse.specs.Header.{header}
use Rattle.xcf_parse.proofs.header.header.Goals as goal

pub returns-in_default : goal.returns-in_default
unfolding header
returns-in_default c =
    then_here _ (then _ c.in_ok-magic.ensures.walks (then_checked _ _ _ (sym c.same.ensures) c.in_ok-check.ensures.walks
    (then_here _ (then _ c.in_ok-tag.ensures.walks (fails _ c.in_default.ensures c.jump.ensures)))))

pub returns : goal.returns
unfolding header
returns c =
    then_here _ (then _ c.in_ok-magic.ensures.walks (then_checked _ _ _ (sym c.same.ensures) c.in_ok-check.ensures.walks
    (then_here _ (then _ c.in_ok-tag.ensures.walks (then_held _ _ _ c.in-Some.ensures.0 (ends _ c.in-Some.ensures.1))))))
