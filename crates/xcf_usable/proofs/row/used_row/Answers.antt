-- The test of any row says that the name lies in the lent bytes (`name_inside`), which the test of the name asks.
use mathlib.Core.Path.{sym, ◌∙◌}
use Rattle.xcf_usable.proofs.RowFacts.{name_inside}
use Rattle.xcf_usable.proofs.row.used_row.Goals as goal

pub name_ok-requires : goal.name_ok-requires
name_ok-requires c = name_inside _ _ (sym c.drawable_ok.ensures ∙ c.if-drawable_ok.true)
