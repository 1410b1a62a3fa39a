-- `side` meets its contract: a side that passed its test is small.
use Prim.Native.Nat.{ℕ, ◌≤◌}
use mathlib.Core.Path.{◌≡◌, sym, ◌∙◌}
use mathlib.Core.Bool.{true, and-eq-true_iff}
use borrow.Author.Tests.{leb-true}
use lib.Dec.{leb}
use Rattle.xcf_numbers.specs.Limit.{side_limit}
use Rattle.xcf_table.specs.Canvas.{side_ok}
use Rattle.xcf_parse.proofs.drawable.side.Goals as goal

side_small : (n : ℕ) → side_ok n ≡ true → n ≤ side_limit
unfolding side_ok
side_small n e = leb-true _ _ ((and-eq-true_iff (leb 1 n) (leb n side_limit)).0 e).1

pub returns-clause-value_le_side_limit : goal.returns-clause-value_le_side_limit
returns-clause-value_le_side_limit c = side_small _ (sym c.side_ok.ensures ∙ c.in_ok-check.ensures.holds)
