-- `all_zero` meets its contract: as the search of the numbers says (`zeros_told`).
use mathlib.Core.Path.{◌≡◌}
use mathlib.Core.Logic.{◌≢◌}
use borrow.Author.Tests.{tests}
use Rattle.std.proofs.Common.{rules}
use Rattle.std.proofs.lemmas.Iterator.{YieldsList-from_slice, cases_from_all}
use Rattle.xcf_usable.proofs.Zeros.{zeros_told}
use Rattle.xcf_usable.proofs.row.all_zero.Goals as goal

pub returns : goal.returns
returns c =
    zeros_told c.args.numbers.now _
    (cases_from_all _ _ _ (λ n. n ≡ 0) (λ n. n ≢ 0) c.all.ensures.ran (YieldsList-from_slice c.args.numbers.now cc) (λ x q k. search (rules, tests)) (λ x q k. search (rules, tests)))
