-- `has_new_mode` meets its contract: as the search of the rows says (`version_told`).
use Prim.Native.Nat.{◌≤◌, ◌<◌}
use mathlib.Core.Path.{refl}
use native.Mathlib.Nat.{sub-zero}
use borrow.Author.Tests.{tests}
use Rattle.std.proofs.Common.{rules}
use Rattle.std.proofs.lemmas.Iterator.{YieldsList-from_range, cases_from_any}
use Rattle.xcf_numbers.specs.Limit.{new_mode}
use Rattle.xcf_table.specs.Table.{row_at}
use Rattle.xcf_image.proofs.RowsLoop.{version_told}
use Rattle.xcf_image.proofs.Image.has_new_mode.Goals as goal

pub returns : goal.returns
returns c =
    let table = c.args.self.now.table.now in
    version_told table c.args.self.now.used _
    (cases_from_any _ _ _ (λ j. new_mode ≤ (row_at table j).mode) (λ j. (row_at table j).mode < new_mode) c.any.ensures.ran (YieldsList-from_range 0 c.args.self.now.used c.args.self.now.used refl (sub-zero _)) (λ x q k. search (rules, tests)) (λ x q k. search (rules, tests)))
