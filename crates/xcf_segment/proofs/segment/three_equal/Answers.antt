-- Each return is a law of `Scan`.
use mathlib.Core.Path.{sym, ◌∙◌}
use native.Mathlib.Omega.{arith}
use borrow.Author.Tests.{ne_eqb}
use lib.ListN.{get_or}
use Rattle.xcf_segment.proofs.Scan.{few_left, next_other, third_says}
use Rattle.xcf_segment.proofs.segment.three_equal.Goals as goal

pub returns-in_default : goal.returns-in_default
returns-in_default c = sym (few_left c.args.stream.now (omega arith))

pub returns-then-a-b : goal.returns-then-a-b
returns-then-a-b c = third_says c.args.stream.now 0 (omega arith) c.if-a-b.true

pub returns-else-a-b : goal.returns-else-a-b
returns-else-a-b c =
    let s = c.args.stream.now in ne_eqb (get_or s 0 0) (get_or s 1 0) c.if-a-b.false ∙ sym (next_other s 0 (omega arith) c.if-a-b.false)
