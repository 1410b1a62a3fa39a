-- The bytes that pass the test are counted by `prefix_len`, which is `leading`.
use Rattle.std.proofs.Common.{rules, tests, ◌∙◌}
use Rattle.std.proofs.lemmas.Iterator.{YieldsList-from_slice}
use Rattle.std.proofs.lemmas.Iterator.Consumers.{count_from_yields_List}
use Rattle.std.proofs.lemmas.Iterator.Search.{YieldsList-from_take_while}
use Rattle.std.proofs.lemmas.List.Folds.{length-prefix_len}
use lib.Dec.{eqb}
use Rattle.xcf_segment.proofs.Scan.{leading_prefix}
use Rattle.xcf_segment.proofs.segment.leading.Goals as goal

pub returns : goal.returns
returns c =
    let a = c.args in
    count_from_yields_List c.take_while.result _ c.count.ensures.ran (YieldsList-from_take_while _ (λ b. eqb b a.value) (YieldsList-from_slice a.stream.now cc) c.take_while.ensures.closure c.take_while.ensures.done (λ x b q k. search (rules, tests)))
    ∙ length-prefix_len (λ b. eqb b a.value) a.stream.now
    ∙ leading_prefix a.value a.stream.now
