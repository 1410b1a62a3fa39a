-- Each return is the law of encodings put into the output, by whether they fit.
use Rattle.std.proofs.Common.{rules}
use mathlib.Core.Path.{sym, ◌∙◌}
use borrow.Author.Tests.{leb-true, leb-false}
use Rattle.xcf_encode.proofs.Answers.{no_room, stored}
use Rattle.xcf_encode.proofs.streams.Streams.encode.Goals as goal

pub returns-then-not-fit : goal.returns-then-not-fit
returns-then-not-fit c = no_room _ _ (leb-false _ _ (sym c.fit.ensures ∙ c.if-not-fit.true))

pub returns : goal.returns
returns c = stored (leb-true _ _ (sym c.fit.ensures ∙ c.if-not-fit.false)) (search rules)
