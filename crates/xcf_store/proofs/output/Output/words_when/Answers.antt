-- By the test: the words, or none.
use Rattle.xcf_store.proofs.Words.{words_length, put_none}
use Rattle.xcf_store.proofs.output.Output.words_when.Goals as goal

pub words-requires : goal.words-requires
words-requires c = rw (c.if-test.true, words_length) at c.requires

pub returns-else-test-clause-stores : goal.returns-else-test-clause-stores
returns-else-test-clause-stores c = rw c.if-test.false (put_none _ _)
