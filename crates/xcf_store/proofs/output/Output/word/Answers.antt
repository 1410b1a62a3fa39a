-- The bytes that the library spells a number in are those of its word, high byte first.
use Rattle.xcf_store.specs.Word.{word_bytes}
use Rattle.xcf_store.proofs.output.Output.word.Goals as goal

pub returns-clause-stores : goal.returns-clause-stores
unfolding word_bytes
returns-clause-stores c = rw c.to_be_bytes.ensures at c.bytes.ensures.stores
