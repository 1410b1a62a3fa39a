-- `word` meets its contract: the four bytes that it passes over spell the word.
use mathlib.Core.Path.{sym, ◌∙◌, ap}
use Rattle.xcf_store.specs.Word.{big_endian}
use Rattle.xcf_walk.specs.Fields.{word, number}
use Rattle.xcf_walk.proofs.Steps.{then, ends, whole}
use Rattle.xcf_walk.proofs.cursor.Cursor.word.Goals as goal

pub returns : goal.returns
unfolding word number
returns c = then _ c.in_ok-bytes.ensures.walks (ends _ (sym (c.word_at.ensures ∙ ap (big_endian 0) (whole c.in_ok-bytes.ensures.length))))
