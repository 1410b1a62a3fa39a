-- `pointer` meets its contract: the bytes that it passes over spell the number.
use mathlib.Core.Path.{sym, ◌∙◌, ap}
use Rattle.xcf_store.specs.Word.{big_endian}
use Rattle.xcf_walk.specs.Fields.{number}
use Rattle.xcf_walk.proofs.Steps.{then, ends, whole}
use Rattle.xcf_walk.proofs.cursor.Cursor.pointer.Goals as goal

pub returns : goal.returns
unfolding number
returns c =
    then _ (rw c.bytes-size.ensures at c.in_ok-bytes.ensures.walks)
    (ends _ (sym (c.number_at.ensures ∙ ap (big_endian 0) (whole (c.in_ok-bytes.ensures.length ∙ c.bytes-size.ensures)))))
