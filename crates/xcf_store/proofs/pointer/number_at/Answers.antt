-- `number_at` meets its contract: a pointer of four bytes is a word, and one of eight is two (`two_words`).
use native.Mathlib.Omega.{arith}
use Rattle.xcf_store.proofs.Parts.{two_words}
use Rattle.xcf_store.proofs.pointer.number_at.Goals as goal

pub returns-in-Wide : goal.returns-in-Wide
returns-in-Wide c =
    let whole = rw c.in-Wide.is at c.requires in
    rw c.in-Wide.is (omega (arith, c.word_at-first.ensures, c.word_at.ensures, two_words c.args.file.now c.args.at whole))
