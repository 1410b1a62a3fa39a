-- `put_pointers` meets its contract: `PointersLeft` holds at the loop's head, and a place fits a word.
use mathlib.Core.Path.{refl, ◌∙◌}
use Rattle.xcf_image.proofs.Pointers.{pointers_first, pointers_room, pointers_next, pointers_end_room, pointers_whole}
use Rattle.xcf_image.proofs.Image.put_pointers.Goals as goal

pub loop-k-init : goal.loop-k-init
loop-k-init c = record { stored = pointers_first _ _ _ _ _ _; same = refl }

pub words_when-requires : goal.words_when-requires
words_when-requires c =
    pointers_room c.loop-k.invariant.stored c.loop-k-test.true c.row_at-row.ensures c.requires.room

pub loop-k-preserved : goal.loop-k-preserved
loop-k-preserved c =
    record { stored = pointers_next c.loop-k.invariant.stored c.loop-k-test.true c.row_at-row.ensures c.words_when.ensures.stores; same = c.words_when.ensures.same ∙ c.loop-k.invariant.same }

pub word-requires : goal.word-requires
word-requires c =
    pointers_end_room c.loop-k.invariant.stored c.loop-k-test.false c.requires.room

pub returns-clause-stores : goal.returns-clause-stores
returns-clause-stores c =
    pointers_whole c.loop-k.invariant.stored c.loop-k-test.false c.word.ensures.stores
