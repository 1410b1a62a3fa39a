-- `words` meets its contract: the loop's invariant is `ItemsPut`, a turn `items_turn`.
use mathlib.Core.Path.{refl, ◌∙◌}
use native.Mathlib.Omega.{arith}
use Rattle.xcf_store.proofs.Stores.{put_within, within_more}
use Rattle.xcf_store.proofs.Words.{word_length}
use Rattle.xcf_store.proofs.Items.{items_start, items_room, items_turn, items_whole}
use Rattle.xcf_store.proofs.output.Output.words.Goals as goal

pub loop-n-init : goal.loop-n-init
loop-n-init c = record { stored = items_start _ _ _ _ _; same = refl }

pub word-requires : goal.word-requires
word-requires c = items_room c.loop-n.invariant.stored c.requires c.loop-n-test.true

pub loop-n-preserved : goal.loop-n-preserved
loop-n-preserved c =
    let p = c.word.ensures in
    record {
      stored = items_turn c.loop-n.invariant.stored c.loop-n-test.true refl (within_more 4 (rw word_length (omega arith)) (put_within p.stores));
      same = p.same ∙ c.loop-n.invariant.same;
    }

pub returns-clause-stores : goal.returns-clause-stores
returns-clause-stores c = (items_whole c.loop-n.invariant.stored c.loop-n-test.false).put
