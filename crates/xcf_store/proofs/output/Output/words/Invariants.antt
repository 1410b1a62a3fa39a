-- `words` meets its contract: the loop's invariant is `ItemsPut`, a turn `items_turn`.
use mathlib.Core.Path.{◌≡◌}
use Rattle.xcf_store.specs.Word.{word_bytes}
use Rattle.xcf_store.proofs.Items.{ItemsPut}
use Rattle.xcf_store.proofs.output.Output.words.Given as goal

abbrev pub invariant-loop-n : goal.invariant-loop-n
invariant-loop-n l = record {
  stored : ItemsPut word_bytes 4 l.initial.self.bytes.now l.initial.self.at l.numbers l.n-index l.self.at l.self.bytes.now;
  same : l.self.bytes.ghost_name ≡ l.initial.self.bytes.ghost_name;
}
