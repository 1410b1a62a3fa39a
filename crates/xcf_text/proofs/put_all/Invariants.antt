-- `put_all` meets its contract: the loop's invariant is `ItemsPut`, a turn `items_turn`.
use mathlib.Core.Path.{◌≡◌}
use Rattle.xcf_store.proofs.Items.{ItemsPut}
use Rattle.xcf_text.specs.Text.{spaced}
use Rattle.xcf_text.proofs.put_all.Given as goal

abbrev pub invariant-loop-n : goal.invariant-loop-n
invariant-loop-n l = record {
  items : ItemsPut spaced 21 l.initial.text.bytes.now l.initial.text.at l.numbers l.n-index l.text.at l.text.bytes.now;
  same : l.text.bytes.ghost_name ≡ l.initial.text.bytes.ghost_name;
}
