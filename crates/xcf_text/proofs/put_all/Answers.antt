-- `put_all` meets its contract: the loop's invariant is `ItemsPut`, a turn `items_turn`.
use Rattle.std.proofs.Common.{refl, arith, rules, ◌∙◌}
use Rattle.xcf_store.proofs.Items.{items_start, items_room, items_turn}
use Rattle.xcf_text.proofs.put_all.Goals as goal

pub loop-n-init : goal.loop-n-init
loop-n-init c = record { items = items_start _ _ _ _ _; same = refl }

pub put_spaced-requires : goal.put_spaced-requires
put_spaced-requires c = items_room c.loop-n.invariant.items c.requires (omega arith)

pub loop-n-preserved : goal.loop-n-preserved
loop-n-preserved c = record {
  items = items_turn c.loop-n.invariant.items (omega arith) (search rules) c.put_spaced.ensures.stores;
  same = c.put_spaced.ensures.same ∙ c.loop-n.invariant.same;
}
