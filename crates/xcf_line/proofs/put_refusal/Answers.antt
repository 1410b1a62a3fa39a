-- `put_refusal` meets its contract: the place behind the number, by `refusal_put`, and there is room for both.
use Rattle.xcf_line.proofs.Lines.{place_room, refusal_put}
use Rattle.xcf_line.proofs.put_refusal.Goals as goal

pub put_last-requires : goal.put_last-requires
put_last-requires c = place_room c.requires c.put_labelled.ensures.stores

pub returns-clause-stores : goal.returns-clause-stores
returns-clause-stores c = refusal_put _ _ c.put_labelled.ensures.stores c.put_last.ensures.stores
