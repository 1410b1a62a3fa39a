-- `put_last` meets its contract: the line's end behind the labelled number, by `within_append`.
use native.Mathlib.Omega.{arith}
use Rattle.xcf_store.proofs.Stores.{put_length, put_within, within_append, within_more}
use Rattle.xcf_text.proofs.put_last.Goals as goal

pub bytes-requires : goal.bytes-requires
bytes-requires c = omega (arith, put_length c.put_labelled.ensures.stores.put)

pub returns-clause-stores : goal.returns-clause-stores
returns-clause-stores c =
    within_more _ (omega arith) (within_append c.put_labelled.ensures.stores (put_within c.bytes.ensures.stores))
