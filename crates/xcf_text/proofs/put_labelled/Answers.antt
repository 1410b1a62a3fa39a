-- `put_labelled` meets its contract: the number behind the label, by `within_append`.
use native.Mathlib.Omega.{arith}
use Rattle.xcf_store.proofs.Stores.{put_length, put_within, within_append}
use Rattle.xcf_text.proofs.put_labelled.Goals as goal

pub put_spaced-requires : goal.put_spaced-requires
put_spaced-requires c = omega (arith, put_length c.bytes.ensures.stores)

pub returns-clause-stores : goal.returns-clause-stores
returns-clause-stores c = within_append (put_within c.bytes.ensures.stores) c.put_spaced.ensures.stores
