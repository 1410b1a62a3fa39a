-- `put_spaced` meets its contract: the number behind the space, by `within_append`.
use Rattle.xcf_store.proofs.Stores.{put_within, within_append}
use Rattle.xcf_text.specs.Text.{spaced}
use Rattle.xcf_text.proofs.put_spaced.Goals as goal

pub returns-clause-stores : goal.returns-clause-stores
unfolding spaced
returns-clause-stores c = within_append (put_within c.bytes.ensures.stores) c.put_decimal.ensures.stores
