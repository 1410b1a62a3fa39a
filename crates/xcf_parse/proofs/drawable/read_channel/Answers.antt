-- `read_channel` meets its contract: the list's kind stands for the number of its owner's kind (`fields_same`).
use Rattle.xcf_parse.specs.Drawable.{channel}
use Rattle.xcf_parse.proofs.Lists.{fields_same}
use Rattle.xcf_walk.proofs.Steps.{then}
use Rattle.xcf_parse.proofs.drawable.read_channel.Goals as goal

pub returns-clause-walks : goal.returns-clause-walks
unfolding channel
returns-clause-walks c =
    then _ c.in_ok-side_like.ensures (then _ c.in_ok-side_like-2.ensures (rw (fields_same _ _ _ c.from.ensures) at c.read_fields.ensures.walks))
