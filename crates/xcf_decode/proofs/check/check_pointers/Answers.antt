-- `check_pointers` meets its contract: a walk over the pointers that is taken makes the drawable ready.
use Rattle.xcf_decode.proofs.Usable.{pointers_ready}
use Rattle.xcf_decode.proofs.check.check_pointers.Goals as goal

pub returns-clause-ready : goal.returns-clause-ready
returns-clause-ready c = pointers_ready c.args.drawable.now c.requires _ _ c.tiles.ensures.gives
