-- The invariant is `Gathered`; a turn is `gathered_turn` at the plane that was gathered.
use native.Mathlib.Omega.{arith}
use Rattle.xcf_encode.proofs.Planes.{gathered_turn, gathered_all}
use Rattle.xcf_encode.proofs.tile.Pixels.gather.Goals as goal

pub loop-k-preserved : goal.loop-k-preserved
loop-k-preserved c = gathered_turn c.loop-k.invariant c.requires (omega arith) _ c.gather_plane.ensures

pub returns : goal.returns
returns c = gathered_all c.loop-k.invariant (omega arith)
