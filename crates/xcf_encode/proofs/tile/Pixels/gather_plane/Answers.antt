-- The invariant is `GatherLeft`; a turn is `gather_turn`.
use native.Mathlib.Omega.{arith}
use Rattle.xcf_encode.proofs.Planes.{gather_turn, gather_whole}
use Rattle.xcf_encode.proofs.tile.Pixels.gather_plane.Goals as goal

pub loop-i-preserved : goal.loop-i-preserved
loop-i-preserved c = gather_turn c.loop-i.invariant (omega arith)

pub returns : goal.returns
returns c = rw c.requires.1 at (gather_whole c.loop-i.invariant (omega arith))
