-- The invariant is `GatherLeft`; a turn is `gather_turn`.
use Rattle.xcf_encode.proofs.Planes.{GatherLeft}
use Rattle.xcf_encode.proofs.tile.Pixels.gather_plane.Given as goal

abbrev pub invariant-loop-i : goal.invariant-loop-i
invariant-loop-i l = GatherLeft l.self.bytes.now l.initial.stream l.k l.self.depth l.i l.stream
