-- The invariant is `Gathered`; a turn is `gathered_turn` at the plane that was gathered.
use Rattle.xcf_encode.proofs.Planes.{Gathered}
use Rattle.xcf_encode.proofs.tile.Pixels.gather.Given as goal

abbrev pub invariant-loop-k : goal.invariant-loop-k
invariant-loop-k l = Gathered l.self.bytes.now l.initial.planar l.self.count l.self.depth l.k l.planar
