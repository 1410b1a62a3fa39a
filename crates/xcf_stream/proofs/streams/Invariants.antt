-- `streams` meets its contract: `StreamsGoing` holds at the loop's head, and each stream keeps it or ends the tile.
use Rattle.xcf_stream.proofs.StreamsLoop.{StreamsGoing}
use Rattle.xcf_stream.proofs.streams.Given as goal

abbrev pub invariant-loop-k : goal.invariant-loop-k
invariant-loop-k l = StreamsGoing l.window l.n l.depth l.initial.pixels l.pixels l.k l.at l.operations
