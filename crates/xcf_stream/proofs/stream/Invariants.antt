-- `stream` meets its contract: `StreamGoing` holds at the loop's head, and each operation keeps it or ends the stream.
use Prim.Native.Nat.{◌-◌}
use lib.ListN.{length}
use Rattle.xcf_stream.proofs.StreamLoop.{StreamGoing}
use Rattle.xcf_stream.proofs.stream.Given as goal

abbrev pub invariant-loop-left : goal.invariant-loop-left
invariant-loop-left l = StreamGoing l.window l.from l.n l.depth l.k l.initial.pixels l.pixels l.at l.left l.to l.operations

abbrev pub decreases-loop-left : goal.decreases-loop-left
decreases-loop-left l = length l.window - l.at
