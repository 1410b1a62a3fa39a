-- `put_lines` meets its contract: `LinesGoing` holds at the loop's head, and a line put keeps it.
use Prim.Native.Nat.{◌+◌, ◌-◌, ◌*◌}
use Rattle.xcf_grid.proofs.LinesLoop.{LinesGoing}
use Rattle.xcf_grid.proofs.put.put_lines.Given as goal

abbrev pub invariant-loop-j : goal.invariant-loop-j
invariant-loop-j l = LinesGoing l.initial.pixels l.at l.stride l.tile l.line l.n l.pixels (l.at + l.stride * l.j) (l.line * l.j) (l.n - l.j)
