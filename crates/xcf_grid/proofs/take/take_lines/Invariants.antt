-- `take_lines` meets its contract: `Taking` holds at the loop's head, and a line taken keeps it.
use Prim.Native.Nat.{◌+◌, ◌-◌, ◌*◌}
use Rattle.xcf_grid.proofs.TakeLines.{Taking}
use Rattle.xcf_grid.proofs.take.take_lines.Given as goal

abbrev pub invariant-loop-j : goal.invariant-loop-j
invariant-loop-j l = Taking l.pixels l.start l.stride l.line l.n l.initial.tile l.tile (l.start + l.stride * l.j) (l.line * l.j) (l.n - l.j)
