-- The marks of tiles.
use Rattle.std.specs.Prelude.{ℕ}

abbrev pub good : ℕ
good = 0

-- the window ends before the tile does
abbrev pub short : ℕ
short = 20

-- an operation gives more than its stream still takes
abbrev pub overrun : ℕ
overrun = 21
