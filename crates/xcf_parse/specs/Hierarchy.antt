-- A drawable's hierarchy and its first level. A pointer has `size` bytes.
use Rattle.std.specs.Prelude.{ℕ, cond, not, eqb}
use Rattle.xcf_numbers.specs.Refusal
use Rattle.xcf_walk.specs.Walk.{Walk, done, here, jump, must, Turn, more, last, loop, ◌>>=◌, ◌>>◌}
use Rattle.xcf_walk.specs.Fields.{number, word}
use Rattle.xcf_walk.specs.Pointers.{tiles}
use Rattle.xcf_grid.specs.Grid.{tile_count}

-- a word that has to be v
unfoldable pub agrees : ℕ → Walk (Unit {0})
agrees v = do
  at ← here
  n ← word
  must (eqb n v) Refusal.disagrees at

-- a pointer of so many bytes that is not 0
unfoldable pub pointer : ℕ → Walk ℕ
pointer size = do
  at ← here
  p ← number size
  must (not (eqb p 0)) Refusal.no_pointer at
  done p

-- further pointers up to a 0
unfoldable pub rest_turn : ℕ → Unit {0} → Walk (Turn (Unit {0}) (Unit {0}))
rest_turn size u = do
  p ← number size
  done (cond (eqb p 0) (last tt) (more tt))

unfoldable pub rest : ℕ → Walk (Unit {0})
rest size = loop (rest_turn size) tt

-- the place of the first tile pointer
unfoldable pub hierarchy : ℕ → ℕ → ℕ → ℕ → Walk ℕ
hierarchy size width height depth = do
  agrees width
  agrees height
  agrees depth
  level ← pointer size
  rest size
  jump level
  agrees width
  agrees height
  place ← here
  tiles size (tile_count width height) 0
  done place
