-- Lists of pointers, each of `size` bytes.
use Rattle.std.specs.Prelude.{ℕ, zero, suc, List, [], ◌∷◌, cond, ◌&&◌, ltb, eqb}
use Rattle.xcf_numbers.specs.Refusal
use Rattle.xcf_walk.specs.Walk.{Walk, done, here, file_length, must, ◌>>=◌, ◌>>◌}
use Rattle.xcf_walk.specs.Fields.{number}

-- pointers closed by 0, at most so many; one more is refused at its place
unfoldable pub pointers : ℕ → ℕ → Walk (List ℕ)
pointers size zero = do
  at ← here
  p ← number size
  must (eqb p 0) Refusal.too_many at
  done []
pointers size (suc most) = do
  p ← number size
  cond (eqb p 0)
      (done [])
      (do
        ps ← pointers size most
        done (p ∷ ps))

-- the pointers of n tiles, each above the one before and below the file's length, then 0
unfoldable pub tiles : ℕ → ℕ → ℕ → Walk (Unit {0})
tiles size zero before = do
  at ← here
  p ← number size
  must (eqb p 0) Refusal.bad_tile_pointer at
tiles size (suc n) before = do
  at ← here
  end ← file_length
  p ← number size
  must (ltb before p && ltb p end) Refusal.bad_tile_pointer at
  tiles size n p
