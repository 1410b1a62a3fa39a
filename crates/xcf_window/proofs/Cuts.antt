-- A window that is cut before its tile is decoded gives the same tile (`cut_same`): the decoder cuts it at the same place.
-- Assumes nothing.
use Prim.Native.Nat.{ℕ, ◌≤◌, ◌<◌, min}
use mathlib.Core.Path.{◌≡◌, sym, ◌∙◌}
use mathlib.Core.List.{List}
use mathlib.Core.Logic.{⊎_elim}
use native.Mathlib.Omega.{arith}
use lib.ListN.{take}
use lib.Seq.{take-take}
use Rattle.xcf_numbers.specs.Limit.{window_limit}
use Rattle.xcf_store.specs.Word.{part}
use Rattle.xcf_laws.proofs.Cases.{below_or}
use Rattle.xcf_tile.specs.Tile.{tile_of}

take_min : (m n : ℕ) (l : List ℕ) → take m (take (min m n) l) ≡ take m (take n l)
take_min m n l = ⊎_elim shorter longer (below_or n m)
  where
    shorter : n < m → take m (take (min m n) l) ≡ take m (take n l)
    shorter h = let e : min m n ≡ n = omega (arith, h) in rw e

    longer : m ≤ n → take m (take (min m n) l) ≡ take m (take n l)
    longer h = let e : min m n ≡ m = omega (arith, h) in rw e (take-take m m l (omega arith) ∙ sym (take-take m n l h))

pub cut_same : (f : List ℕ) (at n w h depth compression : ℕ)
    → tile_of (part f at (min window_limit n)) w h depth compression ≡ tile_of (part f at n) w h depth compression
unfolding tile_of
cut_same f at n w h depth compression = rw (take_min window_limit n)
