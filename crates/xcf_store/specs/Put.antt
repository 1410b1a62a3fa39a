-- Bytes stored into an output.
use Rattle.std.specs.Prelude.{◌≡◌, List, ℕ, ◌+◌, ◌≤◌, length}
use Rattle.std.proofs.lemmas.List.Edits.{sets}

-- bs stored from `to` on, and the place behind them
pub record Put (old : List ℕ) (to : ℕ) (bs : List ℕ) (r : ℕ) (new : List ℕ) : Type 0 where
  pub behind : r ≡ to + length bs
  pub output : new ≡ sets old to bs

-- the same, of at most so many bytes
pub record PutWithin (old : List ℕ) (to : ℕ) (bs : List ℕ) (most r : ℕ) (new : List ℕ) : Type 0 where
  pub put : Put old to bs r new
  pub few : length bs ≤ most
