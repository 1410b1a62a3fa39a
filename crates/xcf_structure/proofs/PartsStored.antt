-- Bytes stored part by part, each behind the one before: what is left fits, and once it is stored all are (`PartsLeft`). It holds
-- before the first part (`parts_first`), and behind each (`parts_next`).
-- Assumes nothing.
use Prim.Native.Nat.{ℕ, ◌+◌, ◌≤◌}
use mathlib.Core.Path.{◌≡◌}
use mathlib.Core.List.{List, ◌++◌}
use lib.ListN.{length}
use Rattle.xcf_store.specs.Put.{Put}
use Rattle.xcf_store.proofs.Stores.{put_append}
use Rattle.xcf_store.proofs.Room.{Fits, rest_fits}

pub record PartsLeft (old : List ℕ) (to : ℕ) (all rest : List ℕ) (next : ℕ) (output : List ℕ) : Type 0 where
  pub fits : Fits output next rest
  pub whole : (end : ℕ) (new : List ℕ) → Put output next rest end new → Put old to all end new

pub parts_first : {old : List ℕ} {to : ℕ} {all rest : List ℕ} → all ≡ rest → to + length all ≤ length old
    → PartsLeft old to all rest to old
parts_first e room = rw (← e) (record { fits = record { room = room }; whole = λ end new p. p })

pub parts_next : {old : List ℕ} {to : ℕ} {all xs rest : List ℕ} {next : ℕ} {output : List ℕ} {behind : ℕ} {new : List ℕ}
    → Put output next xs behind new → PartsLeft old to all (xs ++ rest) next output → PartsLeft old to all rest behind new
parts_next p g = record { fits = rest_fits p g.fits; whole = λ end new q. g.whole end new (put_append p q) }
