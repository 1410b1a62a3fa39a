-- Room for bytes that are stored in several goes: what the first leaves is room for the others.
-- Assumes nothing.
use mathlib.Core.List.{List, ◌++◌}
use Prim.Native.Nat.{ℕ, ◌+◌, ◌≤◌}
use native.Mathlib.Omega.{arith}
use lib.ListN.{length, length-append}
use Rattle.xcf_store.specs.Put.{Put, PutWithin}
use Rattle.xcf_store.proofs.Stores.{put_length}

-- the bytes fit from `to` on
pub record Fits (l : List ℕ) (to : ℕ) (bs : List ℕ) : Type 0 where
  pub room : to + length bs ≤ length l

-- once the first are stored, the others fit behind them
pub rest_fits : {l : List ℕ} {to : ℕ} {xs ys : List ℕ} {r : ℕ} {new : List ℕ} → Put l to xs r new → Fits l to (xs ++ ys) → Fits new r ys
rest_fits {xs = xs} {ys} p f = record { room = omega (arith, p.behind, put_length p, f.room, length-append xs ys) }

-- where m bytes and n fit, there is room for n behind what is put within m
pub within_room : {l : List ℕ} {to : ℕ} {bs : List ℕ} {m r : ℕ} {new : List ℕ} (n : ℕ) → PutWithin l to bs m r new → to + (m + n) ≤ length l → r + n ≤ length new
within_room n p h = omega (arith, p.put.behind, p.few, put_length p.put)
