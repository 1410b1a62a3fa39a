-- Lines copied from a source into a target, in each of which they stand at equal distances: the next line lies in both
-- (`next_line`), behind it stand the others (`places_next`), and the code's copy pastes it in (`line_copied`). By arithmetic over the
-- lengths.
-- Assumes nothing.
use Prim.Native.Nat.{ℕ, suc, ◌+◌, ◌-◌, ◌*◌, ◌≤◌, ◌<◌}
use mathlib.Core.Path.{◌≡◌, refl}
use mathlib.Core.List.{List, append_assoc}
use native.Mathlib.Omega.{arith}
use lib.ListN.{take, drop}
use lib.Seq.{paste, drop-drop}
use borrow.Rule.Slice.PartMut.{put_mid}

-- a source and a target of these lengths have `rest` lines of `line` bytes: the source from `from` on, each `away` behind the one
-- before, and the target from `to` on, each `apart` behind the one before
pub record LinePlaces (source from away target to apart line rest : ℕ) : Type 0 where
  pub inside : from + away * rest + line ≤ source + away
  pub room : to + apart * rest + line ≤ target + apart

-- the first of these lines lies in the source and in the target
abbrev pub NextLine : {source from away target to apart line rest : ℕ} → LinePlaces source from away target to apart line rest → Type 0
NextLine {source} {from} {away} {target} {to} {apart} {line} {rest} p = (from + line ≤ source) × (to + line ≤ target)

module _ {source from away target to apart line rest : ℕ} (p : LinePlaces source from away target to apart line rest) (some : 0 < rest) where
  another : rest ≡ suc (rest - 1)
  another = omega (arith, some)

  pub next_line : NextLine p
  next_line = (omega (arith, rw another at p.inside), omega (arith, rw another at p.room))

  pub places_next : LinePlaces source (from + away) away target (to + apart) apart line (rest - 1)
  places_next = record { inside = omega (arith, rw another at p.inside); room = omega (arith, rw another at p.room) }

-- the target with a line of the source copied to its part from `to` on
pub line_copied : (target : List ℕ) (to : ℕ) (source : List ℕ) (from line : ℕ) → {k : ℕ} {part : List ℕ} → k ≡ line
    → part ≡ take (from + line - from) (drop from source) → put_mid to k target part ≡ paste target to (drop from source) line
line_copied target to source from line size e =
    let taken : from + line - from ≡ line = omega arith in rw (e, size, taken, drop-drop, append_assoc) refl
