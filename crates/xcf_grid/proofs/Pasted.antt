-- The elements of a list with a part pasted in: inside the part they are the source's (`get_or-paste-inside`), outside it the list's
-- own (`get_or-paste-outside`). By the two seams.
-- Assumes nothing.
use Prim.Native.Nat.{ℕ, ◌+◌, ◌-◌, ◌≤◌, ◌<◌}
use mathlib.Core.Path.{◌≡◌, ◌∙◌}
use mathlib.Core.Logic.{⊎_elim}
use mathlib.Core.List.{List, ◌++◌}
use native.Mathlib.Omega.{arith}
use lib.ListN.{length, get_or, take, drop, get_or-append}
use lib.Seq.{paste, get_or-take, get_or-drop, get_or-append-add, length-take-le, length_paste_head}
use Rattle.xcf_laws.proofs.Cases.{below_or}

module _ (d : List ℕ) (at : ℕ) (s : List ℕ) (n : ℕ) (target : at ≤ length d) (source : n ≤ length s) where
  pub get_or-paste-inside : (i : ℕ) → i < n → get_or (paste d at s n) (at + i) 0 ≡ get_or s i 0
  get_or-paste-inside i below =
      get_or-append (take at d ++ take n s) (drop (at + n) d) 0 (at + i) (omega (arith, length_paste_head d at s n target source, below))
      ∙ (rw (length-take-le at d target) at (get_or-append-add (take at d) (take n s) i 0))
      ∙ get_or-take n s i 0 below

  before : (i : ℕ) → i < at → get_or (paste d at s n) i 0 ≡ get_or d i 0
  before i below =
      get_or-append (take at d ++ take n s) (drop (at + n) d) 0 i (omega (arith, length_paste_head d at s n target source, below))
      ∙ get_or-append (take at d) (take n s) 0 i (omega (arith, length-take-le at d target, below))
      ∙ get_or-take at d i 0 below

  after : (i : ℕ) → get_or (paste d at s n) (at + n + i) 0 ≡ get_or d (at + n + i) 0
  after i =
      (rw (length_paste_head d at s n target source) at (get_or-append-add (take at d ++ take n s) (drop (at + n) d) i 0))
      ∙ get_or-drop (at + n) d i 0

  pub get_or-paste-outside : (i : ℕ) → (at ≤ i → i < at + n → ⊥) → get_or (paste d at s n) i 0 ≡ get_or d i 0
  get_or-paste-outside i out =
      ⊎_elim (before i) (λ from. ⊎_elim (λ below. absurd (out from below)) past (below_or i (at + n))) (below_or i at)
    where
      past : at + n ≤ i → get_or (paste d at s n) i 0 ≡ get_or d i 0
      past from = let e : at + n + (i - (at + n)) ≡ i = omega (arith, from) in rw e at (after (i - (at + n)))
