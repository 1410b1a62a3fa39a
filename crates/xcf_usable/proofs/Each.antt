-- Tests of which all pass: each does. By its place in the list; behind the list's end there is no test, and nothing is said.
-- Assumes nothing.
use Prim.Native.Nat.{ℕ, zero, suc}
use mathlib.Core.Path.{◌≡◌, refl}
use mathlib.Core.List.{List, [], ◌∷◌}
use mathlib.Core.Bool.{Bool, true, ◌&&◌, and-eq-true_iff}
use lib.ListN.{get_or}

abbrev pub ands : List Bool → Bool
ands [] = true
ands (t ∷ []) = t
ands (t ∷ (u ∷ ts)) = t && ands (u ∷ ts)

pub each : (ts : List Bool) → ands ts ≡ true → (i : ℕ) → get_or ts i true ≡ true
each [] e i = refl
each (t ∷ []) e zero = e
each (t ∷ []) e (suc i) = refl
each (t ∷ (u ∷ ts)) e zero = ((and-eq-true_iff t (ands (u ∷ ts))).0 e).0
each (t ∷ (u ∷ ts)) e (suc i) = each (u ∷ ts) ((and-eq-true_iff t (ands (u ∷ ts))).0 e).1 i
