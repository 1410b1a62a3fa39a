-- Whether numbers are all 0, from what the search of them says (`zeros_told`).
-- Assumes nothing.
use Prim.Native.Nat.{ℕ, zero, suc, ◌<◌}
use mathlib.Core.Path.{◌≡◌, refl, sym}
use mathlib.Core.Logic.{◌≢◌}
use mathlib.Core.List.{List, [], ◌∷◌}
use mathlib.Core.Bool.{Bool, true, false, ◌&&◌}
use native.Mathlib.Omega.{arith}
use borrow.Author.Tests.{eq-eqb, ne_eqb}
use lib.ListN.{length}
use Rattle.std.specs.Bool.{MatchBool}
use Rattle.std.specs.List.{AllWithin, HoldsAt}
use Rattle.xcf_usable.specs.Usable.{all_zero}

all_zeros : (ns : List ℕ) → AllWithin (λ n. n ≡ 0) ns 0 (length ns) → all_zero ns ≡ true
unfolding all_zero
all_zeros [] h = refl
all_zeros (n ∷ ns) h =
    let zero_first : n ≡ 0 = h 0 0 (omega arith) (omega arith) in
    rw (eq-eqb n 0 zero_first) (all_zeros ns (λ k d low few. h (suc k) d (omega arith) (omega arith)))

and_false : (b : Bool) → b && false ≡ false
and_false true = refl
and_false false = refl

some_not : (ns : List ℕ) (k : ℕ) → k < length ns → HoldsAt (λ n. n ≢ 0) ns k → all_zero ns ≡ false
unfolding all_zero
some_not [] k few h = absurd (omega arith)
some_not (n ∷ ns) zero few h = rw (ne_eqb n 0 (h 0))
some_not (n ∷ ns) (suc k) few h = rw (some_not ns k (omega arith) (λ d. h d), and_false)

pub zeros_told : (ns : List ℕ) (r : Bool)
    → MatchBool r (AllWithin (λ n. n ≡ 0) ns 0 (length ns)) ((k : ℕ) × (k < length ns) × HoldsAt (λ n. n ≢ 0) ns k) → r ≡ all_zero ns
zeros_told ns true h = sym (all_zeros ns h)
zeros_told ns false h = sym (some_not ns h.0 h.1 h.2)
