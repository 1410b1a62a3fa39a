-- A tabulated list: its length, its entries, and one entry more at its end.
-- Assumes nothing.
use Prim.Native.Nat.{ℕ, zero, suc, ◌+◌, ◌<◌}
use mathlib.Core.Path.{◌≡◌, refl, ap, ◌∙◌}
use mathlib.Core.List.{List, [], ◌∷◌, ◌++◌}
use native.Mathlib.Nat.{add-zero}
use native.Mathlib.Omega.{arith}
use lib.ListN.{length, get_or}
use Rattle.xcf_grid.specs.Pixels.{tabulate}

pub tabulate_length : (n i : ℕ) (f : ℕ → ℕ) → length (tabulate n i f) ≡ n
unfolding tabulate
tabulate_length zero i f = refl
tabulate_length (suc n) i f = ap suc (tabulate_length n (i + 1) f)

pub tabulate_entry : (n i : ℕ) (f : ℕ → ℕ) (k : ℕ) → k < n → get_or (tabulate n i f) k 0 ≡ f (i + k)
unfolding tabulate
tabulate_entry zero i f k h = absurd (omega (arith, h))
tabulate_entry (suc n) i f zero h = rw add-zero
tabulate_entry (suc n) i f (suc k) h =
    let e : i + 1 + k ≡ i + suc k = omega arith in tabulate_entry n (i + 1) f k (omega (arith, h)) ∙ ap f e

pub tabulate_more : (n i : ℕ) (f : ℕ → ℕ) → tabulate (suc n) i f ≡ tabulate n i f ++ (f (i + n) ∷ [])
unfolding tabulate
tabulate_more zero i f = rw add-zero
tabulate_more (suc n) i f =
    let e : i + 1 + n ≡ i + suc n = omega arith in
    ap (λ (l : List ℕ). f i ∷ l) (rw e at (tabulate_more n (i + 1) f))
