-- Laws of `scatter`, by induction over the bytes that are put, and the products that its places are bound by.
-- Assumes nothing.
use mathlib.Core.Path.{◌≡◌, refl, ap, ◌∙◌}
use mathlib.Core.List.{List, [], ◌∷◌, ◌++◌}
use Prim.Native.Nat.{ℕ, suc, ◌+◌, ◌*◌, ◌-◌, ◌≤◌, ◌<◌}
use native.Mathlib.Nat.{mul-suc, mul-zero, add-zero, mul-add}
use native.Mathlib.Numerals.{add-one}
use native.Mathlib.Omega.{arith}
use lib.ListN.{length, replicate, drop, get_or, set, length-set}
use lib.Seq.{drop-cons}
use Rattle.xcf_stream.specs.Parts.{scatter}

-- one turn less
pub one_less : (s n i : ℕ) → i < n → s * (n - i) ≡ s * (n - (i + 1)) + s
one_less s n i h = let e : n - i ≡ suc (n - (i + 1)) = omega arith in rw (e, mul-suc)

pub scatter_value : (buf : List ℕ) (at step n i v : ℕ) → i < n → scatter (set buf at v) (at + step) step (replicate (n - (i + 1)) v) ≡ scatter buf at step (replicate (n - i) v)
scatter_value buf at step n i v h = let e : n - i ≡ suc (n - (i + 1)) = omega arith in rw e

pub scatter_length : (buf : List ℕ) (at step : ℕ) (bs : List ℕ) → length (scatter buf at step bs) ≡ length buf
scatter_length buf at step [] = refl
scatter_length buf at step (b ∷ bs) = scatter_length (set buf at b) (at + step) step bs ∙ length-set buf at b

pub scatter_copied : (buf : List ℕ) (at step : ℕ) (bs : List ℕ) (i : ℕ) → i < length bs → scatter (set buf at (get_or bs i 0)) (at + step) step (drop (i + 1) bs) ≡ scatter buf at step (drop i bs)
scatter_copied buf at step bs i h = rw (add-one, drop-cons bs i 0 h)

-- xs, then ys
pub scatter_append : (buf : List ℕ) (at step : ℕ) (xs ys : List ℕ) → scatter buf at step (xs ++ ys) ≡ scatter (scatter buf at step xs) (at + step * length xs) step ys
scatter_append buf at step [] ys = rw (mul-zero, add-zero)
scatter_append buf at step (x ∷ xs) ys =
    scatter_append (set buf at x) (at + step) step xs ys
    ∙ ap (λ (n : ℕ). scatter (scatter (set buf at x) (at + step) step xs) n step ys) (omega (arith, mul-suc step (length xs)))

-- a product's part and what is left of it
pub mul_part : (s c l : ℕ) → c ≤ l → s * l ≡ s * c + s * (l - c)
mul_part s c l h = let e : l ≡ c + (l - c) = omega arith in ap (λ (n : ℕ). s * n) e ∙ mul-add s c (l - c)
