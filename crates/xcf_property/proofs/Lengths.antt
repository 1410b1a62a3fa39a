-- Types 23 to 28 are skipped by their length, as each of the listed lengths says (`skipped`).
use Prim.Native.Nat.{ℕ, zero, suc, ◌+◌, ◌-◌, ◌≤◌}
use mathlib.Core.Path.{◌≡◌, refl}
use mathlib.Core.Bool.{true}
use native.Mathlib.Omega.{arith}
use Rattle.xcf_property.specs.Property.{length_ok}

skipped_behind : (size n i : ℕ) → i ≤ 5 → true ≡ length_ok size (23 + i) n
unfolding length_ok
skipped_behind size n zero low = refl
skipped_behind size n (suc zero) low = refl
skipped_behind size n (suc (suc zero)) low = refl
skipped_behind size n (suc (suc (suc zero))) low = refl
skipped_behind size n (suc (suc (suc (suc zero)))) low = refl
skipped_behind size n (suc (suc (suc (suc (suc zero))))) low = refl
skipped_behind size n (suc (suc (suc (suc (suc (suc i)))))) low = absurd (omega arith)

pub skipped : (size kind n : ℕ) → 23 ≤ kind → kind ≤ 28 → true ≡ length_ok size kind n
skipped size kind n above below =
    let behind = skipped_behind size n (kind - 23) (omega arith) in
    let e : 23 + (kind - 23) ≡ kind = omega arith in
    rw e at behind
