-- Steps: one step of n more stays below the end, and one less leaves n, from the laws of products; of n things those from k on begin
-- with thing k.
-- Assumes nothing.
use mathlib.Core.Path.{◌≡◌}
use Prim.Native.Nat.{ℕ, zero, suc, ◌+◌, ◌*◌, ◌-◌, ◌≤◌, ◌<◌}
use native.Mathlib.Nat.{mul-le-mul_right, suc-mul}
use native.Mathlib.Numerals.{sub-one}
use native.Mathlib.Omega.{arith}

pub one_more : (a b n : ℕ) → a < b → a * n + n ≤ b * n
one_more a b n h = omega (arith, mul-le-mul_right {m = a + 1} {n = b} n (omega arith))

pub one_less : (a n : ℕ) → 0 < a → a * n ≡ (a - 1) * n + n
one_less zero n h = absurd (omega arith)
one_less (suc a) n h = rw (sub-one, suc-mul)

-- of n things, those from thing k on begin with thing k; behind the last there is none
pub rest_begins : (n k : ℕ) → k < n → n - k ≡ suc (n - (k + 1))
rest_begins n k h = omega arith

pub rest_empty : (n k : ℕ) → n ≤ k → n - k ≡ 0
rest_empty n k h = omega arith
