-- The text that std's `decimal` gives a number of 64 bits is the number in decimal, and at most 20 digits.
-- Assumes nothing.
use mathlib.Core.Path.{◌≡◌, sym}
use Prim.Native.Nat.{ℕ, zero, suc, ◌^◌, ◌≤◌, ◌<◌}
use native.Mathlib.Nat.{pow-suc}
use native.Mathlib.Omega.{arith}
use borrow.Author.Tests.{lt-ltb, le-ltb}
use lib.ListN.{length}
use Rattle.std.specs.Fmt as fmt
use Rattle.std.proofs.lemmas.Fmt.{AppendsLastDigit, decimal_digit, decimal_from_appends, length-decimal-le}
use Rattle.xcf_text.specs.Text.{decimal, decimal_within}

-- the last digit behind the rest, as long as there is fuel
appends : AppendsLastDigit decimal_within
unfolding decimal_within
appends = record {
  one = λ k n h. rw (lt-ltb n 10 h);
  more = λ k n h. rw (le-ltb n 10 h);
}

below_pow : (k : ℕ) → k < 10 ^ k
below_pow zero = omega arith
below_pow (suc k) = rw (pow-suc 10 k) (omega (arith, below_pow k))

-- the number itself is fuel enough
pub decimal_is : (n : ℕ) → n < 2 ^ 64 → fmt.decimal n ≡ decimal n
unfolding decimal decimal_within
decimal_is zero h = decimal_digit 0 (omega arith)
decimal_is (suc n) h =
    sym (decimal_from_appends decimal_within appends (suc n) (suc n) h (length-decimal-le (suc n) (suc n) (omega arith) (below_pow (suc n)) h))

-- a u64 has at most 20 digits
pub few_digits : (n : ℕ) → n < 2 ^ 64 → length (fmt.decimal n) ≤ 20
few_digits n h = length-decimal-le 20 n (omega arith) (omega arith) h
