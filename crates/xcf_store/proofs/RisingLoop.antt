-- The loops over rising pointers, by pairs and then one by one: `RisingLeft` holds at the first one's head (`going_start`), and what is
-- left there at the second's. A pair that rises keeps it (`going_pair`), and so does a pointer that rises (`going_next`). Where the next
-- does not rise (`going_falls` or `going_beyond`, so `going_ends`) or none is left (`going_over`) it names the answer. The pointers that
-- lie in the file are all that can rise (`rising_in`).
-- Assumes nothing.
use Prim.Native.Nat.{ℕ, zero, suc, ◌+◌, ◌-◌, ◌*◌, ◌≤◌, ◌<◌}
use mathlib.Core.Path.{◌≡◌, refl, sym, ◌∙◌, ap}
use mathlib.Core.List.{List}
use mathlib.Core.Bool.{Bool, true, false, ◌&&◌, ◌||◌}
use native.Mathlib.Nat.{add-zero, zero-add, sub-zero, mul-zero}
use native.Mathlib.Omega.{arith}
use borrow.Author.Tests.{leb-true, le-leb, lt-leb, lt-ltb, le-ltb}
use lib.Dec.{leb, ltb}
use lib.ListN.{length}
use Rattle.xcf_store.specs.Pointer.{number_at}
use Rattle.xcf_store.specs.Rising.{rises, rising}
use Rattle.xcf_store.specs.Parts.{in_front, RisingLeft}

pub going_start : {size : ℕ} {f : List ℕ} {at n : ℕ} → RisingLeft size f at n 0 0
going_start = record { few = omega arith; whole = rw (mul-zero, add-zero, sub-zero, zero-add) }

none_rises : (size : ℕ) (f : List ℕ) (p m last : ℕ) → rises size f p last ≡ false → rising size f p m last ≡ record { count = 0; last = last }
unfolding rising
none_rises size f p zero last e = refl
none_rises size f p (suc m) last e = rw e

-- of n pointers only the first m lie in the file: the others are not read
pub rising_in : (size : ℕ) (f : List ℕ) (at m n before : ℕ) → m ≤ n → (m < n → length f < at + size * m + size) → rising size f at m before ≡ rising size f at n before
unfolding rising
rising_in size f at zero zero before less out = refl
rising_in size f at zero (suc n) before less out = sym (none_rises size f at (suc n) before (rw (lt-leb _ _ (let o = out (omega arith) in let here : length f < at + size = omega (arith, o) in here))))
rising_in size f at (suc m) zero before less out = absurd (omega (arith, less))
rising_in size f at (suc m) (suc n) before less out = rw (rising_in size f (at + size) m n (number_at size f at) (omega (arith, less)) (λ h. omega (arith, out (omega (arith, h)))))

falls : (a b : Bool) → (a && (false && b)) ≡ false
falls true b = refl
falls false b = refl

beyond : (a b : Bool) → (a && (b && false)) ≡ false
beyond true true = refl
beyond true false = refl
beyond false b = refl

module _ {size : ℕ} {f : List ℕ} {at n i last : ℕ} (g : RisingLeft size f at n i last) where
  stops : rising size f (at + size * i) (n - i) last ≡ record { count = 0; last = last } → record { count = i; last = last } ≡ rising size f at n 0
  stops e = sym (g.whole ∙ ap (in_front i) e ∙ rw add-zero)

  pub going_falls : number_at size f (at + size * i) ≤ last → record { count = i; last = last } ≡ rising size f at n 0
  going_falls h = stops (none_rises size f _ _ last (rw (le-ltb _ _ h) (falls (leb (at + size * i + size) (length f)) (ltb (number_at size f (at + size * i)) (length f)))))

  pub going_beyond : length f ≤ number_at size f (at + size * i) → record { count = i; last = last } ≡ rising size f at n 0
  going_beyond h = stops (none_rises size f _ _ last (rw (le-ltb _ _ h) (beyond (leb (at + size * i + size) (length f)) (ltb last (number_at size f (at + size * i))))))

  pub going_ends : (leb (number_at size f (at + size * i)) last || leb (length f) (number_at size f (at + size * i))) ≡ true → record { count = i; last = last } ≡ rising size f at n 0
  going_ends e = go (leb (number_at size f (at + size * i)) last) refl e
    where
      go : (t : Bool) → leb (number_at size f (at + size * i)) last ≡ t → (t || leb (length f) (number_at size f (at + size * i))) ≡ true → record { count = i; last = last } ≡ rising size f at n 0
      go true is e = going_falls (leb-true _ _ is)
      go false is e = going_beyond (leb-true _ _ e)

  pub going_over : n ≤ i → record { count = i; last = last } ≡ rising size f at n 0
  unfolding rising
  going_over h = let none : n - i ≡ 0 = omega (arith, h) in stops (rw none)

  pub going_next : i < n → at + size * i + size ≤ length f → last < number_at size f (at + size * i) → number_at size f (at + size * i) < length f → RisingLeft size f at n (i + 1) (number_at size f (at + size * i))
  unfolding rising
  going_next less fits above below = record {
    few = omega arith;
    whole =
        let one : n - i ≡ suc (n - (i + 1)) = omega arith in
        let next : at + size * i + size ≡ at + size * (i + 1) = omega arith in
        let r = rising size f (at + size * (i + 1)) (n - (i + 1)) (number_at size f (at + size * i)) in
        let counts : i + (r.count + 1) ≡ i + 1 + r.count = omega arith in
        g.whole ∙ rw (one, le-leb _ _ fits, lt-ltb _ _ above, lt-ltb _ _ below, next) (ap (λ k. record { count = k; last = r.last }) counts);
  }

pub going_pair : {size : ℕ} {f : List ℕ} {at n i last : ℕ} → RisingLeft size f at n i last → i + 2 ≤ n → at + size * i + size + size ≤ length f
    → last < number_at size f (at + size * i) → number_at size f (at + size * i) < number_at size f (at + size * i + size) → number_at size f (at + size * i + size) < length f
    → RisingLeft size f at n (i + 2) (number_at size f (at + size * i + size))
going_pair {size} {f} {at} {n} {i} g less fits above rises below =
    let one = going_next g (omega (arith, less)) (omega (arith, fits)) above (omega (arith, rises, below)) in
    let place : at + size * i + size ≡ at + size * (i + 1) = omega arith in
    let two : i + 2 ≡ i + 1 + 1 = omega arith in
    rw (two, place) (going_next one (omega (arith, less)) (omega (arith, fits)) (rw (← place) rises) (rw (← place) below))
