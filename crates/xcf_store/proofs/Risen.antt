-- The pointers that rise: they are at most as many as asked for and lie in the file, and the word behind them does not rise.
-- Assumes nothing.
use Prim.Native.Nat.{ℕ, zero, suc, ◌+◌, ◌*◌, ◌≤◌, ◌<◌}
use mathlib.Core.Path.{◌≡◌, refl}
use mathlib.Core.List.{List}
use mathlib.Core.Bool.{Bool, true, false, cond, and-eq-true_iff}
use native.Mathlib.Nat.{add-zero, mul-zero}
use native.Mathlib.Omega.{arith}
use borrow.Author.Tests.{leb-true}
use lib.Dec.{leb}
use lib.ListN.{length}
use Rattle.xcf_store.specs.declared.rising.Rising.{Rising}
use Rattle.xcf_store.specs.Pointer.{number_at}
use Rattle.xcf_store.specs.Rising.{rises, rising}

pub record Risen (size : ℕ) (f : List ℕ) (at n : ℕ) (r : Rising) : Type 0 where
  pub few : r.count ≤ n
  pub within : 1 ≤ r.count → at + size * r.count ≤ length f
  pub stops : r.count < n → rises size f (at + size * r.count) r.last ≡ false

none_risen : (size : ℕ) (f : List ℕ) (at n before : ℕ) → (0 < n → rises size f at before ≡ false) → Risen size f at n (record { count = 0; last = before })
none_risen size f at n before h = record { few = omega arith; within = λ z. absurd (omega arith); stops = λ z. rw (mul-zero, add-zero) (h z) }

one_risen : (size : ℕ) (f : List ℕ) (at n before : ℕ) (r : Rising) → rises size f at before ≡ true → Risen size f (at + size) n r → Risen size f at (suc n) (record { count = r.count + 1; last = r.last })
one_risen size f at n before r e h =
    let same : at + size + size * r.count ≡ at + size * (r.count + 1) = omega arith in
    record {
      few = omega (arith, h.few);
      within = λ _. go r.count h.within (leb-true _ _ ((and-eq-true_iff (leb (at + size) (length f)) _).0 e).0);
      stops = λ z. rw same at (h.stops (omega (arith, z)));
    }
  where
    go : (k : ℕ) → (1 ≤ k → at + size + size * k ≤ length f) → at + size ≤ length f → at + size * (k + 1) ≤ length f
    go zero w fits = omega arith
    go (suc k) w fits = omega (arith, w (omega arith))

pub risen : (size : ℕ) (f : List ℕ) (at n before : ℕ) → Risen size f at n (rising size f at n before)
unfolding rising
risen size f at zero before = none_risen size f at zero before (λ z. absurd (omega arith))
risen size f at (suc n) before = go (rises size f at before) refl (risen size f (at + size) n (number_at size f at))
  where
    go : (t : Bool) → rises size f at before ≡ t → Risen size f (at + size) n (rising size f (at + size) n (number_at size f at))
        → Risen size f at (suc n) (cond t (record { count = (rising size f (at + size) n (number_at size f at)).count + 1; last = (rising size f (at + size) n (number_at size f at)).last }) (record { count = 0; last = before }))
    go true e h = one_risen size f at n before _ e h
    go false e h = none_risen size f at (suc n) before (λ _. e)
