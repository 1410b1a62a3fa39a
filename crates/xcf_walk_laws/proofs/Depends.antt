-- What a walk gives depends on the file's length and on the bytes that it passes over, and on nothing else: one induction
-- over walks, for every structure.
-- Assumes nothing.
use Prim.Native.Nat.{ℕ, ◌+◌, ◌≤◌, ◌<◌}
use mathlib.Core.Path.{◌≡◌, refl, sym}
use mathlib.Core.List.{List}
use mathlib.Core.Bool.{Bool, true, false, cond}
use mathlib.Core.Logic.{inl, inr}
use native.Mathlib.Omega.{arith}
use borrow.Author.Tests.{leb-true}
use lib.Dec.{leb}
use lib.ListN.{length, drop, get_or, length-take, length-drop}
use lib.Seq.{get_or-take, get_or-drop, ext_get_or}
use Rattle.xcf_numbers.specs.Refusal
use Rattle.xcf_walk.specs.Walk.{Walk, done, refuse, pass, ask, move, refused, run, PassedOver}
use Rattle.xcf_store.specs.Word.{part}

-- two files agree on a part
pub part_same : (f g : List ℕ) (at n : ℕ) → length f ≡ length g
    → ((i : ℕ) → at ≤ i → i < at + n → get_or f i 0 ≡ get_or g i 0) → part f at n ≡ part g at n
part_same f g at n e agree =
    ext_get_or 0 _ _ (simp (length-take, length-drop, e)) (λ i h.
    let lt : i < n = omega (arith, length-take n (drop at f), h) in
    rw (get_or-take, get_or-drop) (rw (get_or-take, get_or-drop) (agree (at + i) (omega arith) (omega arith))))

pub outcome_depends : {A : Type 0} (w : Walk A) (f g : List ℕ) (at : ℕ) → length f ≡ length g
    → ((i : ℕ) → PassedOver w f at i → get_or f i 0 ≡ get_or g i 0) → run w f at ≡ run w g at
unfolding run PassedOver
outcome_depends (done a) f g at e agree = refl
outcome_depends (refuse n p) f g at e agree = refl
outcome_depends {A = A} (pass n h) f g at e agree =
    by_room (leb (at + n) (length f)) refl (λ fits same. rw same (outcome_depends (h (part f at n)) f g (at + n) e (λ i p. agree i (fits, inr p))))
  where
    by_room : (t : Bool) → leb (at + n) (length f) ≡ t
        → (at + n ≤ length f → part g at n ≡ part f at n → run (h (part f at n)) f (at + n) ≡ run (h (part g at n)) g (at + n))
        → cond t (run (h (part f at n)) f (at + n)) (refused Refusal.past_end at) ≡ cond (leb (at + n) (length g)) (run (h (part g at n)) g (at + n)) (refused Refusal.past_end at)
    by_room true e1 go =
        let fits = leb-true _ _ e1 in
        rw (← e, e1) (go fits (sym (part_same f g at n e (λ i lo hi. agree i (fits, inl (lo, hi))))))
    by_room false e1 go = rw (← e, e1)
outcome_depends (ask h) f g at e agree = rw (← e) (outcome_depends (h at (length f)) f g at e agree)
outcome_depends (move p w) f g at e agree = outcome_depends w f g p e agree
