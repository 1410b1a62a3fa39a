-- The laws of walks: how a walk goes on after each of its steps.
-- Assumes nothing.
use Prim.Native.Nat.{ℕ, ◌+◌, ◌≤◌}
use mathlib.Core.Path.{◌≡◌, refl, ap, ◌∙◌}
use mathlib.Core.List.{List}
use mathlib.Core.Bool.{Bool, true, false, cond}
use native.Mathlib.Omega.{arith}
use borrow.Author.Tests.{leb-true}
use lib.Dec.{leb}
use lib.ListN.{length}
use Rattle.xcf_numbers.specs.Refusal
use Rattle.xcf_walk.specs.Walk.{Outcome, got, refused, Walk, done, refuse, pass, ask, move, ◌>>=◌, run, bytes, here, file_length, jump, must}
use Rattle.xcf_store.specs.Word.{part}

-- what follows an outcome
abbrev pub after : {A B : Type 0} → Outcome A → (A → ℕ → Outcome B) → Outcome B
after (got a q) k = k a q
after (refused n p) k = refused n p

pub after_cond : {A B : Type 0} (t : Bool) (x y : Outcome A) (k : A → ℕ → Outcome B) → cond t (after x k) (after y k) ≡ after (cond t x y) k
after_cond true x y k = refl
after_cond false x y k = refl

pub run_bind : {A B : Type 0} (w : Walk A) (k : A → Walk B) (f : List ℕ) (at : ℕ) → run (w >>= k) f at ≡ after (run w f at) (λ a q. run (k a) f q)
unfolding run
run_bind (done a) k f at = refl
run_bind (refuse n p) k f at = refl
run_bind (pass n h) k f at =
    ap (λ x. cond (leb (at + n) (length f)) x (refused Refusal.past_end at)) (run_bind (h (part f at n)) k f (at + n))
    ∙ after_cond (leb (at + n) (length f)) (run (h (part f at n)) f (at + n)) (refused Refusal.past_end at) (λ a q. run (k a) f q)
run_bind (ask h) k f at = run_bind (h at (length f)) k f at
run_bind (move p w) k f at = run_bind w k f p

-- no value is a refusal
pub got_not_refused : {A : Type 0} {a : A} {q n p : ℕ} → got a q ≡ refused n p → ⊥
got_not_refused e = let z : ◌≡◌ {A = ℕ} 0 1 = cc in absurd (omega arith)

-- a walk in two parts that was taken: both were
pub record Parted {A B : Type 0} (w : Walk A) (k : A → Walk B) (f : List ℕ) (at : ℕ) (b : B) (q : ℕ) : Type 0 where
  pub value : A
  pub place : ℕ
  pub first : got value place ≡ run w f at
  pub rest : got b q ≡ run (k value) f place

pub parted : {A B : Type 0} (w : Walk A) (k : A → Walk B) (f : List ℕ) (at : ℕ) {b : B} {q : ℕ} → got b q ≡ run (w >>= k) f at → Parted w k f at b q
parted {A} {B} w k f at {b} {q} e = go (run w f at) refl (e ∙ run_bind w k f at)
  where
    go : (x : Outcome A) → x ≡ run w f at → got b q ≡ after x (λ a r. run (k a) f r) → Parted w k f at b q
    go (got a r) e1 e2 = record { value = a; place = r; first = e1; rest = e2 }
    go (refused n p) e1 e2 = absurd (got_not_refused e2)

-- the steps: each equation goes from the walk's head to what follows it
module _ {A : Type 0} (f : List ℕ) (at : ℕ) where
  pub run_done : (a : A) → run (done a) f at ≡ got a at
  unfolding run
  run_done a = refl

  pub run_here : (k : ℕ → Walk A) → run (here >>= k) f at ≡ run (k at) f at
  unfolding run here
  run_here k = refl

  pub run_length : (k : ℕ → Walk A) → run (file_length >>= k) f at ≡ run (k (length f)) f at
  unfolding run file_length
  run_length k = refl

-- the place, by itself
pub ran_here : (f : List ℕ) (at : ℕ) → run here f at ≡ got at at
unfolding run here
ran_here f at = refl

-- a jump
pub ran_jump : (f : List ℕ) (at p : ℕ) → run (jump p) f at ≡ got tt p
unfolding run jump
ran_jump f at p = refl

-- how a do block goes on, step by step
pub ruleset steps = (run_bind, run_done, ran_here, ran_jump)

-- what a step gives where it is taken
module _ (f : List ℕ) (at : ℕ) {q : ℕ} where
  pub got_done : {A : Type 0} {a b : A} → got b q ≡ run (done a) f at → (q ≡ at) × (b ≡ a)
  unfolding run
  got_done e = (cc, cc)

  pub got_pass : {A : Type 0} {a : A} (n : ℕ) (h : List ℕ → Walk A) → got a q ≡ run (pass n h) f at
      → (at + n ≤ length f) × (got a q ≡ run (h (part f at n)) f (at + n))
  unfolding run
  got_pass {A} {a} n h e = go (leb (at + n) (length f)) refl e
    where
      go : (t : Bool) → leb (at + n) (length f) ≡ t → got a q ≡ cond t (run (h (part f at n)) f (at + n)) (refused Refusal.past_end at)
          → (at + n ≤ length f) × (got a q ≡ run (h (part f at n)) f (at + n))
      go true e1 e2 = (leb-true _ _ e1, e2)
      go false e1 e2 = absurd (got_not_refused e2)

  pub got_bytes : (n : ℕ) {b : List ℕ} → got b q ≡ run (bytes n) f at → (q ≡ at + n) × (at + n ≤ length f) × (b ≡ part f at n)
  unfolding run bytes
  got_bytes n e = let g = got_pass n done e in let d : got _ q ≡ got (part f at n) (at + n) = g.1 in (cc, g.0, cc)

  pub got_here : {h : ℕ} → got h q ≡ run here f at → (q ≡ at) × (h ≡ at)
  unfolding run here
  got_here e = (cc, cc)

  pub got_must : (t : Bool) (n p : ℕ) {u : Unit {0}} → got u q ≡ run (must t n p) f at → (q ≡ at) × (t ≡ true)
  unfolding run must
  got_must true n p e = (cc, refl)
  got_must false n p e = absurd (got_not_refused e)
