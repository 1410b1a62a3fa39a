-- The numbers that a walk may be refused with: those of its parts. A loop adds none, since its turns do not run out.
-- Assumes nothing.
use Prim.Native.Nat.{ℕ, zero, suc, ◌+◌, ◌≤◌, ◌<◌}
use mathlib.Core.Path.{◌≡◌, refl, sym, ◌∙◌}
use mathlib.Core.List.{List}
use mathlib.Core.Bool.{Bool, true, false, cond}
use native.Mathlib.Omega.{arith}
use lib.Dec.{leb}
use lib.ListN.{length}
use Rattle.xcf_numbers.specs.Refusal
use Rattle.xcf_walk.specs.Walk.{Outcome, got, refused, Walk, done, run, bytes, here, file_length, jump, must, Turn, more, last, onward, turns, loop, ◌>>=◌}
use Rattle.xcf_store.specs.Word.{part}
use Rattle.xcf_walk.proofs.Walks.{after, run_bind, run_done, run_length, got_not_refused}
use Rattle.xcf_walk.proofs.Advances.{Advances}

-- every refusal of the walk has an allowed number
pub record Refuses (allowed : ℕ → Type 0) {A : Type 0} (w : Walk A) : Type 0 where
  pub number : (f : List ℕ) (at : ℕ) {n p : ℕ} → refused n p ≡ run w f at → allowed n

same_number : {A : Type 0} {n p m q : ℕ} → ◌≡◌ {A = Outcome A} (refused n p) (refused m q) → n ≡ m
same_number e = cc

module _ {allowed : ℕ → Type 0} where
  pub refuses_done : {A : Type 0} {a : A} → Refuses allowed (done a)
  unfolding run
  refuses_done = record { number = λ f at e. absurd (got_not_refused (sym e)) }

  pub refuses_here : Refuses allowed here
  unfolding run here
  refuses_here = record { number = λ f at e. absurd (got_not_refused (sym e)) }

  pub refuses_length : Refuses allowed file_length
  unfolding run file_length
  refuses_length = record { number = λ f at e. absurd (got_not_refused (sym e)) }

  pub refuses_jump : (to : ℕ) → Refuses allowed (jump to)
  unfolding run jump
  refuses_jump to = record { number = λ f at e. absurd (got_not_refused (sym e)) }

  pub refuses_must : (t : Bool) (n p : ℕ) → allowed n → Refuses allowed (must t n p)
  unfolding run must
  refuses_must true n p h = record { number = λ f at e. absurd (got_not_refused (sym e)) }
  refuses_must false n p h = record { number = λ f at e. rw (same_number e) h }

  pub refuses_bytes : (n : ℕ) → allowed 1 → Refuses allowed (bytes n)
  unfolding run bytes
  refuses_bytes n h = record { number = λ f at e. go f at (leb (at + n) (length f)) e }
    where
      go : (f : List ℕ) (at : ℕ) (t : Bool) {m p : ℕ} → refused m p ≡ cond t (got (part f at n) (at + n)) (refused Refusal.past_end at) → allowed m
      go f at true e = absurd (got_not_refused (sym e))
      go f at false e = rw (same_number e) h

  pub refuses_bind : {A B : Type 0} {w : Walk A} (k : A → Walk B) → Refuses allowed w → ((a : A) → Refuses allowed (k a)) → Refuses allowed (w >>= k)
  refuses_bind {A} {B} {w} k first rest = record { number = λ f at e. go f at (run w f at) refl (e ∙ run_bind w k f at) }
    where
      go : (f : List ℕ) (at : ℕ) (x : Outcome A) {n p : ℕ} → x ≡ run w f at → refused n p ≡ after x (λ a q. run (k a) f q) → allowed n
      go f at (got a q) e1 e2 = (rest a).number f q e2
      go f at (refused m r) e1 e2 = rw (same_number e2) (first.number f at e1)

  pub refuses_cond : {A : Type 0} (t : Bool) {w v : Walk A} → Refuses allowed w → Refuses allowed v → Refuses allowed (cond t w v)
  refuses_cond true x y = x
  refuses_cond false x y = y

  module _ {S A : Type 0} (body : S → Walk (Turn S A)) (turn : (s : S) → Refuses allowed (body s)) (moves : (s : S) → Advances (body s)) where
    refuses_turn : (k : ℕ) (s : S) (f : List ℕ) (at : ℕ) {n p : ℕ}
        → ((t : S) (q : ℕ) → at < q → q ≤ length f → refused n p ≡ run (turns k body t) f q → allowed n)
        → refused n p ≡ run (turns (suc k) body s) f at → allowed n
    unfolding turns
    refuses_turn k s f at {n} {p} next e = go (run (body s) f at) refl (e ∙ run_bind (body s) (onward (turns k body)) f at)
      where
        go : (x : Outcome (Turn S A)) → x ≡ run (body s) f at → refused n p ≡ after x (λ t q. run (onward (turns k body) t) f q) → allowed n
        go (refused m r) e1 e2 = rw (same_number e2) ((turn s).number f at e1)
        go (got (last a) q) e1 e2 = absurd (got_not_refused (sym (e2 ∙ run_done f q a)))
        go (got (more t) q) e1 e2 = let m = (moves s).passes f at (more t) q e1 in next t q m.0 m.1 e2

    -- a turn that is not the last leaves as many turns as bytes
    refuses_turns : (k : ℕ) (s : S) (f : List ℕ) (at : ℕ) {n p : ℕ} → length f ≤ at + k → refused n p ≡ run (turns (suc k) body s) f at → allowed n
    refuses_turns zero s f at few e = refuses_turn zero s f at (λ t q on within rest. absurd (omega arith)) e
    refuses_turns (suc k) s f at few e = refuses_turn (suc k) s f at (λ t q on within rest. refuses_turns k t f q (omega arith) rest) e

    pub refuses_loop : (s : S) → Refuses allowed (loop body s)
    unfolding loop
    refuses_loop s = record { number = λ f at e. refuses_turns (length f) s f at (omega arith) (e ∙ run_length f at (λ n. turns (suc n) body s)) }
