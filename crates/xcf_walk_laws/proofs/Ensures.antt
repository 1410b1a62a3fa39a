-- What a walk ensures of its value: a fact P of every value that it gives on the file f, where all that it passes over are bytes
-- in S. Along a do block: what the first part ensures is at hand for the rest (`ensures_bind`), and a loop's turns keep an
-- invariant (`ensures_loop`).
-- Assumes nothing.
use Prim.Native.Nat.{ℕ, zero, suc}
use mathlib.Core.Path.{◌≡◌}
use mathlib.Core.List.{List}
use mathlib.Core.Bool.{Bool, true, false, cond}
use Rattle.xcf_walk.specs.Walk.{Walk, got, done, file_length, must, ◌>>=◌, run, PassedOver, Turn, more, last, onward, turns, loop}
use Rattle.xcf_walk.proofs.Walks.{got_not_refused, parted, got_done, got_must}
use Rattle.xcf_walk.proofs.Straight.{passed_first, passed_next}

pub record Ensures (f : List ℕ) (S : ℕ → Type 0) {A : Type 0} (P : A → Type 0) (w : Walk A) : Type 0 where
  pub holds : (at : ℕ) {a : A} {q : ℕ} → got a q ≡ run w f at → ((i : ℕ) → PassedOver w f at i → S i) → P a

-- the invariant at a turn
abbrev pub InTurn : {A : Type 0} → (A → Type 0) → Turn A A → Type 0
InTurn P (more s) = P s
InTurn P (last s) = P s

module _ {f : List ℕ} {S : ℕ → Type 0} where
  pub ensures_always : {A : Type 0} {P : A → Type 0} {w : Walk A} → ((a : A) → P a) → Ensures f S P w
  ensures_always h = record { holds = λ at {a} e s. h a }

  pub ensures_done : {A : Type 0} {P : A → Type 0} {a : A} → P a → Ensures f S P (done a)
  ensures_done h = record { holds = λ at e s. rw (got_done f at e).1 h }

  pub ensures_must : (t : Bool) (n p : ℕ) → Ensures f S (λ _. t ≡ true) (must t n p)
  ensures_must t n p = record { holds = λ at e s. (got_must f at t n p e).1 }

  pub ensures_weaken : {A : Type 0} {P Q : A → Type 0} {w : Walk A} → ((a : A) → P a → Q a) → Ensures f S P w → Ensures f S Q w
  ensures_weaken h x = record { holds = λ at {a} e s. h a (x.holds at e s) }

  -- two facts of one walk
  pub ensures_both : {A : Type 0} {P Q : A → Type 0} {w : Walk A} → Ensures f S P w → Ensures f S Q w → Ensures f S (λ a. P a × Q a) w
  ensures_both x y = record { holds = λ at e s. (x.holds at e s, y.holds at e s) }

  pub ensures_bind : {A B : Type 0} {P : A → Type 0} {Q : B → Type 0} {w : Walk A} (k : A → Walk B)
      → Ensures f S P w → ((a : A) → P a → Ensures f S Q (k a)) → Ensures f S Q (w >>= k)
  ensures_bind {w = w} k first rest = record {
    holds = λ at e s.
        let p = parted w k f at e in
        (rest p.value (first.holds at p.first (λ i o. s i (passed_first k f w at i o)))
        ).holds p.place p.rest (λ i o. s i (passed_next k f w at i p.first o));
  }

  -- a first part of which nothing is asked
  pub ensures_next : {A B : Type 0} {Q : B → Type 0} (w : Walk A) (k : A → Walk B) → ((a : A) → Ensures f S Q (k a)) → Ensures f S Q (w >>= k)
  ensures_next w k rest = ensures_bind {P = λ _. Unit {0}} {w = w} k (ensures_always λ _. tt) (λ a _. rest a)

  pub ensures_cond : {A : Type 0} {P : A → Type 0} (t : Bool) {w v : Walk A} → Ensures f S P w → Ensures f S P v → Ensures f S P (cond t w v)
  ensures_cond true x y = x
  ensures_cond false x y = y

  module _ {A : Type 0} {P : A → Type 0} (body : A → Walk (Turn A A)) (turn : (s : A) → P s → Ensures f S (InTurn P) (body s)) where
    ensures_onward : {go : A → Walk A} → ((s : A) → P s → Ensures f S P (go s)) → (t : Turn A A) → InTurn P t → Ensures f S P (onward go t)
    ensures_onward rest (more s) h = rest s h
    ensures_onward rest (last s) h = ensures_done h

    ensures_turns : (n : ℕ) (s : A) → P s → Ensures f S P (turns n body s)
    unfolding run turns
    ensures_turns zero s h = record { holds = λ at e o. absurd (got_not_refused e) }
    ensures_turns (suc n) s h = ensures_bind _ (turn s h) (ensures_onward (ensures_turns n))

    pub ensures_loop : (s : A) → P s → Ensures f S P (loop body s)
    unfolding loop
    ensures_loop s h = ensures_next file_length _ λ n. ensures_turns (suc n) s h
