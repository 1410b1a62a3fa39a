-- Pointers closed by 0, one after the other: what is left of the list gives what the whole gives, the pointers read before in front
-- (`PointersLeft`). It holds at the start (`pointers_start`), each pointer keeps it (`pointers_go`), and a 0 ends the list
-- (`pointers_end`), as a refusal does (`pointers_stop`).
-- Assumes nothing.
use Prim.Native.Nat.{ℕ, zero, suc, ◌+◌, ◌-◌, ◌≤◌, ◌<◌}
use mathlib.Core.Path.{◌≡◌, refl, sym, ◌∙◌, ap}
use mathlib.Core.List.{List, [], ◌∷◌, ◌++◌, append-nil, append_assoc}
use mathlib.Core.Bool.{Bool, true, false, cond}
use native.Mathlib.Nat.{sub-zero}
use native.Mathlib.Omega.{arith}
use borrow.Author.Tests.{lt-ltb, ne_eqb}
use lib.Dec.{ltb, eqb}
use lib.ListN.{length, length-append}
use Rattle.std.specs.Prelude.{Option, Some, None, Result, Ok, Err}
use Rattle.std.specs.Result.{IsErrAnd}
use Rattle.xcf_numbers.specs.Refusal as Number
use Rattle.xcf_numbers.specs.declared.reason.Refusal.{Refusal}
use Rattle.xcf_numbers.specs.declared.reason.Reason.TheVariants as reason
use Rattle.xcf_walk.specs.declared.cursor.Cursor.{Cursor}
use Rattle.xcf_walk.specs.Walk.{Outcome, got, refused, Walk, done, ◌>>=◌, run, must}
use Rattle.xcf_walk.specs.Fields.{number}
use Rattle.xcf_walk.specs.Cursor.{WalksBy, Walks}
use Rattle.xcf_walk.specs.Pointers.{pointers}
use Rattle.xcf_walk.specs.Parts.{next_pointer}
use Rattle.xcf_walk.proofs.Walks.{after, run_bind, run_here}
use Rattle.xcf_walk.proofs.Steps.{then, then_here, fails}

-- how the list goes on behind its next pointer; where none is allowed there is none
abbrev behind : ℕ → Option ℕ → ℕ → Walk (List ℕ)
behind size None left = done []
behind size (Some p) zero = done []
behind size (Some p) (suc left) = pointers size left >>= λ ps. done (p ∷ ps)

by_next : (size left : ℕ) (f : List ℕ) (at : ℕ) → run (pointers size left) f at ≡ after (run (next_pointer size left) f at) (λ o q. run (behind size o left) f q)
unfolding run must pointers next_pointer
by_next size zero f at =
    run_here f at _ ∙ run_bind (number size) _ f at ∙ go (run (number size) f at)
    ∙ sym (ap (λ x. after x (λ o q. run (behind size o 0) f q)) (run_here f at _ ∙ run_bind (number size) _ f at))
  where
    test : (p q : ℕ) (b : Bool) → run (must b Number.too_many at >>= λ _. done []) f q
        ≡ after (run (cond b (done None) (must false Number.too_many at >>= λ _. done (Some p))) f q) (λ o q. run (behind size o 0) f q)
    test p q true = refl
    test p q false = refl

    go : (x : Outcome ℕ) → after x (λ p q. run (must (eqb p 0) Number.too_many at >>= λ _. done []) f q)
        ≡ after (after x (λ p q. run (cond (eqb p 0) (done None) (must false Number.too_many at >>= λ _. done (Some p))) f q)) (λ o q. run (behind size o 0) f q)
    go (got p q) = test p q (eqb p 0)
    go (refused n p) = refl
by_next size (suc left) f at =
    run_bind (number size) _ f at ∙ go (run (number size) f at)
    ∙ sym (ap (λ x. after x (λ o q. run (behind size o (suc left)) f q)) (run_here f at _ ∙ run_bind (number size) _ f at))
  where
    test : (p q : ℕ) (b : Bool) → run (cond b (done []) (pointers size left >>= λ ps. done (p ∷ ps))) f q
        ≡ after (run (cond b (done None) (must (ltb 0 (suc left)) Number.too_many at >>= λ _. done (Some p))) f q) (λ o q. run (behind size o (suc left)) f q)
    test p q true = refl
    test p q false = rw (lt-ltb 0 (suc left) (omega arith)) refl

    go : (x : Outcome ℕ) → after x (λ p q. run (cond (eqb p 0) (done []) (pointers size left >>= λ ps. done (p ∷ ps))) f q)
        ≡ after (after x (λ p q. run (cond (eqb p 0) (done None) (must (ltb 0 (suc left)) Number.too_many at >>= λ _. done (Some p))) f q)) (λ o q. run (behind size o (suc left)) f q)
    go (got p q) = test p q (eqb p 0)
    go (refused n p) = refl

after_done : {A : Type 0} (x : Outcome A) → after x (λ a q. got a q) ≡ x
after_done (got a q) = refl
after_done (refused n p) = refl

-- of at most so many pointers from a cursor on the list is read
pub record PointersLeft (size most : ℕ) (c₀ c : Cursor) (list : List ℕ) : Type 0 where
  pub inside : length list ≤ most
  pub gives : run (pointers size most) c₀.file.now c₀.at ≡ after (run (pointers size (most - length list)) c.file.now c.at) (λ ps q. got (list ++ ps) q)
  pub file : c.file.now ≡ c₀.file.now

pub pointers_start : {size most : ℕ} {c : Cursor} {list : List ℕ} → list ≡ [] → PointersLeft size most c c list
pointers_start {size} {most} {c} e = record { inside = rw e (omega arith); gives = rw (e, sub-zero) (sym (after_done (run (pointers size most) c.file.now c.at))); file = refl }

module _ {size most : ℕ} {c₀ c : Cursor} {list : List ℕ} (l : PointersLeft size most c₀ c list) (left : ℕ) (k : left + length list ≡ most) where
  -- the list's next pointer, and what follows it
  after_next : run (pointers size most) c₀.file.now c₀.at
      ≡ after (after (run (next_pointer size left) c.file.now c.at) (λ o q. run (behind size o left) c.file.now q)) (λ ps q. got (list ++ ps) q)
  after_next =
      let same : most - length list ≡ left = omega (arith, k) in
      l.gives ∙ rw (same, by_next size left c.file.now c.at) refl

  turned : {d : Cursor} {o : Option ℕ} → Walks (next_pointer size left) c (Ok o) d
      → run (pointers size most) c₀.file.now c₀.at ≡ after (run (behind size o left) d.file.now d.at) (λ ps q. got (list ++ ps) q)
  turned {d} t = after_next ∙ rw (t.gives, ← t.file) refl

  pub pointers_go : {d : Cursor} {p : ℕ} {next : List ℕ} → 0 < left → Walks (next_pointer size left) c (Ok (Some p)) d → next ≡ list ++ p ∷ [] → PointersLeft size most c₀ d next
  unfolding run
  pointers_go {d} {p} {next} room t e =
      let long : length next ≡ length list + 1 = rw e (length-append list (p ∷ [])) in
      let one : left ≡ suc (most - length next) = omega (arith, room, k, long) in
      record {
        inside = omega (arith, room, k, long);
        gives = rw one at (turned t) ∙ ap (λ x. after x (λ ps q. got (list ++ ps) q)) (run_bind (pointers size (most - length next)) _ d.file.now d.at) ∙ go (run (pointers size (most - length next)) d.file.now d.at);
        file = t.file ∙ l.file;
      }
    where
      go : (x : Outcome (List ℕ)) → after (after x (λ ps q. run (done (p ∷ ps)) d.file.now q)) (λ ps q. got (list ++ ps) q) ≡ after x (λ ps q. got (next ++ ps) q)
      go (got ps q) = ap (λ x. got x q) (sym (rw e (append_assoc list (p ∷ []) ps)))
      go (refused n q) = refl

  pub pointers_end : {X : Type 0} {v : X → List ℕ} {d : Cursor} (y : X) → Walks (next_pointer size left) c (Ok None) d → v y ≡ list
      → WalksBy v (pointers size most) c₀ (Ok y) d
  unfolding run
  pointers_end {d = d} y t e = record { gives = turned t ∙ ap (λ x. got x d.at) (append-nil list ∙ sym e); file = t.file ∙ l.file; stands = tt }

  pub pointers_stop : {X : Type 0} {v : X → List ℕ} {d : Cursor} {x : Refusal} {r : Result X Refusal} → Walks (next_pointer size left) c (Err x) d → IsErrAnd r (λ y. y ≡ x)
      → WalksBy v (pointers size most) c₀ r d
  pointers_stop {r = Ok y} t h = absurd h
  pointers_stop {r = Err y} t h = record { gives = after_next ∙ rw (t.gives, h) refl; file = t.file ∙ l.file; stands = rw h t.stands }

-- a pointer is refused where none is left
pub too_many_lem : (size : ℕ) {c d e : Cursor} {p : ℕ} → (p ≡ 0 → ⊥) → Walks (number size) c (Ok p) d → e ≡ record { file = d.file; at = c.at }
    → Walks (pointers size 0) c (Err (record { reason = reason.TooMany; place = c.at })) e
unfolding pointers
too_many_lem size {p = p} pointer t e = then_here _ (then _ t (fails _ (ne_eqb p 0 pointer) e))
