-- A function that reads field by field is its walk's do block, step by step.
-- Assumes nothing.
use Prim.Native.Nat.{ℕ}
use mathlib.Core.Path.{◌≡◌, refl, sym, ◌∙◌, ap}
use mathlib.Core.List.{List}
use mathlib.Core.Bool.{Bool, true, false}
use native.Mathlib.Omega.{arith}
use lib.ListN.{length}
use lib.Seq.{take_all}
use Rattle.std.specs.Prelude.{Result, Ok, Err}
use Rattle.std.specs.Result.{IsErrAnd}
use Rattle.xcf_store.specs.Word.{part}
use Rattle.xcf_numbers.specs.declared.reason.Refusal.{Refusal}
use Rattle.xcf_numbers.specs.declared.reason.Reason.{Reason}
use Rattle.xcf_numbers.specs.Reason.{number_of}
use Rattle.xcf_laws.proofs.Reasons.{same_reason}
use Rattle.xcf_walk.specs.declared.cursor.Cursor.{Cursor}
use Rattle.xcf_walk.specs.Walk.{Outcome, got, refused, Walk, done, ◌>>=◌, run, here, jump, must}
use Rattle.xcf_walk.specs.Cursor.{WalksBy, Walks, outcome}
use Rattle.xcf_walk.proofs.Walks.{run_bind, run_here, run_done, ran_jump, got_not_refused}

-- a walk in two parts: the first gives a value, and the second goes on with it
pub then : {X A Y B : Type 0} {v : X → A} {u : Y → B} {w : Walk A} (k : A → Walk B) {c d e : Cursor} {x : X} {r : Result Y Refusal}
    → WalksBy v w c (Ok x) d → WalksBy u (k (v x)) d r e → WalksBy u (w >>= k) c r e
then {w = w} k {c = c} first rest = record {
  gives = run_bind w k c.file.now c.at ∙ rw (first.gives, ← first.file) rest.gives;
  file = rest.file ∙ first.file;
  stands = rest.stands;
}

-- or is refused, and so is the whole
pub stops : {X A Y B : Type 0} {v : X → A} {u : Y → B} {w : Walk A} (k : A → Walk B) {c d : Cursor} {e : Refusal} {r : Result Y Refusal}
    → WalksBy v w c (Err e) d → IsErrAnd r (λ x. x ≡ e) → WalksBy u (w >>= k) c r d
stops k {r = Ok x} first h = absurd h
stops {w = w} k {c = c} {r = Err x} first h = record { gives = run_bind w k c.file.now c.at ∙ rw (first.gives, h) refl; file = first.file; stands = rw h first.stands }

module _ {Y B : Type 0} {u : Y → B} {c e : Cursor} {r : Result Y Refusal} where
  -- the place
  pub then_here : (k : ℕ → Walk B) → WalksBy u (k c.at) c r e → WalksBy u (here >>= k) c r e
  then_here k rest = record { gives = run_here c.file.now c.at k ∙ rest.gives; file = rest.file; stands = rest.stands }

  -- a jump
  pub then_jump : (k : Unit {0} → Walk B) {d : Cursor} {p : ℕ} → d ≡ record { file = c.file; at = p } → WalksBy u (k tt) d r e → WalksBy u (jump p >>= k) c r e
  then_jump k {d} {p} s rest = record { gives = run_bind (jump p) k c.file.now c.at ∙ rw ran_jump (rw s at rest.gives); file = rw s at rest.file; stands = rest.stands }

  -- a test that is said in other words
  pub then_checked : (k : Unit {0} → Walk B) {t s : Bool} (n p : ℕ) {d : Cursor} → t ≡ s → Walks (must s n p) c (Ok tt) d → WalksBy u (k tt) d r e → WalksBy u (must t n p >>= k) c r e
  then_checked k n p h first rest = rw h (then k first rest)

  -- a test that holds
  pub then_held : (k : Unit {0} → Walk B) {t : Bool} (n p : ℕ) → t ≡ true → WalksBy u (k tt) c r e → WalksBy u (must t n p >>= k) c r e
  unfolding must
  then_held k n p h rest = rw h rest

-- and one that does not: the cursor goes to the place
pub fails : {Y B : Type 0} {u : Y → B} (k : Unit {0} → Walk B) {c d : Cursor} {t : Bool} {n : Reason} {p : ℕ} → t ≡ false → d ≡ record { file = c.file; at = p }
    → WalksBy u (must t (number_of n) p >>= k) c (Err (record { reason = n; place = p })) d
unfolding must run
fails k h e = record { gives = rw h refl; file = ap (λ (x : Cursor). x.file.now) e; stands = ap (λ (x : Cursor). x.at) e }

pub ends : {Y B : Type 0} {u : Y → B} {c : Cursor} {a : B} (y : Y) → a ≡ u y → WalksBy u (done a) c (Ok y) c
ends {u = u} {c = c} {a = a} y h = record { gives = run_done c.file.now c.at a ∙ ap (λ x. got x c.at) h; file = refl; stands = tt }

-- bytes that were handed out are all of their bytes
pub whole : {b : List ℕ} {n : ℕ} → length b ≡ n → part b 0 n ≡ b
whole {b} {n} h = take_all n b (omega arith)

-- the place of an outcome is where its cursor stands
abbrev place_of : {A : Type 0} → Outcome A → ℕ
place_of (got a at) = at
place_of (refused n at) = at

stood : {X A : Type 0} {view : X → A} {w : Walk A} {c d : Cursor} (r : Result X Refusal) → WalksBy view w c r d → place_of (outcome view r d.at) ≡ d.at
stood (Ok x) t = refl
stood (Err x) t = sym t.stands

-- what a walk gives from a cursor is one outcome and one cursor: one value with the place behind it, or one refusal with its place
pub walks_unique : {X A : Type 0} {view : X → A} {w : Walk A} {c d e : Cursor} {r s : Result X Refusal} → WalksBy view w c r d → WalksBy view w c s e
    → (outcome view r d.at ≡ outcome view s e.at) × (d.at ≡ e.at) × (d.file.now ≡ e.file.now)
walks_unique {r = r} {s = s} x y =
    let same = sym x.gives ∙ y.gives in
    (same, sym (stood r x) ∙ ap place_of same ∙ stood s y, x.file ∙ sym y.file)

-- and where the value is the walk's own, it is one result
pub walks_same : {A : Type 0} {w : Walk A} {c d e : Cursor} {r s : Result A Refusal} → Walks w c r d → Walks w c s e → (r ≡ s) × (d.at ≡ e.at) × (d.file.now ≡ e.file.now)
walks_same {d = d} {e = e} {r = r} {s = s} x y = let u = walks_unique x y in (one d.at e.at r s u.0, u.1, u.2)
  where
    refusal : {x y : Refusal} → x.reason ≡ y.reason → x.place ≡ y.place → x ≡ y
    refusal {x} {y} r p = ap (λ n. record { reason = n; place = x.place }) r ∙ ap (λ q. record { reason = y.reason; place = q }) p

    one : {A : Type 0} (p q : ℕ) (r s : Result A Refusal) → outcome (λ (x : A). x) r p ≡ outcome (λ x. x) s q → r ≡ s
    one p q (Ok x) (Ok y) h = cc
    one p q (Ok x) (Err y) h = absurd (got_not_refused h)
    one p q (Err x) (Ok y) h = absurd (got_not_refused (sym h))
    one p q (Err x) (Err y) h =
        let n : number_of x.reason ≡ number_of y.reason = cc in
        let place : x.place ≡ y.place = cc in
        ap Err (refusal (same_reason x.reason y.reason n) place)
