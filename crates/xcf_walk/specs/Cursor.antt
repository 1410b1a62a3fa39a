-- What a method that reads from a cursor promises: its walk, taken up at the cursor's place.
use Rattle.std.specs.Prelude.{ℕ, ◌≡◌, List, Result, Ok, Err, IfErr}
use Rattle.xcf_numbers.specs.declared.reason.Refusal.{Refusal}
use Rattle.xcf_numbers.specs.Reason.{number_of}
use Rattle.xcf_walk.specs.declared.cursor.Cursor.{Cursor}
use Rattle.xcf_walk.specs.Walk.{Outcome, got, refused, Walk, run}

-- a value, seen by view, and the place behind it; or a refusal's number and place
abbrev pub outcome : {X A : Type 0} → (X → A) → Result X Refusal → ℕ → Outcome A
outcome view (Ok x) at = got (view x) at
outcome view (Err e) at = refused (number_of e.reason) e.place

-- from the cursor c the walk w gives the result r, seen by view; the cursor d stands in the same file: behind a value, and at the place of a refusal
pub record WalksBy {X A : Type 0} (view : X → A) (w : Walk A) (c : Cursor) (r : Result X Refusal) (d : Cursor) : Type 0 where
  pub gives : run w c.file.now c.at ≡ outcome view r d.at
  pub file : d.file.now ≡ c.file.now
  pub stands : IfErr r (λ e. d.at ≡ e.place)

-- the same where the value is the walk's own
abbrev pub Walks : {A : Type 0} → Walk A → Cursor → Result A Refusal → Cursor → Type 0
Walks {A} w c r d = WalksBy (λ (x : A). x) w c r d

-- a walk that asks for nothing, and moves nothing, gives the result wherever it is taken up
abbrev pub Gives : {A : Type 0} → Walk A → Result A Refusal → Type 0
Gives {A} w r = (f : List ℕ) (at : ℕ) → run w f at ≡ outcome (λ (x : A). x) r at
