-- A walk over a file that gives a value and ends at a place (`ReadsTo`): its laws follow a do block step by step, over bytes that
-- stand in the file.
-- Assumes nothing.
use Prim.Native.Nat.{ℕ, ◌+◌}
use mathlib.Core.Path.{◌≡◌, refl, ◌∙◌}
use mathlib.Core.List.{List}
use mathlib.Core.Bool.{Bool, true}
use borrow.Author.Tests.{le-leb}
use lib.ListN.{length}
use Rattle.xcf_walk.specs.Walk.{Walk, got, done, bytes, here, file_length, jump, must, run, ◌>>=◌}
use Rattle.xcf_walk.proofs.Walks.{run_bind, run_here, run_length}
use Rattle.xcf_round_trip.proofs.Parts.{Stands, Gives}

-- a walk from the place p on gives the value a and ends at q
pub record ReadsTo {A : Type 0} (w : Walk A) (f : List ℕ) (p : ℕ) (a : A) (q : ℕ) : Type 0 where
  pub runs : run w f p ≡ got a q

module _ {A : Type 0} {w : Walk A} {f : List ℕ} {p : ℕ} {a : A} where
  pub reads_gives : {q : ℕ} → ReadsTo w f p a q → Gives w f p a
  reads_gives {q} x = record { end = q; gives = x.runs }

  pub gives_reads : (x : Gives w f p a) → ReadsTo w f p a x.end
  gives_reads x = record { runs = x.gives }

-- the steps of a do block
module _ {A : Type 0} {f : List ℕ} {p : ℕ} {a : A} {q : ℕ} where
  pub then : {B : Type 0} {b : B} {e : ℕ} {w : Walk A} (k : A → Walk B) → ReadsTo w f p a q → ReadsTo (k a) f q b e
      → ReadsTo (w >>= k) f p b e
  then {w = w} k first next = record { runs = (rw first.runs at (run_bind w k f p)) ∙ next.runs }

  pub then_here : (k : ℕ → Walk A) → ReadsTo (k p) f p a q → ReadsTo (here >>= k) f p a q
  then_here k next = record { runs = run_here f p k ∙ next.runs }

  pub then_length : (k : ℕ → Walk A) → ReadsTo (k (length f)) f p a q → ReadsTo (file_length >>= k) f p a q
  then_length k next = record { runs = run_length f p k ∙ next.runs }

pub ends : {A : Type 0} {f : List ℕ} {p : ℕ} {a : A} → ReadsTo (done a) f p a p
unfolding run
ends = record { runs = refl }

pub ends_as : {A : Type 0} {f : List ℕ} {p : ℕ} {a b : A} → a ≡ b → ReadsTo (done a) f p b p
ends_as e = rw (← e) ends

pub reads_bytes : {f : List ℕ} {p : ℕ} (bs : List ℕ) → Stands f p bs → ReadsTo (bytes (length bs)) f p bs (p + length bs)
unfolding run bytes
reads_bytes bs s = record { runs = rw (le-leb _ _ s.inside, s.same) }

pub reads_must : {f : List ℕ} {p : ℕ} (t : Bool) (n at : ℕ) → t ≡ true → ReadsTo (must t n at) f p tt p
unfolding run must
reads_must t n at e = rw e (record { runs = refl })

pub reads_jump : {f : List ℕ} {p : ℕ} (q : ℕ) → ReadsTo (jump q) f p tt q
unfolding run jump
reads_jump q = record { runs = refl }
