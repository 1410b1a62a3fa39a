-- A loop of turns under way, at a cursor: what is left of the loop gives what the whole gives. This holds at the start (`loop_starts`), a
-- turn that is followed by another keeps it (`loop_goes`), and the last turn gives the loop's value (`loop_ends`), as a refused one
-- refuses the loop (`loop_stops`).
-- Assumes nothing.
use Prim.Native.Nat.{ℕ, zero, suc, ◌+◌, ◌-◌, ◌≤◌, ◌<◌}
use mathlib.Core.Path.{◌≡◌, refl, sym, ◌∙◌}
use native.Mathlib.Omega.{arith}
use lib.ListN.{length}
use Rattle.std.specs.Prelude.{Result, Ok, Err}
use Rattle.std.specs.Result.{IsErrAnd}
use Rattle.xcf_numbers.specs.declared.reason.Refusal.{Refusal}
use Rattle.xcf_walk.specs.declared.cursor.Cursor.{Cursor}
use Rattle.xcf_walk.specs.Walk.{Walk, run, Turn, more, last, onward, turns, loop}
use Rattle.xcf_walk.specs.Cursor.{WalksBy}
use Rattle.xcf_walk.proofs.Walks.{run_bind, run_length, run_done}
use Rattle.xcf_walk.proofs.Advances.{Advances}

module _ {S A : Type 0} (body : S → Walk (Turn S A)) (c₀ : Cursor) (s₀ : S) where
  -- turns are left that give the whole; they are more than the bytes left
  pub record Left (c : Cursor) (s : S) : Type 0 where
    pub spare : ℕ
    pub gives : run (loop body s₀) c₀.file.now c₀.at ≡ run (turns (suc spare) body s) c.file.now c.at
    pub enough : length c.file.now < c.at + suc spare
    pub file : c.file.now ≡ c₀.file.now

pub loop_starts : {S A : Type 0} {body : S → Walk (Turn S A)} {c : Cursor} {s : S} → Left body c s c s
unfolding loop
loop_starts {body = body} {c = c} {s = s} = record {
  spare = length c.file.now;
  gives = run_length c.file.now c.at (λ n. turns (suc n) body s);
  enough = omega arith;
  file = refl;
}

module _ {S A : Type 0} {body : S → Walk (Turn S A)} {c₀ : Cursor} {s₀ : S} {c : Cursor} {s : S} (l : Left body c₀ s₀ c s) where
  -- what one more turn gives, and what follows it
  turned : {X : Type 0} {v : X → Turn S A} {x : X} {d : Cursor} → WalksBy v (body s) c (Ok x) d
      → run (loop body s₀) c₀.file.now c₀.at ≡ run (onward (turns l.spare body) (v x)) d.file.now d.at
  unfolding turns
  turned {d = d} t = l.gives ∙ run_bind (body s) (onward (turns l.spare body)) c.file.now c.at ∙ rw (t.gives, ← t.file) refl

  pub loop_goes : {X : Type 0} {v : X → Turn S A} {x : X} {d : Cursor} {t : S} → WalksBy v (body s) c (Ok x) d → v x ≡ more t
      → (c.at < d.at) × (d.at ≤ length c.file.now) → Left body c₀ s₀ d t
  loop_goes {v = v} {x = x} {d = d} {t = t} turn e moves = go l.spare l.enough (rw e at (turned turn))
    where
      go : (k : ℕ) → length c.file.now < c.at + suc k → run (loop body s₀) c₀.file.now c₀.at ≡ run (turns k body t) d.file.now d.at → Left body c₀ s₀ d t
      go zero h g = absurd (omega (arith, moves))
      go (suc k) h g = record { spare = k; gives = g; enough = rw turn.file (omega (arith, moves)); file = turn.file ∙ l.file }

  pub loop_ends : {X Y : Type 0} {v : X → Turn S A} {u : Y → A} {x : X} {d : Cursor} (y : Y) → WalksBy v (body s) c (Ok x) d → v x ≡ last (u y)
      → WalksBy u (loop body s₀) c₀ (Ok y) d
  loop_ends {u = u} {d = d} y turn e = record { gives = rw e at (turned turn) ∙ run_done d.file.now d.at (u y); file = turn.file ∙ l.file; stands = tt }

  pub loop_stops : {X Y : Type 0} {v : X → Turn S A} {u : Y → A} {x : Refusal} {d : Cursor} {r : Result Y Refusal} → WalksBy v (body s) c (Err x) d
      → IsErrAnd r (λ y. y ≡ x) → WalksBy u (loop body s₀) c₀ r d
  unfolding turns
  loop_stops {r = Ok y} turn h = absurd h
  loop_stops {r = Err y} turn h = record {
    gives = l.gives ∙ run_bind (body s) (onward (turns l.spare body)) c.file.now c.at ∙ rw (turn.gives, h) refl;
    file = turn.file ∙ l.file;
    stands = rw h turn.stands;
  }

-- a turn that passes over a byte has moved on in the file
pub moved : {X A : Type 0} {v : X → A} {w : Walk A} {c d : Cursor} {x : X} → Advances w → WalksBy v w c (Ok x) d → (c.at < d.at) × (d.at ≤ length c.file.now)
moved {v = v} {c = c} {d = d} {x = x} a t = a.passes c.file.now c.at (v x) d.at (sym t.gives)

-- and fewer bytes are left
pub left_falls : {X A : Type 0} {v : X → A} {w : Walk A} {c d : Cursor} {x : X} → Advances w → WalksBy v w c (Ok x) d → length d.file.now - d.at < length c.file.now - c.at
left_falls a t = let m = moved a t in rw t.file (omega (arith, m))
