-- The parts of a hierarchy: a word that agrees passes over bytes of the file (`advances_agrees`), and so does a further pointer
-- (`advances_rest_turn`), which is a turn of their loop (`rest_turned`, `rest_refused`).
-- Assumes nothing.
use Prim.Native.Nat.{ℕ, ◌≤◌}
use mathlib.Core.Path.{refl}
use mathlib.Core.Bool.{cond}
use lib.Dec.{eqb}
use Rattle.std.specs.Prelude.{Result, Ok, Err}
use Rattle.xcf_numbers.specs.declared.reason.Refusal.{Refusal}
use Rattle.xcf_walk.specs.declared.cursor.Cursor.{Cursor}
use Rattle.xcf_walk.specs.Walk.{here, Turn, more, last}
use Rattle.xcf_walk.specs.Cursor.{WalksBy, Walks}
use Rattle.xcf_walk.proofs.Steps.{then, stops, ends}
use Rattle.xcf_walk.specs.Fields.{number, word}
use Rattle.xcf_walk.proofs.Straight.{Straight, straight_bind, straight_done, straight_here, straight_word, straight_number, straight_must}
use Rattle.xcf_walk.proofs.Advances.{Advances, advances_next, advances_first, advances_number, advances_word}
use Rattle.xcf_parse.specs.Hierarchy.{agrees, rest_turn}

straight_agrees : (v : ℕ) → Straight (agrees v)
unfolding agrees
straight_agrees v = straight_bind _ straight_here λ at. straight_bind _ straight_word λ n. straight_must _ _ _

pub advances_agrees : (v : ℕ) → Advances (agrees v)
unfolding agrees
advances_agrees v = advances_next here _ (straight_agrees v) λ at r. advances_first word _ r advances_word

pub advances_rest_turn : (size : ℕ) → 1 ≤ size → Advances (rest_turn size tt)
unfolding rest_turn
advances_rest_turn size some = advances_first (number size) _ (straight_bind _ (straight_number size) (λ p. straight_done)) (advances_number size some)

-- a number is a turn over the further pointers, and 0 the last
abbrev pub rest_turns : ℕ → Turn (Unit {0}) (Unit {0})
rest_turns p = cond (eqb p 0) (last tt) (more tt)

module _ (size : ℕ) {c d : Cursor} where
  pub rest_turned : {p : ℕ} → Walks (number size) c (Ok p) d → WalksBy rest_turns (rest_turn size tt) c (Ok p) d
  unfolding rest_turn
  rest_turned t = then _ t (ends _ refl)

  pub rest_refused : {e : Refusal} → Walks (number size) c (Err e) d → WalksBy rest_turns (rest_turn size tt) c (Err e) d
  unfolding rest_turn
  rest_refused t = stops _ t refl

  -- so a turn gives what its pointer gives
  pub rest_turn_lem : {r : Result ℕ Refusal} → Walks (number size) c r d → WalksBy rest_turns (rest_turn size tt) c r d
  rest_turn_lem {r = Ok p} t = rest_turned t
  rest_turn_lem {r = Err e} t = rest_refused t
