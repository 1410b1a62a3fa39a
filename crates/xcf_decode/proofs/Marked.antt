-- Counting the marks that are not zero, as a loop does: one mark more adds one to the count, or none where it is zero
-- (`nonzero_more`; of a function's values, `nonzero_next_good` and `nonzero_next_bad`), and there are no more than marks
-- (`nonzero_few`, `nonzero_below`).
-- Assumes nothing.
use Prim.Native.Nat.{ℕ, suc, ◌+◌, ◌≤◌}
use mathlib.Core.Path.{◌≡◌, refl, ◌∙◌}
use mathlib.Core.List.{List, [], ◌∷◌, ◌++◌}
use mathlib.Core.Bool.{Bool, true, false, cond}
use native.Mathlib.Nat.{zero-add, add-zero}
use native.Mathlib.Omega.{arith}
use lib.Dec.{eqb}
use lib.ListN.{length}
use borrow.Author.Tests.{eq-eqb, ne_eqb}
use Rattle.xcf_decode.specs.Answer.{nonzero}
use Rattle.xcf_grid.specs.Pixels.{tabulate}
use Rattle.xcf_grid.proofs.Tabulated.{tabulate_length, tabulate_more}

-- what a mark adds
abbrev adds : ℕ → ℕ
adds m = cond (eqb m 0) 0 1

adds_few : (m : ℕ) → adds m ≤ 1
adds_few m = go (eqb m 0)
  where
    go : (b : Bool) → cond b 0 1 ≤ 1
    go true = omega arith
    go false = omega arith

nonzero_first : (m : ℕ) (ms : List ℕ) → nonzero (m ∷ ms) ≡ nonzero ms + adds m
unfolding nonzero
nonzero_first m ms = go (eqb m 0)
  where
    go : (b : Bool) → cond b (nonzero ms) (nonzero ms + 1) ≡ nonzero ms + cond b 0 1
    go true = omega arith
    go false = refl

nonzero_more : (ms : List ℕ) (m : ℕ) → nonzero (ms ++ (m ∷ [])) ≡ nonzero ms + adds m
nonzero_more [] m = nonzero_first m []
nonzero_more (a ∷ ms) m = omega (arith, nonzero_first a (ms ++ (m ∷ [])), nonzero_first a ms, nonzero_more ms m)

nonzero_few : (ms : List ℕ) → nonzero ms ≤ length ms
unfolding nonzero
nonzero_few [] = omega arith
nonzero_few (m ∷ ms) = omega (arith, nonzero_first m ms, adds_few m, nonzero_few ms)

-- a loop's count of the first t marks, taken one mark further
nonzero_next : (t : ℕ) (f : ℕ → ℕ) → nonzero (tabulate (t + 1) 0 f) ≡ nonzero (tabulate t 0 f) + adds (f t)
nonzero_next t f =
    let e : t + 1 ≡ suc t = omega arith in
    rw (e, tabulate_more t 0 f, zero-add t) (nonzero_more (tabulate t 0 f) (f t))

pub nonzero_next_good : (t : ℕ) (f : ℕ → ℕ) → f t ≡ 0 → nonzero (tabulate (t + 1) 0 f) ≡ nonzero (tabulate t 0 f)
nonzero_next_good t f good = nonzero_next t f ∙ rw (eq-eqb (f t) 0 good) (add-zero (nonzero (tabulate t 0 f)))

pub nonzero_next_bad : (t : ℕ) (f : ℕ → ℕ) → (f t ≡ 0 → ⊥) → nonzero (tabulate (t + 1) 0 f) ≡ nonzero (tabulate t 0 f) + 1
nonzero_next_bad t f bad = nonzero_next t f ∙ rw (ne_eqb (f t) 0 bad) refl

pub nonzero_below : (t : ℕ) (f : ℕ → ℕ) → nonzero (tabulate t 0 f) ≤ t
nonzero_below t f = rw (tabulate_length t 0 f) at (nonzero_few (tabulate t 0 f))
