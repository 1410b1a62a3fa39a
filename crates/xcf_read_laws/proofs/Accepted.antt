-- The reader's number is 0 exactly where the walk gives an image (`accepted_exactly`): a refusal has a number of the list, and 0 is not
-- in it. Then the lent table and the file are no wrong size (`accepted_sized`), what the table held does not matter
-- (`accepted_any_table`), and the reading is the walk's (`read_walked`).
-- Assumes nothing.
use Prim.Native.Nat.{ℕ, ◌≤◌}
use mathlib.Core.Path.{◌≡◌, refl, sym, ◌∙◌, ap}
use mathlib.Core.List.{List}
use mathlib.Core.Bool.{false≢true}
use native.Mathlib.Omega.{arith}
use borrow.Author.Tests.{le-leb, leb-true, eq-eqb, eqb-true}
use lib.Dec.{leb, eqb}
use lib.ListN.{length}
use Rattle.std.proofs.lemmas.Bool.{cond_both}
use Rattle.xcf_numbers.specs.Limit.{file_limit, table_size}
use Rattle.xcf_numbers.specs.Listed.{listed}
use Rattle.xcf_walk.specs.Walk.{Outcome, got, refused, run}
use Rattle.xcf_read.specs.Image.{Image, image}
use Rattle.xcf_read.specs.Answer.{Reading, reading_of, reading}
use Rattle.xcf_read_laws.proofs.Numbers.{refusals_listed}

-- neither 11 nor 15
pub accepted_sized : (f lent : List ℕ) → (reading f lent).answer.number ≡ 0 → (length lent ≡ table_size) × (length f ≤ file_limit)
unfolding reading
accepted_sized f lent =
    cond_both (eqb (length lent) table_size) _ _ Says
    (λ e. cond_both (leb (length f) file_limit) _ _ Says (λ l _. (eqb-true _ _ e, leb-true _ _ l)) (λ _ n. absurd (omega arith)))
    (λ _ n. absurd (omega arith))
  where
    Says : Reading → Type 0
    Says x = x.answer.number ≡ 0 → (length lent ≡ table_size) × (length f ≤ file_limit)

-- then what the lent table held does not matter
pub accepted_any_table : (f lent other : List ℕ) → (reading f lent).answer.number ≡ 0 → length other ≡ table_size → reading f other ≡ reading f lent
unfolding reading
accepted_any_table f lent other accepted size =
    let s = accepted_sized f lent accepted in rw (eq-eqb _ _ size, eq-eqb _ _ s.0, le-leb _ _ s.1)

-- what a walk gives, a reading gives
pub read_walked : (f lent : List ℕ) {x : Image} {q : ℕ} → length lent ≡ table_size → length f ≤ file_limit → run image f 0 ≡ got x q
    → reading f lent ≡ reading_of (got x q)
unfolding reading
read_walked f lent size small e = rw (eq-eqb _ _ size, le-leb _ _ small, e)

module _ (f table : List ℕ) (size : length table ≡ table_size) (small : length f ≤ file_limit) where
  walked : (reading f table).answer.number ≡ (reading_of (run image f 0)).answer.number
  unfolding reading
  walked = rw (eq-eqb _ _ size, le-leb _ _ small)

  pub accepted_exactly : ((reading f table).answer.number ≡ 0 → (x : Image) × (q : ℕ) × (got x q ≡ run image f 0))
      × ((x : Image) (q : ℕ) → got x q ≡ run image f 0 → (reading f table).answer.number ≡ 0)
  unfolding listed
  accepted_exactly = (
    λ e. go (run image f 0) refl (sym walked ∙ e),
    λ x q e. walked ∙ ap (λ o. (reading_of o).answer.number) (sym e),
  )
    where
      go : (o : Outcome Image) → o ≡ run image f 0 → (reading_of o).answer.number ≡ 0 → (x : Image) × (q : ℕ) × (got x q ≡ run image f 0)
      go (got x q) e n = (x, q, e)
      go (refused m p) e n = absurd (false≢true (rw n at (refusals_listed f m p e)))
