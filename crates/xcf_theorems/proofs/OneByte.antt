-- Two files that differ in one byte: they agree elsewhere (`elsewhere_same`), so that only there they differ (`differ_at`), and agree on
-- any places without that one (`agree_without`).
-- Assumes nothing.
use Prim.Native.Nat.{ℕ}
use mathlib.Core.Path.{◌≡◌, sym, subst, ◌∙◌}
use mathlib.Core.List.{List}
use lib.ListN.{get_or, set, length-set}
use lib.Seq.{get_or-set_other}
use Rattle.xcf_laws.proofs.Cases.{equal_unless}
use Rattle.xcf_isolation.specs.Kept.{Agree}

module _ (l : List ℕ) (i a b : ℕ) where
  elsewhere_same : (j : ℕ) → (j ≡ i → ⊥) → get_or (set l i a) j 0 ≡ get_or (set l i b) j 0
  elsewhere_same j other = get_or-set_other l i j a 0 other ∙ sym (get_or-set_other l i j b 0 other)

  pub differ_at : (j : ℕ) → (get_or (set l i a) j 0 ≡ get_or (set l i b) j 0 → ⊥) → j ≡ i
  differ_at j differs = equal_unless j i (λ other. differs (elsewhere_same j other))

  pub agree_without : (Places : ℕ → Type 0) → (Places i → ⊥) → Agree (set l i a) (set l i b) Places
  agree_without Places none = record {
    long = length-set l i a ∙ sym (length-set l i b);
    same = λ j p. elsewhere_same j (λ e. none (subst Places e p));
  }
