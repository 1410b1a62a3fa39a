-- A range test passes exactly what is in its bounds (`within_bounds`, `bounds_within`), and so does the answer of `outside`; it fails
-- above and below them (`past`, `under`), as two tests of the sides say it (`either_side`, `neither_side`).
-- Assumes nothing.
use mathlib.Core.Path.{◌≡◌, refl, sym, ◌∙◌}
use mathlib.Core.Bool.{Bool, true, false, true≢false, not, ◌&&◌, ◌||◌, and-eq-true_iff}
use mathlib.Core.Logic.{◌⊎◌, inl, inr}
use Prim.Native.Nat.{ℕ, ◌≤◌, ◌<◌}
use borrow.Author.Tests.{le-leb, lt-leb, leb-true, leb-false, not-true, not-false, lt-ltb, le-ltb, ltb-true, ltb-false}
use lib.Dec.{leb, ltb}
use Rattle.xcf_range.specs.Range.{within}

negated : (t : Bool) (a b : ℕ) → leb a b ≡ t → not t ≡ ltb b a
negated true a b e = sym (le-ltb b a (leb-true a b e))
negated false a b e = sym (lt-ltb b a (leb-false a b e))

pub not_leb : (a b : ℕ) → not (leb a b) ≡ ltb b a
not_leb a b = negated (leb a b) a b refl

-- of an answer r of `outside`
module _ (low high x : ℕ) {r : Bool} (e : r ≡ not (within low high x)) where
  pub is_within : r ≡ false → within low high x ≡ true
  is_within f = not-false (within low high x) (sym e ∙ f)

  pub is_outside : r ≡ true → within low high x ≡ false
  is_outside f = not-true (within low high x) (sym e ∙ f)

module _ (low high x : ℕ) where
  pub within_bounds : within low high x ≡ true → (low ≤ x) × (x ≤ high)
  within_bounds e = let b = (and-eq-true_iff (leb low x) (leb x high)).0 e in (leb-true low x b.0, leb-true x high b.1)

  pub bounds_within : (low ≤ x) × (x ≤ high) → within low high x ≡ true
  bounds_within b = rw (le-leb low x b.0, le-leb x high b.1)

  pub past : high < x → within low high x ≡ false
  past h = go (leb low x)
    where
      go : (t : Bool) → t && leb x high ≡ false
      go true = lt-leb x high h
      go false = refl

  pub under : x < low → within low high x ≡ false
  under h = rw (lt-leb low x h)

  pub either_side : ltb x low || ltb high x ≡ true → (x < low) ⊎ (high < x)
  either_side = go (ltb x low) refl
    where
      go : (t : Bool) → ltb x low ≡ t → t || ltb high x ≡ true → (x < low) ⊎ (high < x)
      go true e h = inl (ltb-true x low e)
      go false e h = inr (ltb-true high x h)

  pub neither_side : ltb x low || ltb high x ≡ false → (low ≤ x) × (x ≤ high)
  neither_side = go (ltb x low) refl
    where
      go : (t : Bool) → ltb x low ≡ t → t || ltb high x ≡ false → (low ≤ x) × (x ≤ high)
      go true e h = absurd (true≢false h)
      go false e h = (ltb-false x low e, ltb-false high x h)
