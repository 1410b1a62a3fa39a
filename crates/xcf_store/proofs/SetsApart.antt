-- Two runs of stores at places apart commute (`sets_apart`), by induction over both; so two stores here and there, and the next two
-- behind them, are one here and one there (`stores_next`).
-- Assumes nothing.
use Prim.Native.Nat.{ℕ, suc, ◌+◌, ◌≤◌, ◌<◌}
use mathlib.Core.Path.{◌≡◌, refl, ap, ◌∙◌}
use mathlib.Core.List.{List, [], ◌∷◌, ◌++◌}
use native.Mathlib.Omega.{arith}
use lib.ListN.{length, set}
use lib.Seq.{sets, set_comm}
use Rattle.xcf_store.proofs.Stores.{sets_append}

-- a run behind one store
set_apart : (l : List ℕ) (a x b : ℕ) (ys : List ℕ) → a < b → set (sets l b ys) a x ≡ sets (set l a x) b ys
set_apart l a x b [] h = refl
set_apart l a x b (y ∷ ys) h =
    set_apart (set l b y) a x (suc b) ys (omega (arith, h))
    ∙ ap (λ (m : List ℕ). sets m (suc b) ys) (set_comm l b a y x (λ e. omega (arith, e, h)))

pub sets_apart : (l : List ℕ) (a : ℕ) (xs : List ℕ) (b : ℕ) (ys : List ℕ) → a + length xs ≤ b
    → sets (sets l b ys) a xs ≡ sets (sets l a xs) b ys
sets_apart l a [] b ys h = refl
sets_apart l a (x ∷ xs) b ys h =
    ap (λ (m : List ℕ). sets m (suc a) xs) (set_apart l a x b ys (omega (arith, h)))
    ∙ sets_apart (set l a x) (suc a) xs b ys (omega (arith, h))

pub stores_next : (l : List ℕ) (a : ℕ) (xs xs' : List ℕ) (b : ℕ) (ys ys' : List ℕ) → a + length xs + length xs' ≤ b
    → sets (sets (sets (sets l a xs) b ys) (a + length xs) xs') (b + length ys) ys' ≡ sets (sets l a (xs ++ xs')) b (ys ++ ys')
stores_next l a xs xs' b ys ys' h =
    rw (
      sets_apart (sets l a xs) (a + length xs) xs' b ys h,
      sets_append l a xs xs',
      sets_append (sets (sets l a xs) (a + length xs) xs') b ys ys',
    )
