-- Whether a walk passes over a byte, as a test that computes (`passes`): a byte that fails it is not passed over (`not_passed`). By
-- induction over the walk.
-- Assumes nothing.
use Prim.Native.Nat.{ℕ, ◌+◌}
use mathlib.Core.Path.{◌≡◌, sym, ◌∙◌}
use mathlib.Core.List.{List}
use mathlib.Core.Bool.{Bool, true, false, ◌&&◌, ◌||◌, or-true, true≢false}
use mathlib.Core.Logic.{⊎_elim}
use borrow.Author.Tests.{le-leb, lt-ltb}
use lib.Dec.{leb, ltb}
use lib.ListN.{length}
use Rattle.xcf_walk.specs.Walk.{Walk, done, refuse, pass, ask, move, PassedOver}
use Rattle.xcf_store.specs.Word.{part}

unfoldable pub passes : {A : Type 0} → Walk A → List ℕ → ℕ → ℕ → Bool
passes (done a) f at i = false
passes (refuse n p) f at i = false
passes (pass n h) f at i = leb (at + n) (length f) && ((leb at i && ltb i (at + n)) || passes (h (part f at n)) f (at + n) i)
passes (ask h) f at i = passes (h at (length f)) f at i
passes (move p w) f at i = passes w f p i

passed_passes : {A : Type 0} (w : Walk A) (f : List ℕ) (at i : ℕ) → PassedOver w f at i → passes w f at i ≡ true
unfolding passes PassedOver
passed_passes (done a) f at i p = absurd p
passed_passes (refuse n q) f at i p = absurd p
passed_passes (pass n h) f at i p =
    rw (le-leb _ _ p.0)
    (⊎_elim (λ here. rw (le-leb _ _ here.0, lt-ltb _ _ here.1)) (λ later. rw (passed_passes (h (part f at n)) f (at + n) i later, or-true)) p.1)
passed_passes (ask h) f at i p = passed_passes (h at (length f)) f at i p
passed_passes (move q w) f at i p = passed_passes w f q i p

pub not_passed : {A : Type 0} (w : Walk A) (f : List ℕ) (at i : ℕ) → passes w f at i ≡ false → PassedOver w f at i → ⊥
not_passed w f at i e p = true≢false (sym (passed_passes w f at i p) ∙ e)
