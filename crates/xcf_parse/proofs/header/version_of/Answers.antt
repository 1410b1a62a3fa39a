-- `version_of` meets its contract: no tag before the loop's is the one. A tag that is stands where the search of the tags finds it
-- (`found`), and behind one that is not the search goes on (`goes_on`).
use Prim.Native.Nat.{ℕ, zero, suc, ◌+◌, ◌<◌}
use mathlib.Core.Path.{◌≡◌, refl, sym, ◌∙◌}
use mathlib.Core.List.{List, [], ◌∷◌}
use mathlib.Core.Bool.{true, false}
use native.Mathlib.Omega.{arith}
use borrow.Author.Tests.{lt-ltb}
use lib.Dec.{ltb}
use lib.ListN.{get_or, drop}
use Rattle.xcf_parse.specs.Header.{same, versions, tags, place_in}
use Rattle.xcf_parse.proofs.header.version_of.Goals as goal

abbrev pair : ℕ → List ℕ × ℕ
pair i = (get_or tags i [], get_or versions i 0)

abbrev pairs : List (List ℕ × ℕ)
pairs = pair 0 ∷ pair 1 ∷ pair 2 ∷ pair 3 ∷ pair 4 ∷ []

-- the tags from one on
tags_from : (i : ℕ) → i < 5 → drop i tags ≡ (get_or pairs i ([], 0)).0 ∷ drop (i + 1) tags
tags_from zero h = refl
tags_from (suc zero) h = refl
tags_from (suc (suc zero)) h = refl
tags_from (suc (suc (suc zero))) h = refl
tags_from (suc (suc (suc (suc zero)))) h = refl
tags_from (suc (suc (suc (suc (suc i))))) h = absurd (omega arith)

version_at : (i : ℕ) → i < 5 → get_or versions i 0 ≡ (get_or pairs i ([], 0)).1
version_at zero h = refl
version_at (suc zero) h = refl
version_at (suc (suc zero)) h = refl
version_at (suc (suc (suc zero))) h = refl
version_at (suc (suc (suc (suc zero)))) h = refl
version_at (suc (suc (suc (suc (suc i))))) h = absurd (omega arith)

first : (t tag : List ℕ) (ts : List (List ℕ)) → same tag t ≡ true → place_in (t ∷ ts) tag ≡ 0
unfolding place_in
first t tag ts e = rw e refl

next : (t tag : List ℕ) (ts : List (List ℕ)) → same tag t ≡ false → place_in (t ∷ ts) tag ≡ suc (place_in ts tag)
unfolding place_in
next t tag ts e = rw e refl

found : (i : ℕ) (tag : List ℕ) {p : ℕ} → i < 5 → same tag (get_or pairs i ([], 0)).0 ≡ true → place_in (drop i tags) tag + i ≡ p
    → (ltb p 5 ≡ true) × (get_or versions p 0 ≡ (get_or pairs i ([], 0)).1)
found i tag {p} h e inv =
    let read : 0 + i ≡ p = rw (tags_from i h, first _ _ _ e) at inv in
    let here : i ≡ p = omega arith in
    rw (← here) (lt-ltb i 5 h, version_at i h)

goes_on : (i : ℕ) (tag : List ℕ) {p : ℕ} → i < 5 → same tag (get_or pairs i ([], 0)).0 ≡ false → place_in (drop i tags) tag + i ≡ p
    → place_in (drop (i + 1) tags) tag + (i + 1) ≡ p
goes_on i tag {p} h e inv =
    let on : suc (place_in (drop (i + 1) tags) tag) + i ≡ p = rw (tags_from i h, next _ _ _ e) at inv in omega arith

pub returns-then-same : goal.returns-then-same
returns-then-same c = found _ _ c.loop-known-test.true (sym c.same.ensures ∙ c.if-same.true) c.loop-known.invariant

pub loop-known-preserved : goal.loop-known-preserved
loop-known-preserved c = goes_on _ _ c.loop-known-test.true (sym c.same.ensures ∙ c.if-same.false) c.loop-known.invariant
