-- What a stream begins with: a count of equal bytes is std's `prefix_len`, three equal bytes are seen by the first three, and how a
-- scan for them goes on from place i, by what stands at i and by the bytes from i + 1 on.
-- Assumes nothing.
use mathlib.Core.Path.{◌≡◌, refl, sym, ap, ◌∙◌}
use mathlib.Core.List.{List, [], ◌∷◌}
use mathlib.Core.Bool.{Bool, true, false}
use Prim.Native.Nat.{ℕ, suc, ◌+◌, ◌≤◌, ◌<◌}
use native.Mathlib.Numerals.{add-one, one-add}
use native.Mathlib.Omega.{arith}
use borrow.Author.Tests.{eq-eqb, ne_eqb, le-leb, lt-leb, eqb-true, eqb-false}
use lib.ListN.{length, get_or, drop, length-drop, drop_of_length-le}
use lib.Seq.{drop-cons}
use lib.Dec.{leb, eqb}
use Rattle.std.specs.List.{prefix_len}
use Rattle.xcf_segment.specs.Segment.{leading, equal_bytes, copied_bytes}
use Rattle.xcf_segment.proofs.Segments.{equal_inside}

pub leading_prefix : (v : ℕ) (xs : List ℕ) → prefix_len (λ b. eqb b v) xs ≡ leading v xs
unfolding leading
leading_prefix v [] = refl
leading_prefix v (x ∷ xs) = rw (leading_prefix v xs, one-add)

module _ (s : List ℕ) (i : ℕ) where
  -- at the end there is none
  pub leading_end : (v : ℕ) → length s ≤ i → leading v (drop i s) ≡ 0
  unfolding leading
  leading_end v h = rw (drop_of_length-le s h)

module _ (s : List ℕ) (i : ℕ) (h : i < length s) where
  first_byte : drop i s ≡ get_or s i 0 ∷ drop (i + 1) s
  first_byte = rw add-one (drop-cons s i 0 h)

  -- one byte v more, or none
  pub leading_same : (v : ℕ) → get_or s i 0 ≡ v → leading v (drop i s) ≡ 1 + leading v (drop (i + 1) s)
  unfolding leading
  leading_same v e = rw (first_byte, eq-eqb _ _ e) (omega arith)

  pub leading_other : (v : ℕ) → (get_or s i 0 ≡ v → ⊥) → leading v (drop i s) ≡ 0
  unfolding leading
  leading_other v e = rw (first_byte, ne_eqb _ _ e)

  pub equal_leading : equal_bytes (drop i s) ≡ 1 + leading (get_or s i 0) (drop (i + 1) s)
  unfolding equal_bytes
  equal_leading = rw first_byte (omega arith)

  -- three equal bytes start here, or one byte more is copied
  copied_stop : leb 3 (equal_bytes (drop i s)) ≡ true → copied_bytes (drop i s) ≡ 0
  unfolding copied_bytes
  copied_stop e = rw (first_byte, rw first_byte at e)

  copied_more : leb 3 (equal_bytes (drop i s)) ≡ false → copied_bytes (drop i s) ≡ 1 + copied_bytes (drop (i + 1) s)
  unfolding copied_bytes
  copied_more e = rw (first_byte, rw first_byte at e) (omega arith)

-- whether three equal bytes start here: not where fewer are left, and not where the next byte is another; then the third says it
pub few_left : (s : List ℕ) → length s < 3 → leb 3 (equal_bytes s) ≡ false
few_left s l = lt-leb 3 (equal_bytes s) (omega (arith, equal_inside s))

module _ (s : List ℕ) (i : ℕ) (h : i + 1 < length s) where
  pub next_other : (get_or s i 0 ≡ get_or s (i + 1) 0 → ⊥) → leb 3 (equal_bytes (drop i s)) ≡ false
  next_other e = lt-leb 3 (equal_bytes (drop i s)) (omega (arith, equal_leading s i (omega arith), leading_other s (i + 1) h (get_or s i 0) (λ f. e (sym f))))

module _ (s : List ℕ) (i : ℕ) (h : i + 2 < length s) (e : get_or s i 0 ≡ get_or s (i + 1) 0) where
  two_first : equal_bytes (drop i s) ≡ 2 + leading (get_or s (i + 1) 0) (drop (i + 2) s)
  two_first =
      let g = leading_same s (i + 1) (omega arith) (get_or s (i + 1) 0) refl in
      let m : i + 1 + 1 ≡ i + 2 = omega arith in
      let l = equal_leading s i (omega arith) in
      omega (arith, rw e at l, rw m at g)

  by_third : (b : Bool) → eqb (get_or s (i + 1) 0) (get_or s (i + 2) 0) ≡ b → b ≡ leb 3 (equal_bytes (drop i s))
  by_third true t = sym (le-leb 3 (equal_bytes (drop i s)) (omega (arith, two_first, leading_same s (i + 2) h (get_or s (i + 1) 0) (sym (eqb-true _ _ t)))))
  by_third false t = sym (lt-leb 3 (equal_bytes (drop i s)) (omega (arith, two_first, leading_other s (i + 2) h (get_or s (i + 1) 0) (λ f. eqb-false _ _ t (sym f)))))

  pub third_says : eqb (get_or s (i + 1) 0) (get_or s (i + 2) 0) ≡ leb 3 (equal_bytes (drop i s))
  third_says = by_third _ refl

-- how many bytes are copied from here on, where three are left: none where they are equal, one more where the first two
-- differ, and two more where the second and the third do
module _ (s : List ℕ) (i : ℕ) (h : i + 2 < length s) where
  pub copied_none : get_or s (i + 1) 0 ≡ get_or s (i + 2) 0 → get_or s i 0 ≡ get_or s (i + 1) 0 → copied_bytes (drop i s) ≡ 0
  copied_none e f = copied_stop s i (omega arith) (sym (third_says s i h f) ∙ eq-eqb _ _ e)

  pub copied_one : (get_or s i 0 ≡ get_or s (i + 1) 0 → ⊥) → copied_bytes (drop i s) ≡ 1 + copied_bytes (drop (i + 1) s)
  copied_one e = copied_more s i (omega arith) (next_other s i (omega arith) e)

  none_here : (get_or s (i + 1) 0 ≡ get_or s (i + 2) 0 → ⊥) → (b : Bool) → eqb (get_or s i 0) (get_or s (i + 1) 0) ≡ b → leb 3 (equal_bytes (drop i s)) ≡ false
  none_here e true t = sym (third_says s i h (eqb-true _ _ t)) ∙ ne_eqb _ _ e
  none_here e false t = next_other s i (omega arith) (eqb-false _ _ t)

  pub copied_two : (get_or s (i + 1) 0 ≡ get_or s (i + 2) 0 → ⊥) → copied_bytes (drop i s) ≡ 2 + copied_bytes (drop (i + 2) s)
  copied_two e =
      let m : i + 1 + 1 ≡ i + 2 = omega arith in
      let g = copied_more s (i + 1) (omega arith) (next_other s (i + 1) (omega arith) (rw m e)) in
      omega (arith, copied_more s i (omega arith) (none_here e _ refl), rw m at g)

-- where fewer are left, all of them
copied_short : (xs : List ℕ) → length xs < 3 → copied_bytes xs ≡ length xs
unfolding copied_bytes
copied_short [] h = refl
copied_short (x ∷ xs) h = rw (few_left (x ∷ xs) h) (ap suc (copied_short xs (omega arith)))

pub copied_few : (s : List ℕ) (i : ℕ) → i ≤ length s → length s ≤ i + 2 → i + copied_bytes (drop i s) ≡ length s
copied_few s i h l =
    omega (arith, copied_short (drop i s) (omega (arith, length-drop i s)), length-drop i s)
