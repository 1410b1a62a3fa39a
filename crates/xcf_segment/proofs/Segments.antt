-- The laws of segments: an empty stream has none, and any other is its first segment and the segments of what is left.
--     first          what holds of a run and of a copy holds of the first segment
--     segments_nil, segments_cons, encode_nil, encode_cons    by: as much fuel as the stream is long is enough
--     by_length      strong induction on a stream's length
-- Assumes nothing.
use mathlib.Core.Path.{◌≡◌, refl, ap, ◌∙◌}
use mathlib.Core.List.{List, [], ◌∷◌, ◌++◌, flat_map}
use mathlib.Core.Bool.{true, false}
use Prim.Native.Nat.{ℕ, zero, suc, ◌≤◌, ◌<◌}
use native.Mathlib.Omega.{arith}
use borrow.Author.Tests.{eq-eqb, leb-true}
use lib.ListN.{length, get_or, take, drop, length-take, length-drop}
use lib.Dec.{leb, eqb}
use Rattle.std.proofs.lemmas.Bool.{cond_both}
use Rattle.xcf_segment.specs.Segment.{leading, equal_bytes, copied_bytes, Segment, run_of, copy_of, size_of, first_segment, segments_within, segments, segment_bytes, encode_stream}

pub leading_inside : (v : ℕ) (xs : List ℕ) → leading v xs ≤ length xs
unfolding leading
leading_inside v [] = omega arith
leading_inside v (x ∷ xs) =
    cond_both (eqb x v) _ _ (λ n. n ≤ suc (length xs)) (λ _. omega (arith, leading_inside v xs)) (λ _. omega arith)

pub equal_inside : (xs : List ℕ) → equal_bytes xs ≤ length xs
unfolding equal_bytes
equal_inside [] = omega arith
equal_inside (x ∷ xs) = omega (arith, leading_inside x xs)

-- the equal bytes are those that equal the first
equal_first : (xs : List ℕ) → 0 < length xs → leading (get_or xs 0 0) xs ≡ equal_bytes xs
unfolding leading equal_bytes
equal_first [] h = refl
equal_first (x ∷ xs) h = rw (eq-eqb x x refl)

pub copied_inside : (xs : List ℕ) → copied_bytes xs ≤ length xs
unfolding copied_bytes
copied_inside [] = omega arith
copied_inside (x ∷ xs) =
    cond_both (leb 3 (equal_bytes (x ∷ xs))) _ _ (λ n. n ≤ suc (length xs)) (λ _. omega arith) (λ _. omega (arith, copied_inside xs))

-- a copy has the bytes that it says
pub copied_length : (xs : List ℕ) → length (take (copied_bytes xs) xs) ≡ copied_bytes xs
copied_length xs = rw length-take (omega (arith, copied_inside xs))

-- where no three equal bytes start, a byte is copied
pub copied_some : (xs : List ℕ) → 0 < length xs → leb 3 (equal_bytes xs) ≡ false → 0 < copied_bytes xs
unfolding copied_bytes
copied_some [] h e = omega arith
copied_some (x ∷ xs) h e = rw e (omega arith)

pub first_run : (xs : List ℕ) → leb 3 (equal_bytes xs) ≡ true → first_segment xs ≡ run_of (equal_bytes xs) (get_or xs 0 0)
unfolding first_segment
first_run xs e = rw e

pub first_copy : (xs : List ℕ) → leb 3 (equal_bytes xs) ≡ false → first_segment xs ≡ copy_of (take (copied_bytes xs) xs)
unfolding first_segment
first_copy xs e = rw e

-- the first segment: a run or a copy
pub first : (P : Segment → Type 0) (xs : List ℕ) → (3 ≤ equal_bytes xs → P (run_of (equal_bytes xs) (get_or xs 0 0))) → (leb 3 (equal_bytes xs) ≡ false → P (copy_of (take (copied_bytes xs) xs))) → P (first_segment xs)
unfolding first_segment
first P xs f g = cond_both (leb 3 (equal_bytes xs)) _ _ P (λ e. f (leb-true _ _ e)) g

pub first_some : (xs : List ℕ) → 0 < length xs → 0 < size_of (first_segment xs)
first_some xs h =
    first (λ s. 0 < size_of s) xs (λ r. omega arith) (λ e. rw copied_length (copied_some xs h e))

pub first_inside : (xs : List ℕ) → size_of (first_segment xs) ≤ length xs
first_inside xs =
    first (λ s. size_of s ≤ length xs) xs (λ r. equal_inside xs) (λ e. rw copied_length (copied_inside xs))

-- what follows the first segment is shorter
pub rest_shorter : (xs : List ℕ) → 0 < length xs → length (drop (size_of (first_segment xs)) xs) < length xs
rest_shorter xs h = rw length-drop (omega (arith, first_some xs h))

-- enough fuel is enough
within_same : (f g : ℕ) (xs : List ℕ) → length xs ≤ f → length xs ≤ g → segments_within f xs ≡ segments_within g xs
unfolding segments_within
within_same zero zero xs p q = refl
within_same zero (suc g) [] p q = refl
within_same zero (suc g) (x ∷ xs) p q = absurd (omega arith)
within_same (suc f) zero [] p q = refl
within_same (suc f) zero (x ∷ xs) p q = absurd (omega arith)
within_same (suc f) (suc g) [] p q = refl
within_same (suc f) (suc g) (x ∷ xs) p q =
    let less : length (drop (size_of (first_segment (x ∷ xs))) (x ∷ xs)) < length (x ∷ xs) = rest_shorter (x ∷ xs) (omega arith) in
    ap (λ (r : List Segment). first_segment (x ∷ xs) ∷ r) (within_same f g _ (omega arith) (omega arith))

pub segments_nil : segments [] ≡ []
unfolding segments segments_within
segments_nil = refl

pub segments_cons : (xs : List ℕ) → 0 < length xs → segments xs ≡ first_segment xs ∷ segments (drop (size_of (first_segment xs)) xs)
unfolding segments segments_within
segments_cons [] h = absurd (omega arith)
segments_cons (x ∷ xs) h =
    let rest : List ℕ = drop (size_of (first_segment (x ∷ xs))) (x ∷ xs) in
    ap (λ (r : List Segment). first_segment (x ∷ xs) ∷ r)
    (within_same (length xs) (length rest) rest (omega (arith, rest_shorter (x ∷ xs) h)) (omega arith))

-- the segments of a stream that begins with a run of n bytes v, and of one that begins with n bytes that are copied
pub segments_run : (xs : List ℕ) (n v : ℕ) → 0 < length xs → leb 3 (equal_bytes xs) ≡ true → n ≡ leading v xs → v ≡ get_or xs 0 0 → segments xs ≡ run_of n v ∷ segments (drop n xs)
segments_run xs n v some e m w =
    let size : n ≡ equal_bytes xs = rw (m, w) (equal_first xs some) in
    segments_cons xs some ∙ rw (first_run xs e, size, w) refl

pub segments_copy : (xs : List ℕ) (n : ℕ) → 0 < length xs → leb 3 (equal_bytes xs) ≡ false → n ≡ copied_bytes xs → segments xs ≡ copy_of (take n xs) ∷ segments (drop n xs)
segments_copy xs n some e m = segments_cons xs some ∙ rw (first_copy xs e, copied_length, m) refl

pub encode_nil : encode_stream [] ≡ []
unfolding encode_stream flat_map
encode_nil = rw segments_nil

pub encode_cons : (xs : List ℕ) → 0 < length xs → encode_stream xs ≡ segment_bytes (first_segment xs) ++ encode_stream (drop (size_of (first_segment xs)) xs)
unfolding encode_stream flat_map
encode_cons xs h = rw (segments_cons xs h)

-- strong induction on a stream's length
by_length_within : (P : List ℕ → Type 0) → ((xs : List ℕ) → ((ys : List ℕ) → length ys < length xs → P ys) → P xs) → (n : ℕ) (xs : List ℕ) → length xs ≤ n → P xs
by_length_within P step zero xs h = step xs (λ ys l. absurd (omega arith))
by_length_within P step (suc n) xs h = step xs (λ ys l. by_length_within P step n ys (omega arith))

pub by_length : (P : List ℕ → Type 0) → ((xs : List ℕ) → ((ys : List ℕ) → length ys < length xs → P ys) → P xs) → (xs : List ℕ) → P xs
by_length P step xs = by_length_within P step (length xs) xs (omega arith)
