-- How long an encoded stream can be (`bound`). A run is written in fewer bytes than it has. A copy takes one byte more than
-- it has, a long one three, and is followed by a run or the end. So 131 bytes add two at most, and the last copy three.
-- Assumes nothing.
use mathlib.Core.Path.{◌≡◌}
use mathlib.Core.List.{List, [], ◌∷◌, ◌++◌}
use mathlib.Core.Bool.{true, false}
use Prim.Native.Nat.{ℕ, ◌+◌, ◌-◌, ◌*◌, ◌/◌, ◌≤◌, ◌<◌, min}
use native.Mathlib.Omega.{arith}
use borrow.Author.Tests.{leb-false, le-leb}
use lib.ListN.{length, get_or, take, drop, length-append, length-drop}
use lib.Dec.{leb}
use Rattle.std.proofs.lemmas.Bool.{cond_both}
use Rattle.xcf_segment.specs.Segment.{equal_bytes, copied_bytes, run_of, copy_of, segment_bytes, encode_stream}
use Rattle.xcf_segment.proofs.Segments.{first, first_run, first_copy, copied_length, equal_inside, copied_inside, encode_nil, encode_cons, by_length}

run_size : (count value : ℕ) → 3 ≤ count → length (segment_bytes (run_of count value)) < count
unfolding segment_bytes
run_size count value h =
    cond_both (leb count 127) _ _ (λ l. length (l ++ (value ∷ [])) < count) (λ s. omega arith) (λ l. omega (arith, leb-false))

copy_size : (bytes : List ℕ) → length (segment_bytes (copy_of bytes)) ≤ length bytes + 1 + 2 * min 1 (length bytes / 128)
unfolding segment_bytes
copy_size bytes =
    cond_both (leb (length bytes) 127) _ _ (λ l. length (l ++ bytes) ≤ length bytes + 1 + 2 * min 1 (length bytes / 128))
    (λ s. omega arith) (λ l. omega (arith, leb-false))

-- a copy is followed by a run or the end
copied_then_run : (xs : List ℕ) → 0 < length (drop (copied_bytes xs) xs) → leb 3 (equal_bytes (drop (copied_bytes xs) xs)) ≡ true
unfolding copied_bytes
copied_then_run [] = λ h. absurd (omega arith)
copied_then_run (x ∷ xs) =
    cond_both (leb 3 (equal_bytes (x ∷ xs))) _ _ (λ n. 0 < length (drop n (x ∷ xs)) → leb 3 (equal_bytes (drop n (x ∷ xs))) ≡ true)
    (λ e _. e) (λ _. copied_then_run xs)

module _ (xs : List ℕ) where
  -- what a run and a copy add to the streams behind them
  size_run : 3 ≤ equal_bytes xs → length (encode_stream xs) < equal_bytes xs + length (encode_stream (drop (equal_bytes xs) xs))
  size_run many =
      rw (encode_cons xs (omega (arith, equal_inside xs)), first_run xs (le-leb _ _ many), length-append)
      (omega (arith, run_size (equal_bytes xs) (get_or xs 0 0) many))

  size_copy : 0 < length xs → leb 3 (equal_bytes xs) ≡ false → length (encode_stream xs) ≤ copied_bytes xs + 1 + 2 * min 1 (copied_bytes xs / 128) + length (encode_stream (drop (copied_bytes xs) xs))
  size_copy h e =
      rw (encode_cons xs h, first_copy xs e, length-append, copied_length)
      (omega (arith, rw copied_length at (copy_size (take (copied_bytes xs) xs))))

size_end : (xs : List ℕ) → (0 < length xs → leb 3 (equal_bytes xs) ≡ true) → leb 3 (equal_bytes xs) ≡ false → length (encode_stream xs) ≡ 0
size_end [] run e = rw encode_nil
size_end (x ∷ xs) run e = cc (run (omega arith))

abbrev Bounded : List ℕ → Type 0
Bounded xs = length (encode_stream xs) ≤ length xs + 3 + 2 * (length xs / 131)

-- a stream is bounded where all shorter ones are
module _ (xs : List ℕ) (h : 0 < length xs) (ih : (ys : List ℕ) → length ys < length xs → Bounded ys) where
  bound_run : 3 ≤ equal_bytes xs → Bounded xs
  bound_run many =
      let rest : List ℕ = drop (equal_bytes xs) xs in
      let left : length rest ≡ length xs - equal_bytes xs = length-drop (equal_bytes xs) xs in
      omega (arith, size_run xs many, equal_inside xs, ih rest (omega arith))

  bound_copy : leb 3 (equal_bytes xs) ≡ false → Bounded xs
  bound_copy e =
      let ys : List ℕ = drop (copied_bytes xs) xs in
      let left : length ys ≡ length xs - copied_bytes xs = length-drop (copied_bytes xs) xs in
      first (λ _. Bounded xs) ys
      (λ many.
      let zs : List ℕ = drop (equal_bytes ys) ys in
      let last : length zs ≡ length ys - equal_bytes ys = length-drop (equal_bytes ys) ys in
      omega (arith, size_copy xs h e, size_run ys many, copied_inside xs, equal_inside ys, ih zs (omega arith)))
      (λ f. omega (arith, size_copy xs h e, copied_inside xs, size_end ys (copied_then_run xs) f))

bound_step : (xs : List ℕ) → ((ys : List ℕ) → length ys < length xs → Bounded ys) → Bounded xs
bound_step [] ih = rw encode_nil (omega arith)
bound_step (x ∷ xs) ih = first (λ _. Bounded (x ∷ xs)) (x ∷ xs) (bound_run (x ∷ xs) (omega arith) ih) (bound_copy (x ∷ xs) (omega arith) ih)

pub bound : (xs : List ℕ) → length (encode_stream xs) ≤ length xs + 3 + 2 * (length xs / 131)
bound = by_length Bounded bound_step
