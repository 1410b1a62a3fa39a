-- What was encoded is read back: the decoder reads each segment's operation and gives the segment's bytes (`segment_read_lem`),
-- and these together are the stream's (`stream_read_back`, by induction on the stream's length).
-- Assumes nothing.
use mathlib.Core.Path.{◌≡◌, refl, ap}
use mathlib.Core.List.{List, [], ◌∷◌, ◌++◌, append_assoc}
use mathlib.Core.Bool.{false}
use Prim.Native.Nat.{ℕ, suc, ◌+◌, ◌-◌, ◌*◌, ◌/◌, ◌%◌, ◌≤◌, ◌<◌}
use native.Mathlib.Nat.{add-zero, add_assoc, div-add-mod'}
use native.Mathlib.Numerals.{one-add}
use native.Mathlib.Omega.{arith}
use borrow.Author.Tests.{leb-true, lt-leb, lt-ltb, le-ltb, eqb-true}
use lib.ListN.{length, get_or, take, drop, replicate, length-append, length-replicate, length-drop, take-append-drop}
use lib.Seq.{get_or-append_seam, get_or-append-add, drop-append-add, drop-append_seam, take-append_seam}
use lib.Dec.{leb, ltb, eqb}
use Rattle.std.proofs.lemmas.Bool.{cond_both}
use Rattle.xcf_operation.specs.Operation.{run_head, copy_head, pair, head_at, head_of, Operation, gives, unless_fails, operation_at, operation_of}
use Rattle.xcf_stream.specs.Stream.{adds, stream_from, stream_at}
use Rattle.xcf_stream.proofs.StreamLaws.{stream_done, stream_op}
use Rattle.xcf_segment.specs.Segment.{leading, equal_bytes, Segment, run_of, copy_of, size_of, first_segment, head_bytes, segments, segment_bytes, encode_stream}
use Rattle.xcf_segment.proofs.Segments.{first, copied_length, first_some, first_inside, segments_nil, segments_cons, encode_nil, encode_cons, rest_shorter, by_length}

-- what a segment stands for
abbrev pub bytes_of : Segment → List ℕ
bytes_of (run_of count value) = replicate count value
bytes_of (copy_of bytes) = bytes

leading_bytes : (v : ℕ) (xs : List ℕ) → replicate (leading v xs) v ≡ take (leading v xs) xs
unfolding leading
leading_bytes v [] = refl
leading_bytes v (x ∷ xs) =
    cond_both (eqb x v) _ _ (λ n. replicate n v ≡ take n (x ∷ xs))
    (λ e. cc (leading_bytes v xs, eqb-true x v e)) (λ _. refl)

-- a run of the equal bytes is what stands there
pub equal_bytes_lem : (xs : List ℕ) → replicate (equal_bytes xs) (get_or xs 0 0) ≡ take (equal_bytes xs) xs
unfolding equal_bytes
equal_bytes_lem [] = refl
equal_bytes_lem (x ∷ xs) = ap (λ (l : List ℕ). x ∷ l) (leading_bytes x xs)

-- the first segment's bytes come first
pub first_bytes : (xs : List ℕ) → bytes_of (first_segment xs) ≡ take (size_of (first_segment xs)) xs
first_bytes xs = first (λ s. bytes_of s ≡ take (size_of s) xs) xs (λ _. equal_bytes_lem xs) (λ _. rw copied_length)

-- opcode and length bytes as they are read
module _ (a z : List ℕ) where
  present : (n : ℕ) (l : List ℕ) → leb (length (a ++ (n ∷ l))) (length a) ≡ false
  present n l = rw length-append (lt-leb (length a + suc (length l)) (length a) (omega arith))

  short_run : (n : ℕ) → n < 127 → head_at (a ++ (n ∷ z)) (length a) ≡ run_head (n + 1) (length a + 1)
  unfolding head_at head_of
  short_run n h = simp (present, get_or-append_seam, lt-ltb _ _ h)

  short_copy : (n : ℕ) → 128 < n → head_at (a ++ (n ∷ z)) (length a) ≡ copy_head (256 - n) (length a + 1)
  unfolding head_at head_of
  short_copy n h = simp (present, get_or-append_seam, le-ltb n 127 (omega arith), lt-ltb _ _ h)

  -- an opcode and two length bytes
  whole : (n p q : ℕ) → ltb (length (a ++ (n ∷ p ∷ q ∷ z))) (length a + 3) ≡ false
  whole n p q = rw length-append (le-ltb (length a + suc (suc (suc (length z)))) (length a + 3) (omega arith))

  two_bytes : (n p q : ℕ) → pair (a ++ (n ∷ p ∷ q ∷ z)) (length a + 1) ≡ p * 256 + q
  two_bytes n p q = let further : length a + 1 + 1 ≡ length a + 2 = omega arith in simp (further, get_or-append-add)

  long_run : (count : ℕ) → head_at (a ++ (127 ∷ count / 256 ∷ count % 256 ∷ z)) (length a) ≡ run_head count (length a + 3)
  unfolding head_at head_of
  long_run count = simp (present, get_or-append_seam, whole, two_bytes, div-add-mod')

  long_copy : (count : ℕ) → head_at (a ++ (128 ∷ count / 256 ∷ count % 256 ∷ z)) (length a) ≡ copy_head count (length a + 3)
  unfolding head_at head_of
  long_copy count = simp (present, get_or-append_seam, whole, two_bytes, div-add-mod')

  -- short or long
  run_head_lem : (count : ℕ) → 0 < count → head_at (a ++ (head_bytes count (count - 1) 127 ++ z)) (length a) ≡ run_head count (length a + length (head_bytes count (count - 1) 127))
  run_head_lem count h =
      cond_both (leb count 127) _ _ (λ l. head_at (a ++ (l ++ z)) (length a) ≡ run_head count (length a + length l))
      (λ s.
      let back : count - 1 + 1 ≡ count = omega arith in
      rw back at (short_run (count - 1) (omega (arith, leb-true))))
      (λ _. long_run count)

  copy_head_lem : (count : ℕ) → 0 < count → head_at (a ++ (head_bytes count (256 - count) 128 ++ z)) (length a) ≡ copy_head count (length a + length (head_bytes count (256 - count) 128))
  copy_head_lem count h =
      cond_both (leb count 127) _ _ (λ l. head_at (a ++ (l ++ z)) (length a) ≡ copy_head count (length a + length l))
      (λ s.
      let back : 256 - (256 - count) ≡ count = omega (arith, leb-true) in
      rw back at (short_copy (256 - count) (omega (arith, leb-true))))
      (λ _. long_copy count)

-- the operation with the data d behind the head h
module _ (a h d z : List ℕ) where
  carried_out : (left count : ℕ) (o : Operation) → count ≤ left → unless_fails (a ++ (h ++ (d ++ z))) left count (length a + length h) (length d) o ≡ o
  carried_out left count o room =
      simp (
        le-ltb left count room,
        length-append,
        le-ltb (length a + (length h + (length d + length z))) (length a + length h + length d) (omega arith),
      )

  copied : take (length d) (drop (length a + length h) (a ++ (h ++ (d ++ z)))) ≡ d
  copied = simp (drop-append-add, drop-append_seam, take-append_seam)

bytes_size : (s : Segment) → length (bytes_of s) ≡ size_of s
bytes_size (run_of count value) = length-replicate count value
bytes_size (copy_of bytes) = refl

-- a segment's operation gives its bytes
module _ (a z : List ℕ) (left : ℕ) where
  operation_read_lem : (s : Segment) → 0 < size_of s → size_of s ≤ left → operation_at (a ++ (segment_bytes s ++ z)) (length a) left ≡ gives (bytes_of s) (length a + length (segment_bytes s))
  unfolding operation_at operation_of segment_bytes
  operation_read_lem (run_of count value) some room =
      let h : List ℕ = head_bytes count (count - 1) 127 in
      rw (
        append_assoc,
        run_head_lem a (value ∷ z) count some,
        carried_out a h (value ∷ []) z left count _ room,
        get_or-append-add,
        get_or-append_seam,
        length-append,
        add_assoc,
      )
  operation_read_lem (copy_of bytes) some room =
      let h : List ℕ = head_bytes (length bytes) (256 - length bytes) 128 in
      rw (
        append_assoc,
        copy_head_lem a (bytes ++ z) (length bytes) some,
        carried_out a h bytes z left (length bytes) _ room,
        copied a h bytes z,
        length-append,
        add_assoc,
      )

  segment_read_lem : (s : Segment) → 0 < size_of s → size_of s ≤ left → stream_at (a ++ (segment_bytes s ++ z)) (length a) left ≡ adds (bytes_of s) (stream_at (a ++ (segment_bytes s ++ z)) (length a + length (segment_bytes s)) (left - size_of s))
  unfolding stream_from
  segment_read_lem s some room = rw (stream_op _ (length a) left (omega arith) (operation_read_lem s some room), bytes_size)

-- the stream, read back in any window
abbrev Back : List ℕ → Type 0
Back xs =
    (a z : List ℕ) → stream_at (a ++ (encode_stream xs ++ z)) (length a) (length xs) ≡ record { mark = 0; at = length a + length (encode_stream xs); operations = length (segments xs); bytes = xs }

-- a stream that is not empty is read back where all shorter ones are
module _ (xs : List ℕ) (h : 0 < length xs) (ih : (ys : List ℕ) → length ys < length xs → Back ys) where
  back_cons : Back xs
  back_cons a z =
      let s : Segment = first_segment xs in
      let rest : List ℕ = drop (size_of s) xs in
      rw (
        encode_cons xs h,
        segments_cons xs h,
        append_assoc,
        segment_read_lem a _ (length xs) s (first_some xs h) (first_inside xs),
        simp (append_assoc, length-append, length-drop) at (ih rest (rest_shorter xs h) (a ++ segment_bytes s) z),
        first_bytes,
        take-append-drop,
        length-append,
        add_assoc,
        one-add,
      )

back_step : (xs : List ℕ) → ((ys : List ℕ) → length ys < length xs → Back ys) → Back xs
back_step [] ih a z = rw (encode_nil, segments_nil, stream_done, add-zero)
back_step (x ∷ xs) ih a z = back_cons (x ∷ xs) (omega arith) ih a z

pub stream_read_back : (a xs z : List ℕ) → stream_at (a ++ (encode_stream xs ++ z)) (length a) (length xs) ≡ record { mark = 0; at = length a + length (encode_stream xs); operations = length (segments xs); bytes = xs }
stream_read_back a xs z = by_length Back back_step xs a z
