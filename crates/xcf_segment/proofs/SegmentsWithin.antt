-- Each segment of a stream of at most n bytes has a byte, and at most n: by induction on the stream's length.
-- Assumes nothing.
use mathlib.Core.List.{List, [], ◌∷◌}
use Prim.Native.Nat.{ℕ, ◌≤◌, ◌<◌}
use native.Mathlib.Omega.{arith}
use lib.ListN.{length}
use Rattle.std.specs.List.{All}
use Rattle.std.proofs.lemmas.List.Elements.{All-nil, All-cons, All-same}
use Rattle.xcf_segment.specs.Segment.{Segment, size_of, first_segment, segments}
use Rattle.xcf_segment.proofs.Segments.{first_some, first_inside, segments_nil, segments_cons, rest_shorter, by_length}

pub record Within (n : ℕ) (s : Segment) : Type 0 where
  pub some : 0 < size_of s
  pub short : size_of s ≤ n

abbrev AllWithin : List ℕ → Type 0
AllWithin xs = (n : ℕ) → length xs ≤ n → All (Within n) (segments xs)

within_step : (xs : List ℕ) → ((ys : List ℕ) → length ys < length xs → AllWithin ys) → AllWithin xs
within_step [] ih n h = All-same (Within n) (segments []) [] segments_nil (All-nil (Within n))
within_step (x ∷ xs) ih n h =
    let some : 0 < length (x ∷ xs) = omega arith in
    let less = rest_shorter (x ∷ xs) some in
    let whole : Within n (first_segment (x ∷ xs)) = record { some = first_some (x ∷ xs) some; short = omega (arith, first_inside (x ∷ xs)) } in
    All-same (Within n) (segments (x ∷ xs)) _ (segments_cons (x ∷ xs) some) (All-cons (Within n) _ _ whole (ih _ less n (omega arith)))

pub segments_within : (n : ℕ) (xs : List ℕ) → length xs ≤ n → All (Within n) (segments xs)
segments_within n xs h = by_length AllWithin within_step xs n h
