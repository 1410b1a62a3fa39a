-- The image's colour map: which maps are taken, what they take, and what becomes of the others.
use Rattle.std.specs.Prelude.{ℕ, ◌+◌, ◌*◌, ◌≤◌, ◌<◌, ◌≡◌, List, ◌⊎◌, length}
use Rattle.xcf_numbers.specs.Limit.{colour_limit}
use Rattle.xcf_numbers.specs.Refusal
use Rattle.xcf_store.specs.Word.{part, big_endian}
use Rattle.xcf_property.specs.declared.Content.{Content}
use Rattle.xcf_walk.specs.Walk.{Outcome, got, refused}

-- how many colours the map at a place has
abbrev pub colours : List ℕ → ℕ → ℕ
colours file at = big_endian 0 (part file at 4)

-- the length word says how many bytes a map of so many colours takes, or counts a byte for each colour as old releases did
abbrev pub MapLength : ℕ → ℕ → Type 0
MapLength count n = (n ≡ 3 * count + 4) ⊎ (n ≡ count + 4)

-- a map at the place at, whose length word says n, as it has to be
pub record RightMap (file : List ℕ) (n at : ℕ) : Type 0 where
  pub few : colours file at ≤ colour_limit
  pub said : MapLength (colours file at) n
  pub whole : at + 4 + 3 * colours file at ≤ length file

-- one of which nothing is wrong up to its count
pub record CountedMap (file : List ℕ) (n at : ℕ) : Type 0 where
  pub least : 4 ≤ n
  pub there : at + 4 ≤ length file
  pub few : colours file at ≤ colour_limit

-- what becomes of the map, whose length word stands at length_at: a right one is taken with all its bytes, whichever its length, and no
-- other is; the rest are its faults, of which the first counts
pub record MapRule (file : List ℕ) (length_at n at : ℕ) (o : Outcome Content) : Type 0 where
  pub taken : RightMap file n at → o ≡ got (record { first = colours file at; second = 0 }) (at + 4 + 3 * colours file at)
  pub only : (c : Content) (q : ℕ) → o ≡ got c q → RightMap file n at
  pub short : n < 4 → o ≡ refused Refusal.bad_length length_at
  pub uncounted : 4 ≤ n → length file < at + 4 → o ≡ refused Refusal.past_end at
  pub many : 4 ≤ n → at + 4 ≤ length file → colour_limit < colours file at → o ≡ refused Refusal.bad_content at
  pub unfit : CountedMap file n at → (MapLength (colours file at) n → ⊥) → o ≡ refused Refusal.bad_length length_at
  pub cut : CountedMap file n at → MapLength (colours file at) n → length file < at + 4 + 3 * colours file at → o ≡ refused Refusal.past_end (at + 4)
