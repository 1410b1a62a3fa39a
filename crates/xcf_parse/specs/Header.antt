-- The first bytes of a file: "gimp xcf ", then the version's tag.
use Rattle.std.specs.Prelude.{ℕ, suc, List, [], ◌∷◌, Bool, true, false, cond, ◌&&◌, length, get_or, ltb, eqb}
use Rattle.xcf_numbers.specs.Refusal
use Rattle.xcf_numbers.specs.Version
use Rattle.xcf_walk.specs.Walk.{Walk, done, bytes, here, must, ◌>>=◌, ◌>>◌}

-- two lists are the same
unfoldable pub same : List ℕ → List ℕ → Bool
same [] [] = true
same [] (y ∷ ys) = false
same (x ∷ xs) [] = false
same (x ∷ xs) (y ∷ ys) = eqb x y && same xs ys

-- "gimp xcf "
abbrev pub magic : List ℕ
magic = 103 ∷ 105 ∷ 109 ∷ 112 ∷ 32 ∷ 120 ∷ 99 ∷ 102 ∷ 32 ∷ []

-- the versions that are read
abbrev pub versions : List ℕ
versions = 0 ∷ 1 ∷ 2 ∷ 3 ∷ Version.wide ∷ []

-- their tags in the same order: "file", "v001", "v002", "v003", "v011", each with a zero
abbrev pub tags : List (List ℕ)
tags =
    (102 ∷ 105 ∷ 108 ∷ 101 ∷ 0 ∷ [])
    ∷ (118 ∷ 48 ∷ 48 ∷ 49 ∷ 0 ∷ [])
    ∷ (118 ∷ 48 ∷ 48 ∷ 50 ∷ 0 ∷ [])
    ∷ (118 ∷ 48 ∷ 48 ∷ 51 ∷ 0 ∷ [])
    ∷ (118 ∷ 48 ∷ 49 ∷ 49 ∷ 0 ∷ [])
    ∷ []

-- where a tag stands in a list, or the list's length
unfoldable pub place_in : List (List ℕ) → List ℕ → ℕ
place_in [] tag = 0
place_in (t ∷ ts) tag = cond (same tag t) 0 (suc (place_in ts tag))

unfoldable pub header : Walk ℕ
header = do
  start ← here
  m ← bytes 9
  must (same m magic) Refusal.not_xcf start
  tag_at ← here
  tag ← bytes 5
  must (ltb (place_in tags tag) (length tags)) Refusal.bad_version tag_at
  done (get_or versions (place_in tags tag) 0)
