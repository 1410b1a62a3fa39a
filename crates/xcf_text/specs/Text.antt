-- Numbers as text, in ASCII, and the ends of lines.
use Rattle.std.specs.Prelude.{ℕ, zero, suc, ◌+◌, ◌/◌, ◌%◌, List, [], ◌∷◌, ◌++◌, cond, ltb}

abbrev pub newline : List ℕ
newline = 10 ∷ []

abbrev pub space : List ℕ
space = 32 ∷ []

-- a number in decimal, the high digit first, where it has at most one digit more than `fuel`; the number itself is fuel enough
unfoldable pub decimal_within : ℕ → ℕ → List ℕ
decimal_within zero n = (48 + n) ∷ []
decimal_within (suc fuel) n = cond (ltb n 10) ((48 + n) ∷ []) (decimal_within fuel (n / 10) ++ ((48 + n % 10) ∷ []))

unfoldable pub decimal : ℕ → List ℕ
decimal n = decimal_within n n

-- a number behind a space
unfoldable pub spaced : ℕ → List ℕ
spaced n = space ++ decimal n

-- the same behind a label
abbrev pub labelled : List ℕ → ℕ → List ℕ
labelled label n = label ++ spaced n

-- room for a number of 64 bits, alone and behind a space
abbrev pub decimal_size : ℕ
decimal_size = 20

abbrev pub spaced_size : ℕ
spaced_size = decimal_size + 1

-- room for any line
abbrev pub line_size : ℕ
line_size = 400
