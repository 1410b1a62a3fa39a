-- The words of a listing's lines, in ASCII; those that stand behind something else begin with a space.
use Rattle.std.specs.Prelude.{ℕ, List, [], ◌∷◌}

-- a refusal's line
abbrev pub refused_word : List ℕ
refused_word = 114 ∷ 101 ∷ 102 ∷ 117 ∷ 115 ∷ 101 ∷ 100 ∷ []

abbrev pub at : List ℕ
at = 32 ∷ 97 ∷ 116 ∷ []

-- a canvas's
abbrev pub canvas : List ℕ
canvas = 99 ∷ 97 ∷ 110 ∷ 118 ∷ 97 ∷ 115 ∷ []

abbrev pub base : List ℕ
base = 32 ∷ 98 ∷ 97 ∷ 115 ∷ 101 ∷ []

abbrev pub version : List ℕ
version = 32 ∷ 118 ∷ 101 ∷ 114 ∷ 115 ∷ 105 ∷ 111 ∷ 110 ∷ []

abbrev pub compression : List ℕ
compression = 32 ∷ 99 ∷ 111 ∷ 109 ∷ 112 ∷ 114 ∷ 101 ∷ 115 ∷ 115 ∷ 105 ∷ 111 ∷ 110 ∷ []

abbrev pub rows : List ℕ
rows = 32 ∷ 114 ∷ 111 ∷ 119 ∷ 115 ∷ []

-- a row's
abbrev pub channel : List ℕ
channel = 32 ∷ 99 ∷ 104 ∷ 97 ∷ 110 ∷ 110 ∷ 101 ∷ 108 ∷ []

abbrev pub layer : List ℕ
layer = 32 ∷ 108 ∷ 97 ∷ 121 ∷ 101 ∷ 114 ∷ []

abbrev pub mask : List ℕ
mask = 32 ∷ 109 ∷ 97 ∷ 115 ∷ 107 ∷ []

abbrev pub bad : List ℕ
bad = 32 ∷ 98 ∷ 97 ∷ 100 ∷ []
