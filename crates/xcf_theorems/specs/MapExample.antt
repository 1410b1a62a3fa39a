-- A file of 66 bytes with a colour map of one colour: 3 bytes, which old releases counted as one.
use Rattle.std.specs.Prelude.{ℕ, List, [], ◌∷◌}

-- line by line: the first bytes, of version 1; a canvas of one indexed pixel; the map, whose length word ends in n; compression; the
-- list's end; no pointers
abbrev pub map_file : ℕ → List ℕ
map_file n =
    103 ∷ 105 ∷ 109 ∷ 112 ∷ 32 ∷ 120 ∷ 99 ∷ 102 ∷ 32 ∷ 118 ∷ 48 ∷ 48 ∷ 49 ∷ 0
    ∷ 0 ∷ 0 ∷ 0 ∷ 1 ∷ 0 ∷ 0 ∷ 0 ∷ 1 ∷ 0 ∷ 0 ∷ 0 ∷ 2
    ∷ 0 ∷ 0 ∷ 0 ∷ 1 ∷ 0 ∷ 0 ∷ 0 ∷ n ∷ 0 ∷ 0 ∷ 0 ∷ 1 ∷ 200 ∷ 30 ∷ 30
    ∷ 0 ∷ 0 ∷ 0 ∷ 17 ∷ 0 ∷ 0 ∷ 0 ∷ 1 ∷ 1
    ∷ 0 ∷ 0 ∷ 0 ∷ 0 ∷ 0 ∷ 0 ∷ 0 ∷ 0
    ∷ 0 ∷ 0 ∷ 0 ∷ 0 ∷ 0 ∷ 0 ∷ 0 ∷ 0 ∷ []
