-- A file of two tiles, and the same with a byte of the first tile's window changed: that tile is good in one file and marked in the
-- other, and the second tile is the same in both.
use Rattle.std.specs.Prelude.{ℕ, ◌≡◌, List, [], ◌∷◌, ◌++◌, take, set, replicate}
use Rattle.xcf_numbers.specs.Mark
use Rattle.xcf_read.specs.Answer.{reading}
use Rattle.xcf_decode_laws.specs.Given.{decoding_given}
use Rattle.xcf_isolation.specs.Isolation.{Damaged}
use Rattle.xcf_theorems.specs.ExampleFile.{example_file}

-- the example file with sides of 65 by 1: two tile pointers and the closing word, 64 pixels of 255 as a run, one of 7 as a copy
abbrev pub wide_file : List ℕ
wide_file =
    take 133 (set (set (set (set example_file 17 65) 58 65) 108 65) 128 65)
    ++ (0 ∷ 0 ∷ 0 ∷ 145 ∷ 0 ∷ 0 ∷ 0 ∷ 147 ∷ 0 ∷ 0 ∷ 0 ∷ 0 ∷ 63 ∷ 255 ∷ 255 ∷ 7 ∷ [])

-- the run's opcode becomes that of a long copy, whose second length byte is not in the window
abbrev pub damaged_file : List ℕ
damaged_file = set wide_file 145 128

-- the choice of tile 0 of row 0
abbrev pub FirstTile : ℕ → ℕ → Type 0
FirstTile k t = (k ≡ 0) × (t ≡ 0)

-- the wide file is accepted, the other is damaged in that tile, and what each shows in buffers that fit, whatever these held
pub record DamagedExample (lent pixels marks : List ℕ) : Type 0 where
  pub accepted : (reading wide_file lent).answer.number ≡ 0
  pub damaged : Damaged wide_file damaged_file (reading wide_file lent) FirstTile
  pub good : decoding_given wide_file (reading wide_file lent) 0 pixels marks
      ≡ record { answer = record { number = 0; place = 0; marked = 0 }; pixels = replicate 64 255 ++ (7 ∷ []); marks = 0 ∷ 0 ∷ [] }
  pub marked : decoding_given damaged_file (reading damaged_file lent) 0 pixels marks
      ≡ record { answer = record { number = 0; place = 0; marked = 1 }; pixels = replicate 64 0 ++ (7 ∷ []); marks = Mark.short ∷ 0 ∷ [] }
