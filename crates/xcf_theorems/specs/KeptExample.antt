-- A file of two channels of a tile each, where the second's tile begins with a given opcode: 255 for a copy of one byte, or 128 for a
-- long copy, whose second length byte is not in the file. The first tile's window runs to the file's end, over all of the second
-- channel, and the opcode lies in it; but the tile has ended long before, and is the same with either.
use Rattle.std.specs.Prelude.{ℕ, ◌+◌, ◌≤◌, ◌<◌, ◌≡◌, List, [], ◌∷◌, ◌++◌, take, drop, set}
use Rattle.xcf_numbers.specs.Mark
use Rattle.xcf_store.specs.Pointer.{narrow}
use Rattle.xcf_tile.specs.Tile.{Tile}
use Rattle.xcf_read.specs.Image.{structure_byte}
use Rattle.xcf_read.specs.Answer.{reading, row_of}
use Rattle.xcf_window.specs.Window.{InWindow}
use Rattle.xcf_decode_laws.specs.Given.{tile_given, decoding_given}
use Rattle.xcf_isolation.specs.Kept.{GoodTile, TileByte, GoodByte, Agree}
use Rattle.xcf_isolation.specs.Isolation.{Damaged}
use Rattle.xcf_theorems.specs.ExampleFile.{example_file}

-- the example file's channel and tile at another place, with the pointers to hierarchy, level and tile that it has there
abbrev pub channel_at : ℕ → List ℕ
channel_at p = set (set (set (drop 55 example_file) 49 (p + 50)) 65 (p + 70)) 81 (p + 86)

-- the example file with two such channels behind its image; the tiles are at 145 and 233
abbrev pub pair_file : ℕ → List ℕ
pair_file opcode =
    set (take 47 example_file ++ (0 ∷ 0 ∷ 0 ∷ 59 ∷ 0 ∷ 0 ∷ 0 ∷ 147 ∷ 0 ∷ 0 ∷ 0 ∷ 0 ∷ []) ++ channel_at 59 ++ channel_at 147) 233 opcode

-- one pixel of 255, as a copy of one byte
abbrev pub one_copy : Tile
one_copy = record { mark = 0; consumed = 2; operations = 1; pixels = 255 ∷ [] }

-- Both files are accepted. The first tile of one is good, and the other agrees with it on the bytes that decide this tile, though not
-- on its window. That window covers the second channel, from 147 on: structures, such as the tile pointer at 225, and the tile. So each
-- choice of tiles for which isolation speaks of the two files has the first tile, and isolation does not say that it is the same. The
-- other way round, from the file with a marked tile to the one without, the two agree on all that decides a good tile. Then what is
-- given for the first tile, and what is shown of both in buffers that fit, whatever these held.
pub record KeptExample (lent pixels marks : List ℕ) : Type 1 where
  pub accepted : (opcode : ℕ) → (reading (pair_file opcode) lent).answer.number ≡ 0
  pub good : GoodTile (pair_file 255) (reading (pair_file 255) lent) 0 0
  pub agree : Agree (pair_file 255) (pair_file 128) (TileByte (pair_file 255) (reading (pair_file 255) lent) 0 0)
  pub covers : (i : ℕ) → 145 ≤ i → i < 235 → InWindow narrow (pair_file 255) (row_of (reading (pair_file 255) lent) 0) 0 i
  pub structure : structure_byte (pair_file 255) 225
  pub chosen : (Chosen : ℕ → ℕ → Type 0) → Damaged (pair_file 255) (pair_file 128) (reading (pair_file 255) lent) Chosen
      → (Chosen 0 0 → ⊥) → ⊥
  pub back : Agree (pair_file 128) (pair_file 255) (GoodByte (pair_file 128) (reading (pair_file 128) lent))
  pub given : (opcode : ℕ) → tile_given (pair_file opcode) (reading (pair_file opcode) lent) 0 0
      ≡ one_copy
  pub first : (opcode : ℕ) → decoding_given (pair_file opcode) (reading (pair_file opcode) lent) 0 pixels marks
      ≡ record { answer = record { number = 0; place = 0; marked = 0 }; pixels = 255 ∷ []; marks = 0 ∷ [] }
  pub second : decoding_given (pair_file 255) (reading (pair_file 255) lent) 1 pixels marks
      ≡ record { answer = record { number = 0; place = 0; marked = 0 }; pixels = 255 ∷ []; marks = 0 ∷ [] }
  pub marked : decoding_given (pair_file 128) (reading (pair_file 128) lent) 1 pixels marks
      ≡ record { answer = record { number = 0; place = 0; marked = 1 }; pixels = 0 ∷ []; marks = Mark.short ∷ [] }
