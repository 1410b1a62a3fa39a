-- Well-formed UTF-8, as the grammar of RFC 3629, section 4 has it.
use Rattle.std.specs.Prelude.{ℕ, List, [], ◌∷◌, Bool, true, false, cond, ◌&&◌}
use Rattle.xcf_range.specs.Range.{within}

-- the bytes from low to high
pub record Bytes : Type 0 where
  pub low : ℕ
  pub high : ℕ

infix 70 ◌to◌
abbrev pub ◌to◌ : ℕ → ℕ → Bytes
◌to◌ low high = record { low = low; high = high }

abbrev pub only : ℕ → Bytes
only b = b to b

abbrev pub tail : Bytes
tail = 0x80 to 0xBF

-- the forms of a character: what each of its bytes may be
abbrev pub forms : List (List Bytes)
forms =
    (0x00 to 0x7F ∷ [])
    ∷ (0xC2 to 0xDF ∷ tail ∷ [])
    ∷ (only 0xE0 ∷ 0xA0 to 0xBF ∷ tail ∷ [])
    ∷ (0xE1 to 0xEC ∷ tail ∷ tail ∷ [])
    ∷ (only 0xED ∷ 0x80 to 0x9F ∷ tail ∷ [])
    ∷ (0xEE to 0xEF ∷ tail ∷ tail ∷ [])
    ∷ (only 0xF0 ∷ 0x90 to 0xBF ∷ tail ∷ tail ∷ [])
    ∷ (0xF1 to 0xF3 ∷ tail ∷ tail ∷ tail ∷ [])
    ∷ (only 0xF4 ∷ 0x80 to 0x8F ∷ tail ∷ tail ∷ [])
    ∷ []

abbrev pub in? : ℕ → Bytes → Bool
in? b s = within s.low s.high b

-- what k says of the rest of the form that b begins; false where b begins none
unfoldable pub begun : List (List Bytes) → ℕ → (List Bytes → Bool) → Bool
begun [] b k = false
begun ([] ∷ fs) b k = begun fs b k
begun ((s ∷ rest) ∷ fs) b k = cond (in? b s) (k rest) (begun fs b k)

-- the bytes are the rest of a character, then characters to the end
unfoldable pub well_formed_from : List Bytes → List ℕ → Bool
well_formed_from [] [] = true
well_formed_from (s ∷ rest) [] = false
well_formed_from [] (b ∷ bs) = begun forms b (λ rest. well_formed_from rest bs)
well_formed_from (s ∷ rest) (b ∷ bs) = in? b s && well_formed_from rest bs

-- characters to the end; no bytes at all are well-formed
abbrev pub well_formed : List ℕ → Bool
well_formed = well_formed_from []
