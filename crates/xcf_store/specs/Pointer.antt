-- A pointer: a number of four or eight bytes, the high byte first.
use Rattle.std.specs.Prelude.{◌≡◌, ℕ, List, Bool, ◌||◌, ◌⊎◌, eqb}
use Rattle.xcf_store.specs.Word.{part, big_endian}

-- the sizes that a pointer may have
abbrev pub narrow : ℕ
narrow = 4

abbrev pub wide : ℕ
wide = 8

-- the test of a size, and the same as a condition
unfoldable pub pointer_size_ok : ℕ → Bool
pointer_size_ok size = eqb size narrow || eqb size wide

abbrev pub PointerSize : ℕ → Type 0
PointerSize size = (size ≡ narrow) ⊎ (size ≡ wide)

-- the number at a place
abbrev pub number_at : ℕ → List ℕ → ℕ → ℕ
number_at size f at = big_endian 0 (part f at size)
