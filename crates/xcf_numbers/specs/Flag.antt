-- The flags of rows.
use Rattle.std.specs.Prelude.{ℕ, ◌/◌, ◌%◌, Bool, eqb}

abbrev pub visible : ℕ
visible = 1

-- a layer applies its mask
abbrev pub apply : ℕ
apply = 2

abbrev pub selection : ℕ
selection = 4

abbrev pub active : ℕ
active = 8

abbrev pub group : ℕ
group = 16

-- the name is not well-formed UTF-8
abbrev pub not_utf8 : ℕ
not_utf8 = 32

-- a flag as a number: 1 where it is set, else 0
abbrev pub flag_of : ℕ → ℕ → ℕ
flag_of flags bit = flags / bit % 2

-- whether a flag is set
abbrev pub flag_set : ℕ → ℕ → Bool
flag_set flags bit = eqb (flag_of flags bit) 1
