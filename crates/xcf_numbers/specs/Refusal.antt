-- The numbers of refusals (RULES, "Numbers").
use Rattle.std.specs.Prelude.{ℕ}

abbrev pub accepted : ℕ
accepted = 0

-- a field, string or payload does not lie in the file whole
abbrev pub past_end : ℕ
past_end = 1

-- the file does not begin with "gimp xcf "
abbrev pub not_xcf : ℕ
not_xcf = 2

-- the version's tag is not known
abbrev pub bad_version : ℕ
bad_version = 3

-- a side is outside its range
abbrev pub bad_side : ℕ
bad_side = 4

-- a base type that the version does not have, or that is not written
abbrev pub bad_base : ℕ
bad_base = 5

-- the length of a property does not fit its type
abbrev pub bad_length : ℕ
bad_length = 6

-- a payload holds a value that is not allowed, or an indexed image has no colour map
abbrev pub bad_content : ℕ
bad_content = 7

-- a layer or channel over the limit
abbrev pub too_many : ℕ
too_many = 8

-- the pointer to a hierarchy, or to its first level, is 0
abbrev pub no_pointer : ℕ
no_pointer = 9

-- a type, side or depth is not what its owner says
abbrev pub disagrees : ℕ
disagrees = 10

-- a buffer is lent with a length that does not fit
abbrev pub wrong_buffer : ℕ
wrong_buffer = 11

-- the last of a string's bytes is not zero
abbrev pub unended_string : ℕ
unended_string = 12

-- a tile pointer, or the one that closes them, breaks its rule
abbrev pub bad_tile_pointer : ℕ
bad_tile_pointer = 13

-- a row, tile, compression or size of pointers that cannot be decoded or encoded
abbrev pub unusable : ℕ
unusable = 14

-- the file is too long
abbrev pub too_long : ℕ
too_long = 15

-- a layer has the property of a floating selection
abbrev pub floating : ℕ
floating = 16

-- a row that cannot be written
abbrev pub bad_row : ℕ
bad_row = 17

-- what is to be written exceeds the lent output, or a file the limit
abbrev pub no_room : ℕ
no_room = 18

-- pixels are stored in a precision that is not read
abbrev pub bad_precision : ℕ
bad_precision = 25
