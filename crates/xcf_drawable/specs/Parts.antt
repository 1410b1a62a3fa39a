-- The contracts of a drawable's functions, by name.
use Rattle.std.specs.Prelude.{ℕ, ◌+◌, ◌≤◌, ◌≡◌, List, Bool, length}
use Rattle.xcf_numbers.specs.Limit.{file_limit, name_limit}
use Rattle.xcf_table.specs.declared.Row.{Row}
use Rattle.xcf_drawable.specs.Drawable.{Drawable}
use Rattle.xcf_grid.specs.Drawn.{Drawn}

-- the most bytes of the encodings of a drawable's tiles
abbrev pub encodings_limit : ℕ
encodings_limit = 1090781184

-- a drawable with numbers in range, and with the name and the pixels that they say
pub record Writable (d : Drawable) : Type 0 where
  pub drawn : Drawn d.row d.pixels
  pub named : length d.name ≡ d.row.namelen
  pub short : d.row.namelen ≤ name_limit

-- room for n bytes from a place on, in the output and in a file
pub record Space (output : List ℕ) (to n : ℕ) : Type 0 where
  pub room : to + n ≤ length output
  pub low : to + n ≤ file_limit

-- the drawable of these
abbrev pub drawn : Row → Bool → List ℕ → List ℕ → Drawable
drawn r has_mask name pixels = record { row = r; has_mask = has_mask; name = name; pixels = pixels }
