-- What a drawable's sides and type may be, and how many bytes a pixel has.
use Rattle.std.specs.Prelude.{ℕ, ◌/◌, List, [], ◌∷◌, Bool, ◌&&◌, get_or, leb, eqb}
use Rattle.xcf_numbers.specs.Limit.{side_limit, type_limit}

unfoldable pub side_ok : ℕ → Bool
side_ok n = leb 1 n && leb n side_limit

-- types 0 to 5: half the type is the base type
unfoldable pub type_ok : ℕ → ℕ → Bool
type_ok base t = leb t type_limit && eqb (t / 2) base

-- bytes per pixel by type
abbrev pub depths : List ℕ
depths = 3 ∷ 4 ∷ 1 ∷ 2 ∷ 1 ∷ 2 ∷ []

unfoldable pub depth_of : ℕ → ℕ
depth_of t = get_or depths t 0
