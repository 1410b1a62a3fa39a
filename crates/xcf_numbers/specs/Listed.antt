-- Whether a number is one of a list, as the numbers of a call's refusals are.
use Rattle.std.specs.Prelude.{ℕ, List, [], ◌∷◌, Bool, false, ◌||◌, eqb}

unfoldable pub listed : List ℕ → ℕ → Bool
listed [] n = false
listed (m ∷ ms) n = eqb n m || listed ms n
