-- A number within its bounds.
use Rattle.std.specs.Prelude.{ℕ, Bool, ◌&&◌, leb}

abbrev pub within : ℕ → ℕ → ℕ → Bool
within low high x = leb low x && leb x high
