-- How pixels are stored.
use Rattle.std.specs.Prelude.{ℕ}

-- eight bits, with a gamma: as in all versions that have no precision word
abbrev pub eight_bit_gamma : ℕ
eight_bit_gamma = 150
