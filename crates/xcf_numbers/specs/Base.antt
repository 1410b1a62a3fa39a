-- The base types of images.
use Rattle.std.specs.Prelude.{ℕ}

abbrev pub grey : ℕ
grey = 1

abbrev pub indexed : ℕ
indexed = 2
