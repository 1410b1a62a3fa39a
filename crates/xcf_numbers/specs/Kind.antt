-- The kinds of rows.
use Rattle.std.specs.Prelude.{ℕ}

abbrev pub unused : ℕ
unused = 0

abbrev pub layer : ℕ
layer = 1

abbrev pub mask : ℕ
mask = 2

abbrev pub channel : ℕ
channel = 3
