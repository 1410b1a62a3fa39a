-- The versions of files that rules ask for by number.
use Rattle.std.specs.Prelude.{ℕ}

-- the first, which has no indexed images
abbrev pub first : ℕ
first = 0

-- that with a precision word, and with pointers of eight bytes
abbrev pub wide : ℕ
wide = 11
