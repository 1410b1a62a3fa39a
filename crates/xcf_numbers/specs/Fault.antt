-- Faults of tiles, and their marks.
use Rattle.std.specs.Prelude.{ℕ, ◌≡◌, Option, Some, None}
use Rattle.xcf_numbers.specs.declared.fault.Fault.{Fault}
use Rattle.xcf_numbers.specs.declared.fault.Fault.TheVariants as fault
use Rattle.xcf_numbers.specs.Mark

abbrev pub mark_of : Fault → ℕ
mark_of fault.Short = Mark.short
mark_of fault.Overrun = Mark.overrun

abbrev pub MarkOf : Fault → ℕ → Type 0
MarkOf x n = n ≡ mark_of x

-- the mark of a tile with a fault or with none
abbrev pub mark_of_any : Option Fault → ℕ
mark_of_any None = Mark.good
mark_of_any (Some x) = mark_of x
