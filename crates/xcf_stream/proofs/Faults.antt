-- A tile's mark is 0 exactly where it has no fault.
-- Assumes nothing.
use mathlib.Core.Path.{◌≡◌, refl}
use mathlib.Core.Bool.{true, false}
use lib.Dec.{eqb}
use Rattle.std.proofs.Common.{rules, Option, Some, None}
use Rattle.std.specs.Option.{is_some}
use Rattle.xcf_numbers.specs.declared.fault.Fault.{Fault}
use Rattle.xcf_numbers.specs.declared.fault.Fault.TheVariants as faults
use Rattle.xcf_numbers.specs.Fault.{mark_of_any}

pub unmarked : (fault : Option Fault) → is_some fault ≡ false → mark_of_any fault ≡ 0
unmarked None h = refl
unmarked (Some fault) h = search rules

pub marked : (fault : Option Fault) → is_some fault ≡ true → eqb (mark_of_any fault) 0 ≡ false
marked None h = search rules
marked (Some faults.Short) h = refl
marked (Some faults.Overrun) h = refl
