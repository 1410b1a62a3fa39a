-- No reason has the number of what is accepted.
-- Assumes nothing.
use Prim.Native.Nat.{◌<◌}
use native.Mathlib.Omega.{arith}
use Rattle.xcf_numbers.specs.declared.reason.Reason.{Reason}
use Rattle.xcf_numbers.specs.declared.reason.Reason.TheVariants as reason
use Rattle.xcf_numbers.specs.Reason.{number_of}

pub some_number : (r : Reason) → 0 < number_of r
some_number reason.PastEnd = omega arith
some_number reason.NotXcf = omega arith
some_number reason.BadVersion = omega arith
some_number reason.BadSide = omega arith
some_number reason.BadBase = omega arith
some_number reason.BadLength = omega arith
some_number reason.BadContent = omega arith
some_number reason.TooMany = omega arith
some_number reason.NoPointer = omega arith
some_number reason.Disagrees = omega arith
some_number reason.WrongBuffer = omega arith
some_number reason.UnendedString = omega arith
some_number reason.BadTilePointer = omega arith
some_number reason.Unusable = omega arith
some_number reason.TooLong = omega arith
some_number reason.Floating = omega arith
some_number reason.BadRow = omega arith
some_number reason.NoRoom = omega arith
some_number reason.BadPrecision = omega arith
