-- Reasons of refusals, and their numbers.
use Rattle.std.specs.Prelude.{ℕ, ◌≡◌, Result, Ok, Err}
use Rattle.xcf_numbers.specs.declared.reason.Reason.{Reason}
use Rattle.xcf_numbers.specs.declared.reason.Reason.TheVariants as reason
use Rattle.xcf_numbers.specs.Refusal

abbrev pub number_of : Reason → ℕ
number_of reason.PastEnd = Refusal.past_end
number_of reason.NotXcf = Refusal.not_xcf
number_of reason.BadVersion = Refusal.bad_version
number_of reason.BadSide = Refusal.bad_side
number_of reason.BadBase = Refusal.bad_base
number_of reason.BadLength = Refusal.bad_length
number_of reason.BadContent = Refusal.bad_content
number_of reason.TooMany = Refusal.too_many
number_of reason.NoPointer = Refusal.no_pointer
number_of reason.Disagrees = Refusal.disagrees
number_of reason.WrongBuffer = Refusal.wrong_buffer
number_of reason.UnendedString = Refusal.unended_string
number_of reason.BadTilePointer = Refusal.bad_tile_pointer
number_of reason.Unusable = Refusal.unusable
number_of reason.TooLong = Refusal.too_long
number_of reason.Floating = Refusal.floating
number_of reason.BadRow = Refusal.bad_row
number_of reason.NoRoom = Refusal.no_room
number_of reason.BadPrecision = Refusal.bad_precision

abbrev pub NumberOf : Reason → ℕ → Type 0
NumberOf r n = n ≡ number_of r

-- the number of what was accepted or refused
abbrev pub verdict : {A : Type 0} → Result A Reason → ℕ
verdict (Ok a) = Refusal.accepted
verdict (Err r) = number_of r
