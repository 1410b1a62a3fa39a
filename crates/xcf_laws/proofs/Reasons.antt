-- Reasons of refusals are told by their numbers (`same_reason`), since each stands in a list at its number (`numbered`).
-- Assumes nothing.
use Prim.Native.Nat.{ℕ}
use mathlib.Core.Path.{◌≡◌, refl, sym, ◌∙◌, ap}
use mathlib.Core.List.{List, [], ◌∷◌}
use lib.ListN.{get_or}
use Rattle.xcf_numbers.specs.declared.reason.Reason.{Reason}
use Rattle.xcf_numbers.specs.declared.reason.Reason.TheVariants as reason
use Rattle.xcf_numbers.specs.Reason.{number_of}

-- a number that is no reason's has PastEnd here
abbrev reasons : List Reason
reasons =
    reason.PastEnd ∷ reason.PastEnd ∷ reason.NotXcf ∷ reason.BadVersion ∷ reason.BadSide ∷ reason.BadBase ∷ reason.BadLength ∷ reason.BadContent
    ∷ reason.TooMany ∷ reason.NoPointer ∷ reason.Disagrees ∷ reason.WrongBuffer ∷ reason.UnendedString ∷ reason.BadTilePointer ∷ reason.Unusable
    ∷ reason.TooLong ∷ reason.Floating ∷ reason.BadRow ∷ reason.NoRoom ∷ reason.PastEnd ∷ reason.PastEnd ∷ reason.PastEnd ∷ reason.PastEnd
    ∷ reason.PastEnd ∷ reason.PastEnd ∷ reason.BadPrecision ∷ []

abbrev reason_of : ℕ → Reason
reason_of n = get_or reasons n reason.PastEnd

numbered : (x : Reason) → reason_of (number_of x) ≡ x
numbered reason.PastEnd = refl
numbered reason.NotXcf = refl
numbered reason.BadVersion = refl
numbered reason.BadSide = refl
numbered reason.BadBase = refl
numbered reason.BadLength = refl
numbered reason.BadContent = refl
numbered reason.TooMany = refl
numbered reason.NoPointer = refl
numbered reason.Disagrees = refl
numbered reason.WrongBuffer = refl
numbered reason.UnendedString = refl
numbered reason.BadTilePointer = refl
numbered reason.Unusable = refl
numbered reason.TooLong = refl
numbered reason.Floating = refl
numbered reason.BadRow = refl
numbered reason.NoRoom = refl
numbered reason.BadPrecision = refl

pub same_reason : (x y : Reason) → number_of x ≡ number_of y → x ≡ y
same_reason x y e = sym (numbered x) ∙ ap reason_of e ∙ numbered y
