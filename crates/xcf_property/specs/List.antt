-- Kinds of lists, and their numbers.
use Rattle.std.specs.Prelude.{ℕ, ◌≡◌, ◌≤◌, ◌<◌, eqb}
use Rattle.xcf_numbers.specs.Kind
use Rattle.xcf_property.specs.declared.ListKind.{ListKind}
use Rattle.xcf_property.specs.declared.ListKind.TheVariants as listkind

abbrev pub list_number : ListKind → ℕ
list_number listkind.Image = Kind.unused
list_number listkind.Layer = Kind.layer
list_number listkind.Mask = Kind.mask
list_number listkind.Channel = Kind.channel

-- the list of a row's kind: no rule tells the two numbers apart, and they are the same where a row has that kind; a number that is no
-- kind goes with the channels
pub record ListOf (kind : ℕ) (list : ListKind) : Type 0 where
  pub image : eqb (list_number list) Kind.unused ≡ eqb kind Kind.unused
  pub layer : eqb (list_number list) Kind.layer ≡ eqb kind Kind.layer
  pub known : kind ≤ Kind.channel → list_number list ≡ kind
  pub unknown : Kind.channel < kind → list ≡ listkind.Channel
