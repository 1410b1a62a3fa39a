-- The contracts of structures, by name.
use Rattle.std.specs.Prelude.{ℕ, ◌≡◌, ◌≤◌, List, Option, Some, None, true, false, length, get_or, ltb}
use Rattle.xcf_numbers.specs.Limit.{side_limit}
use Rattle.xcf_parse.specs.Header.{versions, tags, place_in}
use Rattle.xcf_parse.specs.declared.drawable.Fields.{Fields}
use Rattle.xcf_parse.specs.declared.drawable.Layer.{Layer}

-- the places of a drawable's fields are at most n
pub record FieldsLow (x : Fields) (n : ℕ) : Type 0 where
  pub name : x.name.place ≤ n
  pub size : x.name.length ≤ n
  pub list : x.list ≤ n

pub record LayerLow (x : Layer) (n : ℕ) : Type 0 where
  pub width : x.width ≤ side_limit
  pub height : x.height ≤ side_limit
  pub fields : FieldsLow x.fields n

-- the version of a tag that is known
abbrev pub VersionOf : List ℕ → Option ℕ → Type 0
VersionOf tag None = ltb (place_in tags tag) (length tags) ≡ false
VersionOf tag (Some v) = (ltb (place_in tags tag) (length tags) ≡ true) × (get_or versions (place_in tags tag) 0 ≡ v)
