-- What well-formed bytes are: characters one after another, each of one of the forms.
use Rattle.std.specs.Prelude.{ℕ, ◌≤◌, ◌≡◌, ◌⊎◌}
use mathlib.Core.List.{List, [], ◌∷◌, flatten}
use Rattle.xcf_utf8.specs.Utf8.{Bytes, forms}

-- bytes of a form: each of them one that may stand there
abbrev pub OfForm : List Bytes → List ℕ → Type 0
OfForm [] [] = Unit {0}
OfForm [] (b ∷ bs) = ⊥
OfForm (s ∷ form) [] = ⊥
OfForm (s ∷ form) (b ∷ bs) = ((s.low ≤ b) × (b ≤ s.high)) × OfForm form bs

-- of one of some forms
abbrev pub OfOne : List (List Bytes) → List ℕ → Type 0
OfOne [] bs = ⊥
OfOne (form ∷ fs) bs = OfForm form bs ⊎ OfOne fs bs

-- each of them a character
abbrev pub Characters : List (List ℕ) → Type 0
Characters [] = Unit {0}
Characters (c ∷ cs) = OfOne forms c × Characters cs

-- characters one after another
abbrev pub Text : List ℕ → Type 0
Text bs = (cs : List (List ℕ)) × Characters cs × (flatten cs ≡ bs)
