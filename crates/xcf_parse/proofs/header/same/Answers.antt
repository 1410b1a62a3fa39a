-- `same` meets its contract: `==` compares byte by byte, as the words of specs/ do (`same_is`).
use Prim.Native.Nat.{ℕ}
use mathlib.Core.Path.{◌≡◌, refl, ◌∙◌, ap}
use mathlib.Core.List.{List, [], ◌∷◌}
use mathlib.Core.Bool.{◌&&◌}
use lib.Dec.{eqb}
use Rattle.std.specs.Str.{bytes_eq}
use Rattle.xcf_parse.specs.Header.{same}
use Rattle.xcf_parse.proofs.header.same.Goals as goal

same_is : (xs ys : List ℕ) → bytes_eq xs ys ≡ same xs ys
unfolding same
same_is [] [] = refl
same_is [] (y ∷ ys) = refl
same_is (x ∷ xs) [] = refl
same_is (x ∷ xs) (y ∷ ys) = ap (λ b. eqb x y && b) (same_is xs ys)

pub returns : goal.returns
returns c = c.eq.ensures ∙ same_is _ _
