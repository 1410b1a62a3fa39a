-- What a list's items are mapped to, one behind the other: of one item more in front or behind, of two lists, and their length where
-- each has the same.
-- Assumes nothing.
use Prim.Native.Nat.{ℕ, ◌+◌, ◌*◌, ◌<◌}
use mathlib.Core.Path.{◌≡◌, refl}
use mathlib.Core.List.{List, [], ◌∷◌, ◌++◌, flat_map, append_assoc, append-nil}
use native.Mathlib.Numerals.{add-one}
use native.Mathlib.Omega.{arith}
use lib.ListN.{length, take, get_or, length-append}
use lib.Seq.{take-suc}

module _ {A B : Type 0} (f : A → List B) where
  pub flat_map-cons : (x : A) (xs : List A) → flat_map f (x ∷ xs) ≡ f x ++ flat_map f xs
  unfolding flat_map
  flat_map-cons x xs = refl

  pub flat_map-append : (xs ys : List A) → flat_map f (xs ++ ys) ≡ flat_map f xs ++ flat_map f ys
  unfolding flat_map
  flat_map-append [] ys = refl
  flat_map-append (x ∷ xs) ys = rw (flat_map-append xs ys, append_assoc)

  flat_map-one : (x : A) → flat_map f (x ∷ []) ≡ f x
  unfolding flat_map
  flat_map-one x = append-nil (f x)

  -- the first i + 1 items
  pub flat_map-next : (xs : List A) (i : ℕ) (z : A) → i < length xs → flat_map f (take (i + 1) xs) ≡ flat_map f (take i xs) ++ f (get_or xs i z)
  flat_map-next xs i z h = rw (add-one, take-suc xs i z, flat_map-append, flat_map-one)

  pub flat_map-length : (n : ℕ) → ((x : A) → length (f x) ≡ n) → (xs : List A) → length (flat_map f xs) ≡ n * length xs
  unfolding flat_map
  flat_map-length n each [] = omega arith
  flat_map-length n each (x ∷ xs) = rw (length-append, each x, flat_map-length n each xs) (omega arith)
