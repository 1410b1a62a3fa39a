-- A name's bytes by whether it is empty.
-- Assumes nothing.
use mathlib.Core.Path.{◌≡◌}
use mathlib.Core.Bool.{true, false}
use mathlib.Core.List.{List, [], ◌∷◌, ◌++◌}
use Prim.Native.Nat.{ℕ, ◌+◌}
use lib.ListN.{length}
use lib.Dec.{eqb}
use Rattle.xcf_store.specs.Word.{word_bytes}
use Rattle.xcf_structure.specs.Structure.{name_bytes}

pub name_none : (name : List ℕ) → eqb (length name) 0 ≡ true → name_bytes name ≡ word_bytes 0
unfolding name_bytes
name_none name e = rw e

pub name_some : (name : List ℕ) → eqb (length name) 0 ≡ false → name_bytes name ≡ word_bytes (length name + 1) ++ (name ++ (0 ∷ []))
unfolding name_bytes
name_some name e = rw e
