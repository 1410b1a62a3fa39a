-- Every version's pointers have a pointer's size.
-- Assumes nothing.
use Prim.Native.Nat.{ℕ}
use mathlib.Core.Path.{refl}
use mathlib.Core.Logic.{inl, inr}
use lib.Dec.{eqb}
use Rattle.std.proofs.lemmas.Bool.{cond_both}
use Rattle.xcf_numbers.specs.Version
use Rattle.xcf_store.specs.Pointer.{PointerSize, narrow, wide}
use Rattle.xcf_parse.specs.Image.{pointer_size}

pub version_sized : (version : ℕ) → PointerSize (pointer_size version)
version_sized version = cond_both (eqb version Version.wide) wide narrow PointerSize (λ _. inr refl) (λ _. inl refl)
