-- What damage leaves: the structure bytes (`structure_same`) and the windows of the tiles that are not chosen (`window_byte_same`),
-- since two bytes are equal or not. So the damaged file is read as the file was (`read_same`).
-- Assumes nothing.
use Prim.Native.Nat.{ℕ}
use mathlib.Core.Path.{◌≡◌, sym}
use mathlib.Core.List.{List}
use lib.ListN.{get_or}
use Rattle.xcf_laws.proofs.Cases.{equal_unless}
use Rattle.xcf_read.specs.Image.{structure_byte}
use Rattle.xcf_read.specs.Answer.{Reading, reading, row_of}
use Rattle.xcf_read_laws.proofs.ReadDepends.{read_depends}
use Rattle.xcf_window.specs.Window.{InWindow}
use Rattle.xcf_decode_laws.specs.Given.{IsTile}
use Rattle.xcf_isolation.specs.Isolation.{Damaged}

module _ {f g : List ℕ} {x : Reading} {Chosen : ℕ → ℕ → Type 0} (damage : Damaged f g x Chosen) where
  pub structure_same : (i : ℕ) → structure_byte f i → get_or f i 0 ≡ get_or g i 0
  structure_same i s = equal_unless _ _ (λ differs. damage.structure i differs s)

  pub window_byte_same : (k t : ℕ) → IsTile x k t → (Chosen k t → ⊥) → (i : ℕ) → InWindow x.answer.size f (row_of x k) t i → get_or f i 0 ≡ get_or g i 0
  window_byte_same k t is free i inside = equal_unless _ _ (λ differs. damage.others i differs k t is free inside)

pub read_same : {f g : List ℕ} {x : Reading} {Chosen : ℕ → ℕ → Type 0} → Damaged f g x Chosen → (lent : List ℕ) → reading g lent ≡ reading f lent
read_same {f} {g} damage lent = sym (read_depends f g lent damage.long (structure_same damage))
