-- What the reader answers, and what it leaves in the table, depends on the file's length and on its structure bytes, and on
-- nothing else (`read_depends`); where it accepts a file, not even on the table that it was lent (`accepted_depends`).
-- Assumes nothing.
use Prim.Native.Nat.{ℕ}
use mathlib.Core.Path.{◌≡◌, sym, ◌∙◌}
use mathlib.Core.List.{List}
use lib.ListN.{length, get_or}
use Rattle.xcf_numbers.specs.Limit.{table_size}
use Rattle.xcf_walk_laws.proofs.Depends.{outcome_depends}
use Rattle.xcf_read.specs.Image.{image, structure_byte}
use Rattle.xcf_read.specs.Answer.{reading}
use Rattle.xcf_read_laws.proofs.Accepted.{accepted_any_table}

pub read_depends : (f g table : List ℕ) → length f ≡ length g → ((i : ℕ) → structure_byte f i → get_or f i 0 ≡ get_or g i 0)
    → reading f table ≡ reading g table
unfolding structure_byte reading
read_depends f g table e agree = rw (e, outcome_depends image f g 0 e agree)

pub accepted_depends : (f g lent other : List ℕ) → (reading f lent).answer.number ≡ 0 → length other ≡ table_size → length f ≡ length g
    → ((i : ℕ) → structure_byte f i → get_or f i 0 ≡ get_or g i 0) → reading g other ≡ reading f lent
accepted_depends f g lent other accepted size e agree = sym (read_depends f g other e agree) ∙ accepted_any_table f lent other accepted size
