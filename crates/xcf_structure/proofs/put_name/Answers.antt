-- By whether the name is empty: one word, or a word, the bytes and a zero.
use Prim.Native.Nat.{ℕ, ◌+◌, ◌≤◌}
use mathlib.Core.Path.{◌≡◌, sym, ◌∙◌}
use mathlib.Core.Bool.{false}
use mathlib.Core.List.{List, [], ◌∷◌, ◌++◌}
use native.Mathlib.Omega.{arith}
use lib.ListN.{length, length-append}
use lib.Dec.{eqb}
use Rattle.xcf_store.specs.Word.{word_bytes}
use Rattle.xcf_store.specs.Put.{Put}
use Rattle.xcf_store.proofs.Words.{word_length}
use Rattle.xcf_structure.specs.Structure.{name_bytes}
use Rattle.xcf_structure.proofs.Names.{name_none, name_some}
use Rattle.xcf_structure.proofs.PartsStored.{PartsLeft, parts_first, parts_next}
use Rattle.xcf_structure.proofs.put_name.Goals as goal

-- what is left of a name that is not empty: before its length, before its bytes, and before the zero
module _ {old : List ℕ} {to : ℕ} (name : List ℕ) (some : eqb (length name) 0 ≡ false) (room : to + length (name_bytes name) ≤ length old) where
  length_left : PartsLeft old to (name_bytes name) (word_bytes (length name + 1) ++ (name ++ (0 ∷ []))) to old
  length_left = parts_first (name_some name some) room

  bytes_left : {next : ℕ} {output : List ℕ} → Put old to (word_bytes (length name + 1)) next output
      → PartsLeft old to (name_bytes name) (name ++ (0 ∷ [])) next output
  bytes_left p = parts_next p length_left

  zero_left : {next behind : ℕ} {output new : List ℕ} → Put old to (word_bytes (length name + 1)) next output
      → Put output next name behind new → PartsLeft old to (name_bytes name) (0 ∷ []) behind new
  zero_left p q = parts_next q (bytes_left p)

pub word-requires : goal.word-requires
word-requires c = omega (arith, word_length 0, rw (name_none _ (sym c.is_empty.ensures ∙ c.if-is_empty.true)) at c.requires.1)

pub returns-then-is_empty-clause-stores : goal.returns-then-is_empty-clause-stores
returns-then-is_empty-clause-stores c = rw (name_none _ (sym c.is_empty.ensures ∙ c.if-is_empty.true)) c.word.ensures.stores

pub word-requires-else-is_empty : goal.word-requires-else-is_empty
word-requires-else-is_empty c = omega (arith, rw (length-append, word_length) at (length_left _ (sym c.is_empty.ensures ∙ c.if-is_empty.false) c.requires.1).fits.room)

pub bytes-requires : goal.bytes-requires
bytes-requires c =
    omega (arith, rw length-append at (bytes_left _ (sym c.is_empty.ensures ∙ c.if-is_empty.false) c.requires.1 c.word-else-is_empty.ensures.stores).fits.room)

pub byte-requires : goal.byte-requires
byte-requires c =
    omega (arith, (zero_left _ (sym c.is_empty.ensures ∙ c.if-is_empty.false) c.requires.1 c.word-else-is_empty.ensures.stores c.bytes.ensures.stores).fits.room)

pub returns-else-is_empty-clause-stores : goal.returns-else-is_empty-clause-stores
returns-else-is_empty-clause-stores c =
    (zero_left _ (sym c.is_empty.ensures ∙ c.if-is_empty.false) c.requires.1 c.word-else-is_empty.ensures.stores c.bytes.ensures.stores).whole _ _ c.byte.ensures.stores
