-- `put` meets its contract: its parts one behind the other, of which each leaves room for the others (`image_parts`).
use Prim.Native.Nat.{ℕ, ◌+◌, ◌≤◌}
use mathlib.Core.List.{List, [], ◌∷◌, ◌++◌}
use native.Mathlib.Omega.{arith}
use lib.ListN.{length, get_or, length-append}
use Rattle.xcf_numbers.specs.Kind
use Rattle.xcf_table.specs.declared.Row.{Row}
use Rattle.xcf_table.specs.declared.canvas.Canvas.{Canvas}
use Rattle.xcf_parse.specs.Header.{magic, tags}
use Rattle.xcf_store.specs.Put.{Put}
use Rattle.xcf_store.specs.Word.{words}
use Rattle.xcf_store.proofs.Words.{words_length}
use Rattle.xcf_structure.proofs.PartsStored.{PartsLeft, parts_first, parts_next}
use Rattle.xcf_image.specs.Image.{version_of, kind_places, image_of}
use Rattle.xcf_image.specs.Parts.{rows_from}
use Rattle.xcf_image.proofs.ImageLength.{tag_length, version_old_or_new}
use Rattle.xcf_image.proofs.ImageParts.{channels_on, layers_on, end_on, compression_on, sides_on, tag_on, magic_on, image_parts}
use Rattle.xcf_image.proofs.Image.put.Goals as goal

-- what is left of the structure, before its first part and behind each
abbrev Left : List ℕ → ℕ → Canvas → List Row → List ℕ → (Canvas → ℕ → List ℕ → List ℕ → List ℕ) → ℕ → List ℕ → Type 0
Left old to c rs ps on next output =
    PartsLeft old to (image_of c rs ps) (on c (version_of rs) (kind_places Kind.layer rs ps) (kind_places Kind.channel rs ps)) next output

module _ {old : List ℕ} {to : ℕ} (c : Canvas) (rs : List Row) (ps : List ℕ) (room : to + length (image_of c rs ps) ≤ length old) where
  magic_left : Left old to c rs ps magic_on to old
  magic_left = parts_first (image_parts _ _ _ _) room

  module _ {r₁ : ℕ} {o₁ : List ℕ} (p₁ : Put old to magic r₁ o₁) where
    tag_left : Left old to c rs ps tag_on r₁ o₁
    tag_left = parts_next p₁ magic_left

    module _ {r₂ : ℕ} {o₂ : List ℕ} (p₂ : Put o₁ r₁ (get_or tags (version_of rs) []) r₂ o₂) where
      sides_left : Left old to c rs ps sides_on r₂ o₂
      sides_left = parts_next p₂ tag_left

      module _ {r₃ : ℕ} {o₃ : List ℕ} (p₃ : Put o₂ r₂ (words (c.width ∷ c.height ∷ c.base ∷ 17 ∷ 1 ∷ [])) r₃ o₃) where
        compression_left : Left old to c rs ps compression_on r₃ o₃
        compression_left = parts_next p₃ sides_left

        module _ {r₄ : ℕ} {o₄ : List ℕ} (p₄ : Put o₃ r₃ (1 ∷ []) r₄ o₄) where
          end_left : Left old to c rs ps end_on r₄ o₄
          end_left = parts_next p₄ compression_left

          module _ {r₅ : ℕ} {o₅ : List ℕ} (p₅ : Put o₄ r₄ (words (0 ∷ 0 ∷ [])) r₅ o₅) where
            layers_left : Left old to c rs ps layers_on r₅ o₅
            layers_left = parts_next p₅ end_left

            channels_left : {r₆ : ℕ} {o₆ : List ℕ} → Put o₅ r₅ (words (kind_places Kind.layer rs ps ++ (0 ∷ []))) r₆ o₆ → Left old to c rs ps channels_on r₆ o₆
            channels_left p₆ = parts_next p₆ layers_left

pub bytes-requires : goal.bytes-requires
bytes-requires c =
    let image = c.args.self.now in
    omega (arith, rw length-append at (magic_left image.canvas (rows_from image.table.now image.used 0) c.args.places.now c.requires.room).fits.room)

pub put_tag-requires : goal.put_tag-requires
put_tag-requires c =
    let image = c.args.self.now in
    let rows = rows_from image.table.now image.used 0 in
    let known = tag_length _ (version_old_or_new rows) in
    let left = tag_left image.canvas rows c.args.places.now c.requires.room c.bytes.ensures.stores in
    omega (arith, known, rw length-append at left.fits.room)

pub words-requires : goal.words-requires
words-requires c =
    let image = c.args.self.now in
    let rows = rows_from image.table.now image.used 0 in
    let tag = rw c.has_new_mode.ensures at c.put_tag.ensures.stores in
    let left = sides_left image.canvas rows c.args.places.now c.requires.room c.bytes.ensures.stores tag in
    omega (arith, rw (length-append, words_length) at left.fits.room)

pub byte-requires : goal.byte-requires
byte-requires c =
    let image = c.args.self.now in
    let rows = rows_from image.table.now image.used 0 in
    let tag = rw c.has_new_mode.ensures at c.put_tag.ensures.stores in
    let left = compression_left image.canvas rows c.args.places.now c.requires.room c.bytes.ensures.stores tag c.words.ensures.stores in
    omega (arith, left.fits.room)

pub words-requires-2 : goal.words-requires-2
words-requires-2 c =
    let image = c.args.self.now in
    let rows = rows_from image.table.now image.used 0 in
    let tag = rw c.has_new_mode.ensures at c.put_tag.ensures.stores in
    let left = end_left image.canvas rows c.args.places.now c.requires.room c.bytes.ensures.stores tag c.words.ensures.stores c.byte.ensures.stores in
    omega (arith, rw (length-append, words_length) at left.fits.room)

pub put_pointers-requires-clause-room : goal.put_pointers-requires-clause-room
put_pointers-requires-clause-room c =
    let image = c.args.self.now in
    let rows = rows_from image.table.now image.used 0 in
    let tag = rw c.has_new_mode.ensures at c.put_tag.ensures.stores in
    let left = layers_left image.canvas rows c.args.places.now c.requires.room c.bytes.ensures.stores tag c.words.ensures.stores c.byte.ensures.stores c.words-2.ensures.stores in
    omega (arith, rw length-append at left.fits.room)

pub put_pointers-requires-2-clause-room : goal.put_pointers-requires-2-clause-room
put_pointers-requires-2-clause-room c =
    let image = c.args.self.now in
    let rows = rows_from image.table.now image.used 0 in
    let tag = rw c.has_new_mode.ensures at c.put_tag.ensures.stores in
    let left = channels_left image.canvas rows c.args.places.now c.requires.room c.bytes.ensures.stores tag c.words.ensures.stores c.byte.ensures.stores c.words-2.ensures.stores c.put_pointers.ensures.stores in
    left.fits.room

pub returns-clause-stores : goal.returns-clause-stores
returns-clause-stores c =
    let image = c.args.self.now in
    let rows = rows_from image.table.now image.used 0 in
    let tag = rw c.has_new_mode.ensures at c.put_tag.ensures.stores in
    let left = channels_left image.canvas rows c.args.places.now c.requires.room c.bytes.ensures.stores tag c.words.ensures.stores c.byte.ensures.stores c.words-2.ensures.stores c.put_pointers.ensures.stores in
    left.whole _ _ c.put_pointers-2.ensures.stores
