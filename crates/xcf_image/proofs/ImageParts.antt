-- The image's structure as the code stores it, part by part (`image_parts`).
-- Assumes nothing.
use Prim.Native.Nat.{ℕ}
use mathlib.Core.Path.{◌≡◌, refl}
use mathlib.Core.List.{List, [], ◌∷◌, ◌++◌, flat_map}
use lib.ListN.{get_or}
use Rattle.xcf_table.specs.declared.canvas.Canvas.{Canvas}
use Rattle.xcf_parse.specs.Header.{magic, tags}
use Rattle.xcf_store.specs.Word.{word_bytes, words}
use Rattle.xcf_structure.specs.Structure.{property_bytes}
use Rattle.xcf_image.specs.Image.{image_properties, image_bytes}

-- from a part on to its end
module _ (c : Canvas) (v : ℕ) (ls cs : List ℕ) where
  abbrev pub channels_on : List ℕ
  channels_on = words (cs ++ (0 ∷ []))

  abbrev pub layers_on : List ℕ
  layers_on = words (ls ++ (0 ∷ [])) ++ channels_on

  abbrev pub end_on : List ℕ
  end_on = words (0 ∷ 0 ∷ []) ++ layers_on

  abbrev pub compression_on : List ℕ
  compression_on = (1 ∷ []) ++ end_on

  abbrev pub sides_on : List ℕ
  sides_on = words (c.width ∷ c.height ∷ c.base ∷ 17 ∷ 1 ∷ []) ++ compression_on

  abbrev pub tag_on : List ℕ
  tag_on = get_or tags v [] ++ sides_on

  abbrev pub magic_on : List ℕ
  magic_on = magic ++ tag_on

  pub image_parts : image_bytes c v ls cs ≡ magic_on
  unfolding image_bytes flat_map image_properties property_bytes word_bytes
  image_parts = refl
