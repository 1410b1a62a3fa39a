-- The bytes of the image's structure, with the pointers and the version of a file's rows.
use Rattle.std.specs.Prelude.{ℕ, List, [], ◌∷◌, ◌++◌, Bool, cond, get_or, drop, leb, eqb}
use Rattle.xcf_numbers.specs.Limit.{new_mode}
use Rattle.xcf_numbers.specs.PropertyType
use Rattle.xcf_numbers.specs.Kind
use Rattle.xcf_table.specs.declared.Row.{Row}
use Rattle.xcf_table.specs.declared.canvas.Canvas.{Canvas}
use Rattle.xcf_parse.specs.Header.{magic, tags}
use Rattle.xcf_store.specs.Word.{words, when}
use Rattle.xcf_structure.specs.Structure.{list_bytes, Property, worded}

-- a mode that only version 2 has: 19, 20 or 21
abbrev pub is_new_mode : Row → Bool
is_new_mode r = leb new_mode r.mode

-- the version of rows: 2 where one has such a mode, else 0
unfoldable pub version_of : List Row → ℕ
version_of [] = 0
version_of (r ∷ rs) = cond (is_new_mode r) 2 (version_of rs)

-- of rows and their places, the places of those of a kind
unfoldable pub kind_places : ℕ → List Row → List ℕ → List ℕ
kind_places kind [] places = []
kind_places kind (r ∷ rs) places = when (eqb r.kind kind) (get_or places 0 0 ∷ []) ++ kind_places kind rs (drop 1 places)

-- its properties: type 17 with the value 1, then 0
unfoldable pub image_properties : List Property
image_properties = record { kind = PropertyType.compression; payload = 1 ∷ [] } ∷ worded PropertyType.end [] ∷ []

-- the image's structure, with its pointers to layers and to channels
unfoldable pub image_bytes : Canvas → ℕ → List ℕ → List ℕ → List ℕ
image_bytes c version layers channels =
    magic
    ++ (get_or tags version []
    ++ (words (c.width ∷ c.height ∷ c.base ∷ [])
    ++ (list_bytes image_properties ++ (words (layers ++ (0 ∷ [])) ++ words (channels ++ (0 ∷ []))))))

-- that of rows at these places
abbrev pub image_of : Canvas → List Row → List ℕ → List ℕ
image_of c rows places = image_bytes c (version_of rows) (kind_places Kind.layer rows places) (kind_places Kind.channel rows places)
