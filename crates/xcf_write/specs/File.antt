-- A file: the image's structure, then each drawable, without gaps. Lengths come first, places from them.
use Rattle.std.specs.Prelude.{ℕ, List, [], ◌++◌, map, length}
use Rattle.xcf_table.specs.declared.Row.{Row}
use Rattle.xcf_table.specs.declared.canvas.Canvas.{Canvas}
use Rattle.xcf_drawable.specs.Drawable.{Drawable}
use Rattle.xcf_body.specs.Rows.{drawables_bytes, places_from}
use Rattle.xcf_image.specs.Image.{image_of}

-- the drawables' rows
abbrev pub rows_of : List Drawable → List Row
rows_of = map (λ d. d.row)

-- the length of the image's structure: where the first drawable begins
unfoldable pub image_size : Canvas → List Drawable → ℕ
image_size c ds = length (image_of c (rows_of ds) [])

unfoldable pub file_bytes : Canvas → List Drawable → List ℕ
file_bytes c ds =
    let start = image_size c ds in image_of c (rows_of ds) (places_from ds start) ++ drawables_bytes ds start
