-- The drawables of a table's used rows, one behind the other.
use Rattle.std.specs.Prelude.{ℕ, zero, suc, ◌+◌, List, [], ◌∷◌, ◌++◌, cond, take, drop}
use Rattle.xcf_numbers.specs.Limit.{table_rows}
use Rattle.xcf_store.specs.Word.{part}
use Rattle.xcf_table.specs.Table.{row_at}
use Rattle.xcf_usable.specs.Usable.{is_unused, masked}
use Rattle.xcf_drawable.specs.Drawable.{Drawable, drawable_size, drawable_bytes}
use Rattle.xcf_grid.specs.Drawn.{pixel_size}

-- drawables one behind the other, the first at p
unfoldable pub drawables_bytes : List Drawable → ℕ → List ℕ
drawables_bytes [] p = []
drawables_bytes (d ∷ ds) p = drawable_bytes d p ++ drawables_bytes ds (p + drawable_size d)

-- where each of them begins, and where the last ends
unfoldable pub places_from : List Drawable → ℕ → List ℕ
places_from [] p = p ∷ []
places_from (d ∷ ds) p = p ∷ places_from ds (p + drawable_size d)

-- how many of at most n rows from row k on come before the first unused one
unfoldable pub used_from : List ℕ → ℕ → ℕ → ℕ
used_from table zero k = 0
used_from table (suc n) k = cond (is_unused (row_at table k)) 0 (suc (used_from table n (k + 1)))

-- the rows that are used
abbrev pub used_rows : List ℕ → ℕ
used_rows table = used_from table table_rows 0

-- how many bytes of pixels n rows have, from row k on
unfoldable pub pixels_size : List ℕ → ℕ → ℕ → ℕ
pixels_size table zero k = 0
pixels_size table (suc n) k = pixel_size (row_at table k) + pixels_size table n (k + 1)

-- the drawable of row k, with its pixels
abbrev pub row_drawable : List ℕ → List ℕ → ℕ → List ℕ → Drawable
row_drawable table names k pixels =
    let r = row_at table k in record { row = r; has_mask = masked table k; name = part names r.name r.namelen; pixels = pixels }

-- n drawables from row k on, with their pixels in row order
unfoldable pub drawables_from : List ℕ → ℕ → ℕ → List ℕ → List ℕ → List Drawable
drawables_from table zero k names pixels = []
drawables_from table (suc n) k names pixels =
    let size = pixel_size (row_at table k) in
    row_drawable table names k (take size pixels) ∷ drawables_from table n (k + 1) names (drop size pixels)
