-- The contracts of the rows' functions, by name.
use Rattle.std.specs.Prelude.{ℕ, ◌+◌, ◌≤◌, ◌<◌, ◌≡◌, List, [], ◌∷◌, length, take, drop}
use Rattle.xcf_numbers.specs.Limit.{table_rows, name_limit}
use Rattle.xcf_table.specs.Table.{row_at}
use Rattle.xcf_drawable.specs.Drawable.{Drawable, drawable_size}
use Rattle.xcf_grid.specs.Drawn.{InRange, Drawn}
use Rattle.xcf_body.specs.Rows.{pixels_size, places_from}

-- the most bytes of a drawable's pixels
abbrev pub pixel_limit : ℕ
pixel_limit = 1073741824

-- the first n rows of a table in range
abbrev pub RowsInRange : List ℕ → ℕ → Type 0
RowsInRange table n = (k : ℕ) → k < n → InRange (row_at table k)

-- row k of a table in range, with its pixels, and with its name among the names
pub record RowReady (table names : List ℕ) (k : ℕ) (pixels : List ℕ) : Type 0 where
  pub drawn : Drawn (row_at table k) pixels
  pub named : (row_at table k).name + (row_at table k).namelen ≤ length names
  pub short : (row_at table k).namelen ≤ name_limit

-- the first n rows in range, with their names among the names, and the pixels of all of them
pub record RowsReady (table names pixels : List ℕ) (n : ℕ) : Type 0 where
  pub few : n ≤ table_rows
  pub range : RowsInRange table n
  pub named : (k : ℕ) → k < n → (row_at table k).name + (row_at table k).namelen ≤ length names
  pub short : (k : ℕ) → k < n → (row_at table k).namelen ≤ name_limit
  pub whole : length pixels ≡ pixels_size table n 0

-- where drawables end, one behind the other from p on
unfoldable pub end_of : List Drawable → ℕ → ℕ
end_of [] p = p
end_of (d ∷ ds) p = end_of ds (p + drawable_size d)

-- a list of places goes on from k with those of drawables that begin at p
pub record Placed (places : List ℕ) (k : ℕ) (ds : List Drawable) (p : ℕ) : Type 0 where
  pub same : take (length (places_from ds p)) (drop k places) ≡ places_from ds p
