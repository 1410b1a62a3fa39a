-- The rows of a table, and their places.
use Rattle.std.specs.Prelude.{ℕ, zero, suc, ◌+◌, ◌≤◌, ◌<◌, List, [], ◌∷◌, get_or}
use Rattle.xcf_numbers.specs.Limit.{file_limit}
use Rattle.xcf_table.specs.declared.Row.{Row}
use Rattle.xcf_table.specs.Table.{row_at}

-- n rows, from row k on
unfoldable pub rows_from : List ℕ → ℕ → ℕ → List Row
rows_from table zero k = []
rows_from table (suc n) k = row_at table k ∷ rows_from table n (k + 1)

-- the first n places can be pointed at
abbrev pub LowPlaces : List ℕ → ℕ → Type 0
LowPlaces places n = (k : ℕ) → k < n → get_or places k 0 ≤ file_limit
