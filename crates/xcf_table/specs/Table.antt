-- The row table: 128 rows of 16 numbers.
use Rattle.std.specs.Prelude.{ℕ, ◌≡◌, ◌+◌, ◌-◌, ◌*◌, List, [], ◌∷◌, ◌++◌, cond, length, get_or, take, replicate, leb}
use Rattle.std.proofs.Math.Seq.{paste}
use Rattle.xcf_numbers.specs.Limit.{row_size, table_size}
use Rattle.xcf_table.specs.declared.Row.{Row}

-- a row's numbers, fields 0 to 15
abbrev pub row_numbers : Row → List ℕ
row_numbers r =
    r.kind ∷ r.width ∷ r.height ∷ r.depth ∷ r.form ∷ r.name ∷ r.namelen ∷ r.list ∷ r.pointers ∷ r.count
    ∷ r.opacity ∷ r.flags ∷ r.dx ∷ r.dy ∷ r.mode ∷ r.owner ∷ []

abbrev pub NumbersOf : Row → List ℕ → Type 0
NumbersOf r numbers = numbers ≡ row_numbers r

-- rows one after another: how many, and their numbers
pub record Rows : Type 0 where
  pub count : ℕ
  pub numbers : List ℕ

abbrev pub no_rows : Rows
no_rows = record { count = 0; numbers = [] }

unfoldable pub add_row : Rows → Row → Rows
add_row rows r = record { count = rows.count + 1; numbers = rows.numbers ++ row_numbers r }

-- a table with its row k replaced, or as it is where it has no such row
unfoldable pub put_row : List ℕ → ℕ → Row → List ℕ
put_row table k r = cond (leb (row_size * (k + 1)) (length table)) (paste table (row_size * k) (row_numbers r) row_size) table

-- a table with zeros from its row k on
unfoldable pub clear_from : List ℕ → ℕ → List ℕ
clear_from table k = take (row_size * k) table ++ replicate (length table - row_size * k) 0

-- the 16 numbers from a place on, as a row
abbrev pub row_in : List ℕ → ℕ → Row
row_in table at = record {
  kind = get_or table at 0;
  width = get_or table (at + 1) 0;
  height = get_or table (at + 2) 0;
  depth = get_or table (at + 3) 0;
  form = get_or table (at + 4) 0;
  name = get_or table (at + 5) 0;
  namelen = get_or table (at + 6) 0;
  list = get_or table (at + 7) 0;
  pointers = get_or table (at + 8) 0;
  count = get_or table (at + 9) 0;
  opacity = get_or table (at + 10) 0;
  flags = get_or table (at + 11) 0;
  dx = get_or table (at + 12) 0;
  dy = get_or table (at + 13) 0;
  mode = get_or table (at + 14) 0;
  owner = get_or table (at + 15) 0;
}

abbrev pub RowOf : List ℕ → Row → Type 0
RowOf numbers r = r ≡ row_in numbers 0

-- a row that is not used: its numbers are 0
abbrev pub unused_row : Row
unused_row = row_in [] 0

abbrev pub IsUnused : Row → Type 0
IsUnused r = r ≡ unused_row

-- row k of a table, or an unused row where the table has no such row
unfoldable pub row_at : List ℕ → ℕ → Row
row_at table k = cond (leb (row_size * (k + 1)) (length table)) (row_in table (row_size * k)) unused_row

-- the first k rows of a table
abbrev pub rows_in : ℕ → List ℕ → Rows
rows_in k table = record { count = k; numbers = take (row_size * k) table }

-- the table of some rows: unused rows are zero
unfoldable pub table_of : Rows → List ℕ
table_of rows = rows.numbers ++ replicate (table_size - length rows.numbers) 0
