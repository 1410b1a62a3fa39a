-- The rows that the writer takes are those that a reader could have given, less what is excepted (RULES, "Usable rows"): of a table
-- with a reader's rows, and with what is excepted, no row is bad; and where no row is bad, what is excepted holds.
use Rattle.std.specs.Prelude.{ℕ, ◌+◌, ◌*◌, ◌≤◌, ◌<◌, ◌≡◌, List, length}
use Rattle.xcf_numbers.specs.Limit.{written_type_limit, mode_limit, name_limit, table_rows}
use Rattle.xcf_numbers.specs.Flag
use Rattle.xcf_numbers.specs.Flag.{flag_of}
use Rattle.xcf_numbers.specs.Kind
use Rattle.xcf_table.specs.declared.Row.{Row}
use Rattle.xcf_table.specs.Name.{Told}
use Rattle.xcf_table.specs.Table.{row_at}
use Rattle.xcf_table.specs.declared.canvas.Canvas.{Canvas}
use Rattle.xcf_read.specs.Answer.{reading}
use Rattle.xcf_usable.specs.Usable.{count_before, is_active_layer, is_active_channel, is_selection, bad_row}
use Rattle.xcf_round_trip.specs.RoundTrip.{with_places}

-- what is asked of each row: a short name among the lent bytes, a flag that says what these bytes of it are, no places in a file, no mode
-- and no type that is not written, no flag from the group's on but that of the name
pub record RowExcepted (names : List ℕ) (r : Row) : Type 0 where
  pub short : r.namelen ≤ name_limit
  pub named : r.name + r.namelen ≤ length names
  pub told : Told names r
  pub list : r.list ≡ 0
  pub pointers : r.pointers ≡ 0
  pub mode : r.mode ≤ mode_limit
  pub form : r.form ≤ written_type_limit
  pub ungrouped : r.flags < Flag.group + Flag.not_utf8 * flag_of r.flags Flag.not_utf8

-- and of all together: one selection at most, one active layer, one active mask or channel
pub record RowsExcepted (table : List ℕ) : Type 0 where
  pub selection : count_before is_selection table table_rows ≤ 1
  pub layer : count_before is_active_layer table table_rows ≤ 1
  pub channel : count_before is_active_channel table table_rows ≤ 1

-- any file that is accepted, and any table with its rows but for fields 5, 7 and 8, and with no name place in an unused row
abbrev pub GivenIsTaken : Type 0
GivenIsTaken =
    (file lent table names : List ℕ) →
    let x = reading file lent in
    x.answer.number ≡ 0
    → ((k : ℕ) → k < table_rows → let r = row_at table k in r ≡ with_places (row_at x.table k) r.name r.list r.pointers)
    → ((k : ℕ) → k < table_rows → RowExcepted names (row_at table k))
    → ((k : ℕ) → k < table_rows → (row_at table k).kind ≡ Kind.unused → (row_at table k).name ≡ 0)
    → RowsExcepted table
    → bad_row (record { width = x.answer.width; height = x.answer.height; base = x.answer.base }) names table ≡ table_rows

-- and where no row is bad, all that is asked holds
abbrev pub TakenIsExcepted : Type 0
TakenIsExcepted =
    (c : Canvas) (table names : List ℕ) → bad_row c names table ≡ table_rows
    → ((k : ℕ) → k < table_rows → RowExcepted names (row_at table k)) × RowsExcepted table
