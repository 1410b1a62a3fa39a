-- The rows that the writer takes: those that a reader could have given, less what it excepts.
use Rattle.std.specs.Prelude.{ℕ, zero, suc, ◌+◌, ◌*◌, List, [], ◌∷◌, Bool, true, cond, not, ◌&&◌, ◌||◌, Option, Some, None, leb, ltb, eqb, length}
use Rattle.xcf_numbers.specs.Limit.{written_type_limit, full_opacity, mode_limit, layer_limit, channel_limit, name_limit, table_rows}
use Rattle.xcf_numbers.specs.Kind
use Rattle.xcf_numbers.specs.Flag
use Rattle.xcf_numbers.specs.Flag.{flag_of, flag_set}
use Rattle.xcf_utf8.specs.Utf8.{well_formed}
use Rattle.xcf_table.specs.declared.Row.{Row}
use Rattle.xcf_table.specs.Name.{name_of}
use Rattle.xcf_table.specs.Table.{row_numbers, unused_row, row_at}
use Rattle.xcf_grid.specs.Grid.{tile_count}
use Rattle.xcf_table.specs.declared.canvas.Canvas.{Canvas}
use Rattle.xcf_table.specs.Canvas.{side_ok, type_ok, depth_of}
use Rattle.xcf_usable.specs.declared.seen.Seen.{Seen}

-- a kind of row
abbrev pub is_layer : Row → Bool
is_layer r = eqb r.kind Kind.layer

abbrev pub is_mask : Row → Bool
is_mask r = eqb r.kind Kind.mask

abbrev pub is_channel : Row → Bool
is_channel r = eqb r.kind Kind.channel

abbrev pub is_unused : Row → Bool
is_unused r = eqb r.kind Kind.unused

-- a row's flags, each 1 or 0 as it is set or not
abbrev pub visible : Row → ℕ
visible r = flag_of r.flags Flag.visible

abbrev pub apply : Row → ℕ
apply r = flag_of r.flags Flag.apply

abbrev pub selection : Row → ℕ
selection r = flag_of r.flags Flag.selection

abbrev pub active : Row → ℕ
active r = flag_of r.flags Flag.active

abbrev pub not_utf8 : Row → ℕ
not_utf8 r = flag_of r.flags Flag.not_utf8

-- flags that are visible, active, that of the name, and one more
abbrev pub flags_ok : ℕ → ℕ → Bool
flags_ok own flags =
    eqb flags (flag_of flags Flag.visible + own * flag_of flags own + Flag.active * flag_of flags Flag.active + Flag.not_utf8 * flag_of flags Flag.not_utf8)

-- no other flags than a layer has, or than a mask or channel has
abbrev pub layer_flags_ok : Row → Bool
layer_flags_ok r = flags_ok Flag.apply r.flags

abbrev pub channel_flags_ok : Row → Bool
channel_flags_ok r = flags_ok Flag.selection r.flags

-- an active layer; an active mask or channel; the selection
abbrev pub is_active_layer : Row → Bool
is_active_layer r = is_layer r && flag_set r.flags Flag.active

abbrev pub is_active_channel : Row → Bool
is_active_channel r = not (is_layer r) && flag_set r.flags Flag.active

abbrev pub is_selection : Row → Bool
is_selection r = not (is_layer r) && flag_set r.flags Flag.selection

-- how many of the rows before row k pass a test
unfoldable pub count_before : (Row → Bool) → List ℕ → ℕ → ℕ
count_before test table zero = 0
count_before test table (suc k) = count_before test table k + cond (test (row_at table k)) 1 0

-- the row before row k
unfoldable pub row_before : List ℕ → ℕ → Row
row_before table zero = unused_row
row_before table (suc k) = row_at table k

-- what the rows before row k are
unfoldable pub seen_at : List ℕ → ℕ → Seen
seen_at table k = record {
  layers = count_before is_layer table k;
  channels = count_before is_channel table k;
  unused = count_before is_unused table k;
  current = count_before is_active_layer table k;
  active = count_before is_active_channel table k;
  selections = count_before is_selection table k;
  row = row_before table k;
}

-- row k of a table has a mask: the row behind it is one
unfoldable pub masked : List ℕ → ℕ → Bool
masked table k = ltb k table_rows && is_mask (row_at table (k + 1))

-- a row is not a second one, where so many came before it
abbrev pub no_second : Bool → ℕ → Bool
no_second is n = not is || eqb n 0

-- what every used row has: sides, as many tiles as they take, opacity, a name among so many lent bytes, and no places in a file
unfoldable pub drawable_ok : ℕ → Row → Bool
drawable_ok names r =
    side_ok r.width
    && (side_ok r.height
    && (eqb r.count (tile_count r.width r.height)
    && (leb r.opacity full_opacity && (leb r.namelen name_limit && (leb (r.name + r.namelen) names && (eqb r.list 0 && eqb r.pointers 0))))))

-- the flag says what the name's bytes, among those lent, are
unfoldable pub name_ok : List ℕ → Row → Bool
name_ok names r = eqb (not_utf8 r) (cond (well_formed (name_of names r)) 0 1)

-- a layer's numbers: its type is 0 to 3 and the image's; it applies a mask only where it has one
unfoldable pub layer_ok : Canvas → ℕ → Row → Bool → Bool
layer_ok c k r has_mask =
    type_ok c.base r.form
    && (leb r.form written_type_limit
    && (eqb r.depth (depth_of r.form)
    && (leb r.mode mode_limit && (eqb r.owner k && (layer_flags_ok r && (eqb (apply r) 0 || has_mask))))))

-- at most 48 layers, all before the channels and the unused rows, at most one of them active
unfoldable pub layer_follows : Seen → Row → Bool
layer_follows s r = ltb s.layers layer_limit && (eqb s.channels 0 && (eqb s.unused 0 && no_second (is_active_layer r) s.current))

-- a mask's or channel's numbers; at most one of them is active, and at most one the selection
unfoldable pub channel_ok : Seen → Row → Bool
channel_ok s r =
    eqb r.depth 1
    && (eqb r.form 2
    && (eqb r.mode 0 && (channel_flags_ok r && (no_second (is_active_channel r) s.active && no_second (is_selection r) s.selections))))

-- a mask comes directly after its layer, and has its sides and offsets
unfoldable pub mask_follows : ℕ → Seen → Row → Bool
mask_follows k s r =
    is_layer s.row
    && (eqb r.width s.row.width
    && (eqb r.height s.row.height && (eqb r.dx s.row.dx && (eqb r.dy s.row.dy && eqb (r.owner + 1) k))))

-- at most 32 channels, all before the unused rows, with the canvas's sides
unfoldable pub channel_follows : Canvas → ℕ → Seen → Row → Bool
channel_follows c k s r =
    eqb r.width c.width
    && (eqb r.height c.height
    && (eqb r.dx 0 && (eqb r.dy 0 && (eqb r.owner k && (ltb s.channels channel_limit && eqb s.unused 0)))))

-- numbers that are all 0
unfoldable pub all_zero : List ℕ → Bool
all_zero [] = true
all_zero (n ∷ ns) = eqb n 0 && all_zero ns

-- a layer, a mask or a channel as row k, behind the rows seen
unfoldable pub kind_ok : Canvas → ℕ → Seen → Row → Bool → Bool
kind_ok c k s r has_mask =
    cond (is_layer r) (layer_ok c k r has_mask && layer_follows s r)
    (cond (is_mask r) (channel_ok s r && mask_follows k s r)
    (is_channel r && (channel_ok s r && channel_follows c k s r)))

-- row k, behind the rows seen: an unused row is zero
unfoldable pub usable_row : Canvas → List ℕ → ℕ → Seen → Row → Bool → Bool
usable_row c names k s r has_mask =
    cond (is_unused r) (all_zero (row_numbers r)) (drawable_ok (length names) r && (name_ok names r && kind_ok c k s r has_mask))

unfoldable pub usable : Canvas → List ℕ → List ℕ → ℕ → Bool
usable c names table k = usable_row c names k (seen_at table k) (row_at table k) (masked table k)

-- of n rows from row k on, the lowest that is not usable, or the row behind them
unfoldable pub bad_from : Canvas → List ℕ → List ℕ → ℕ → ℕ → ℕ
bad_from c names table zero k = k
bad_from c names table (suc n) k = cond (usable c names table k) (bad_from c names table n (k + 1)) k

-- the lowest bad row, or the number of rows where all are usable
unfoldable pub bad_row : Canvas → List ℕ → List ℕ → ℕ
bad_row c names table = bad_from c names table table_rows 0

-- what a search gives that names a row of the table, or the number of rows where it finds none
abbrev pub row_found : ℕ → Option ℕ
row_found k = cond (eqb k table_rows) None (Some k)
