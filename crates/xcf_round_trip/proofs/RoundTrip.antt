-- The round trip: what an accepted call wrote is the file of its rows, which is read back with the canvas and its rows
-- (`image_read`), as the rows of the table that the reader leaves (`table_row`, `table_unused`), with their names and, decoded,
-- their pixels.
-- Assumes nothing.
use Prim.Native.Nat.{ℕ, zero, suc, ◌+◌, ◌-◌, ◌≤◌, ◌<◌}
use mathlib.Core.Path.{◌≡◌, sym, ap, ◌∙◌}
use mathlib.Core.List.{List}
use mathlib.Core.Bool.{true}
use native.Mathlib.Nat.{add-zero, zero-add}
use native.Mathlib.Omega.{arith}
use lib.ListN.{length, get_or, replicate}
use lib.Seq.{take-append_seam}
use Rattle.xcf_numbers.specs.Limit.{file_limit, table_rows, table_size}
use Rattle.xcf_numbers.specs.Kind
use Rattle.xcf_store.specs.Pointer.{narrow}
use Rattle.xcf_store.specs.Word.{part}
use Rattle.xcf_walk.specs.Walk.{got}
use Rattle.xcf_table.specs.declared.Row.{Row}
use Rattle.xcf_table.specs.Table.{no_rows, row_at, unused_row, table_of}
use Rattle.xcf_table.specs.declared.canvas.Canvas.{Canvas}
use Rattle.xcf_read.specs.Answer.{reading_of, reading}
use Rattle.xcf_read_laws.proofs.Accepted.{read_walked}
use Rattle.xcf_window.specs.Usable.{fits}
use Rattle.xcf_decode.specs.Answer.{decoding}
use Rattle.xcf_usable.specs.Usable.{seen_at, masked, usable}
use Rattle.xcf_usable.proofs.AllUsable.{all_usable}
use Rattle.xcf_usable.proofs.RowFacts.{Use, unused, layer, mask, channel, row_use, kind_listed}
use Rattle.xcf_usable.proofs.Order.{after_unused}
use Rattle.xcf_image.specs.Image.{version_of}
use Rattle.xcf_image.proofs.ImageLength.{version_old_or_new}
use Rattle.xcf_drawable.specs.Drawable.{Drawable, drawable_bytes}
use Rattle.xcf_write.specs.File.{rows_of, image_size}
use Rattle.xcf_body.specs.Rows.{used_rows}
use Rattle.xcf_write.specs.Answer.{file_of}
use Rattle.xcf_drawable.specs.Parts.{Writable}
use Rattle.xcf_write.proofs.Accepted.{InputAccepted, accepted}
use Rattle.xcf_write.proofs.RowsUsed.{used_most, used_kind}
use Rattle.xcf_write.proofs.FileLaws.{rows_length, rows_are}
use Rattle.xcf_round_trip.specs.RoundTrip.{with_places, SameName, ReadsBack, RoundTrip}
use Rattle.xcf_round_trip.proofs.Parts.{Stands, sides_size, read_row, add_all}
use Rattle.xcf_round_trip.proofs.DrawablesFrom.{drawable_of, used_drawables, drawable_at, drawable_readable, used_end}
use Rattle.xcf_round_trip.proofs.ImageRead.{head_of, size_known, image_read, row_place, row_place_some, stands_drawable}
use Rattle.xcf_round_trip.proofs.DrawableRead.{name_at_lem}
use Rattle.xcf_round_trip.proofs.DrawableDecoded.{drawable_decoded}
use Rattle.xcf_round_trip.proofs.TableRead.{rows_count, table_length, table_row, table_unused, zero_row}

-- a row that was read back is the drawable's but for its places
row_placed : {s : Row} (d : Drawable) (p : ℕ) → s ≡ read_row d p → s ≡ with_places d.row s.name s.list s.pointers
unfolding read_row
row_placed d p e = rw e

-- an unused row that is usable is zero
unused_zero : (c : Canvas) (names table : List ℕ) (k : ℕ) → usable c names table k ≡ true
    → (row_at table k).kind ≡ Kind.unused → row_at table k ≡ unused_row
unused_zero c names table k ok e = go (row_use c names table k ok)
  where
    go : Use c names k (seen_at table k) (row_at table k) (masked table k) → row_at table k ≡ unused_row
    go (unused _ z) = zero_row (row_at table k) z
    go (layer d l b) = absurd (omega (arith, l.kind))
    go (mask d ch m) = absurd (omega (arith, m.kind))
    go (channel d ch v b) = absurd (omega (arith, v.kind))

-- the file of an accepted input
module _ (c : Canvas) (table names pixels lent : List ℕ) (low : (i : ℕ) → get_or table i 0 < 4294967296)
    (size : length lent ≡ table_size) (a : InputAccepted c table names (length pixels))
    (small : length (file_of c table names pixels) ≤ file_limit) where
  all : (k : ℕ) → k < table_rows → usable c names table k ≡ true
  all = all_usable c names table a.usable

  abbrev ds : List Drawable
  ds = used_drawables table names pixels

  abbrev start : ℕ
  start = image_size c ds

  abbrev file : List ℕ
  file = file_of c table names pixels

  -- a used row's drawable, and where it stands
  abbrev drawable : ℕ → Drawable
  drawable k = drawable_of table names pixels k

  abbrev place : ℕ → ℕ
  place k = row_place c table names pixels k

  writable : (k : ℕ) → k < used_rows table → Writable (drawable k)
  writable k h = (drawable_readable c table names pixels low a k h).writable

  stands : (k : ℕ) → k < used_rows table → Stands file (place k) (drawable_bytes (drawable k) (place k))
  stands = stands_drawable c table names pixels

  -- what is read
  count : length ds ≡ used_rows table
  count = rows_length table names (used_rows table) 0 pixels

  few : length ds ≤ table_rows
  few = rw count (used_most table)

  read : reading file lent ≡ reading_of (got (record { head = head_of c (version_of (rows_of ds)); rows = add_all no_rows ds start }) 0)
  read = read_walked file lent size small (image_read c table names pixels low a small).gives

  table_read : (reading file lent).table ≡ table_of (add_all no_rows ds start)
  table_read = ap (λ x. x.table) read

  row_read : (k : ℕ) → k < used_rows table → row_at (reading file lent).table k ≡ read_row (drawable k) (place k)
  row_read k h =
      rw (table_read, ← drawable_at table names (drawable k) (used_rows table) k pixels h)
      (table_row ds start few (drawable k) k (rw count h))

  -- behind the used rows all are unused, in both tables
  unused_behind : (n : ℕ) → used_rows table + n < table_rows → (row_at table (used_rows table + n)).kind ≡ Kind.unused
  unused_behind zero h = rw add-zero (used_end table a.size)
  unused_behind (suc n) h =
      let e : used_rows table + suc n ≡ used_rows table + n + 1 = omega arith in
      rw e (after_unused c names table all (used_rows table + n) (omega arith) (unused_behind n (omega arith)))

  row_unused : (k : ℕ) → used_rows table ≤ k → k < table_rows → row_at table k ≡ unused_row
  row_unused k h l =
      let e : k ≡ used_rows table + (k - used_rows table) = omega arith in
      let zero : (row_at table k).kind ≡ Kind.unused = rw e (unused_behind (k - used_rows table) (omega arith)) in
      unused_zero c names table k (all k l) zero

  unused_back : (k : ℕ) → used_rows table ≤ k → k < table_rows
      → (row_at (reading file lent).table k ≡ unused_row) × (row_at table k ≡ unused_row)
  unused_back k above h = (rw table_read (table_unused ds start few k (rw count above) h), row_unused k above h)

  name_back : (k : ℕ) → k < used_rows table → SameName names file (row_at table k) (row_at (reading file lent).table k)
  unfolding read_row
  name_back k h =
      rw (row_read k h)
      (ap (part file (place k + sides_size (row_at table k) + 4)) (sym (writable k h).named) ∙ name_at_lem (drawable k) (stands k h))

  row_decoded : (k : ℕ) → k < used_rows table → (buffer marks : List ℕ)
      → fits (row_at table k) (length buffer) (length marks) ≡ true
      → decoding narrow file (reading file lent).table k 1 buffer marks
      ≡ record {
        answer = record { number = 0; place = 0; marked = 0 };
        pixels = (drawable k).pixels;
        marks = replicate (row_at table k).count 0;
      }
  row_decoded k h buffer marks fit =
      let listed = kind_listed c names table k (all k (omega (arith, used_most table))) in
      let kind : (1 ≤ (row_at table k).kind) × ((row_at table k).kind ≤ 3) = (omega (arith, used_kind table k h), listed) in
      drawable_decoded (drawable k) (place k) file _ k buffer marks (writable k h) kind small
      (row_place_some c table names pixels k) (stands k h) (rw table_read (table_length ds start few)) (row_read k h) fit

  reads_back : ReadsBack c table names pixels file lent
  reads_back = record {
    answer = ap (λ x. x.answer) read ∙ rw (size_known _ (version_old_or_new (rows_of ds)), rows_count, count, zero-add, rows_are table names (used_rows table) 0 pixels);
    rows = λ k h. row_placed (drawable k) _ (row_read k h);
    unused = unused_back;
    named = name_back;
    decoded = row_decoded;
  }

pub round_trip : RoundTrip
round_trip c table names pixels output lent low size e =
    let a = accepted c table names pixels output e in
    rw (a.size, a.content, take-append_seam) (reads_back c table names pixels lent low size a.input a.low)
