-- A drawable that stands in a file is decoded to its own pixels, with no tile marked (`drawable_decoded`), from the row that it
-- is read back as: the row passes every test of the decoder (`decodable`), and its tiles are decoded as `TilesDecoded` says.
-- Assumes nothing.
use Prim.Native.Nat.{ℕ, ◌≤◌, ◌<◌}
use mathlib.Core.Path.{◌≡◌, refl, sym}
use mathlib.Core.Logic.{inl}
use mathlib.Core.List.{List}
use mathlib.Core.Bool.{true}
use borrow.Author.Tests.{le-leb, eq-eqb}
use lib.ListN.{length, replicate}
use Rattle.xcf_numbers.specs.Limit.{file_limit, table_size}
use Rattle.xcf_numbers.specs.Refusal
use Rattle.xcf_table.specs.Table.{row_at}
use Rattle.xcf_range.proofs.Bounds.{bounds_within}
use Rattle.xcf_store.specs.Pointer.{narrow}
use Rattle.xcf_store.proofs.Sizes.{size_ok}
use Rattle.xcf_window.specs.Usable.{in_range, in_file, decodable_row, fits, row_refusal}
use Rattle.xcf_decode.specs.Answer.{refusal, drawable_refusal, decoding}
use Rattle.xcf_window.proofs.TilePointers.{tiles_inside}
use Rattle.xcf_drawable.specs.Drawable.{Drawable, drawable_bytes}
use Rattle.xcf_drawable.specs.Parts.{Writable}
use Rattle.xcf_round_trip.proofs.Parts.{Stands, read_row}
use Rattle.xcf_round_trip.proofs.TilesDecoded.{row_decoding_lem}
use Rattle.xcf_round_trip.proofs.PointersStand.{pointed, walked}

-- buffers that fit the row as it was lent fit it as it is read back
fits_read : (d : Drawable) (p pixels marks : ℕ) → fits d.row pixels marks ≡ true → fits (read_row d p) pixels marks ≡ true
unfolding fits read_row
fits_read d p pixels marks fit = fit

module _ {f : List ℕ} {p : ℕ} (d : Drawable) (fine : Writable d) (kind : (1 ≤ d.row.kind) × (d.row.kind ≤ 3))
    (small : length f ≤ file_limit) (some : 0 < p) (s : Stands f p (drawable_bytes d p)) where
  in_range_lem : in_range (read_row d p) ≡ true
  unfolding in_range read_row
  in_range_lem =
      rw (
        bounds_within _ _ _ kind,
        bounds_within _ _ _ fine.drawn.range.wide,
        bounds_within _ _ _ fine.drawn.range.high,
        bounds_within _ _ _ fine.drawn.range.deep,
      )

  in_file_lem : in_file narrow (length f) (read_row d p) ≡ true
  unfolding in_file read_row
  in_file_lem =
      let inside = tiles_inside narrow d.row.count 0 f _ (sym (walked d s fine small some).gives) in
      rw (eq-eqb _ _ fine.drawn.range.count, le-leb _ _ inside)

  decodable : (table : ℕ) → table ≡ table_size → drawable_refusal narrow f table (read_row d p) 1 true ≡ refusal Refusal.accepted 0
  unfolding drawable_refusal row_refusal decodable_row
  decodable table size = rw (eq-eqb _ _ size, le-leb _ _ small, size_ok {size = narrow} (inl refl), in_range_lem, in_file_lem, (walked d s fine small some).gives)

pub drawable_decoded : (d : Drawable) (p : ℕ) (f table : List ℕ) (k : ℕ) (buffer marks : List ℕ)
    → Writable d → (1 ≤ d.row.kind) × (d.row.kind ≤ 3) → length f ≤ file_limit → 0 < p → Stands f p (drawable_bytes d p)
    → length table ≡ table_size → row_at table k ≡ read_row d p → fits d.row (length buffer) (length marks) ≡ true
    → decoding narrow f table k 1 buffer marks
    ≡ record { answer = record { number = 0; place = 0; marked = 0 }; pixels = d.pixels; marks = replicate d.row.count 0 }
unfolding decoding
drawable_decoded d p f table k buffer marks fine kind small some s size row fit =
    rw (
      row,
      fits_read d p (length buffer) (length marks) fit,
      decodable d fine kind small some s (length table) size,
      row_decoding_lem d p fine (pointed d s fine small some),
    )
