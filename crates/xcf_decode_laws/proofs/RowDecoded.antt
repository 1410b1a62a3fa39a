-- A drawable of an accepted file is decoded and not refused, given buffers that fit: its row passes every test of the decoder.
-- Assumes nothing.
use Prim.Native.Nat.{ℕ, ◌≤◌, ◌<◌}
use mathlib.Core.Path.{◌≡◌}
use mathlib.Core.List.{List}
use mathlib.Core.Bool.{true}
use borrow.Author.Tests.{le-leb, eq-eqb}
use lib.ListN.{length}
use Rattle.xcf_numbers.specs.Limit.{file_limit, table_size}
use Rattle.xcf_numbers.specs.Refusal
use Rattle.xcf_table.specs.declared.Row.{Row}
use Rattle.xcf_range.proofs.Bounds.{bounds_within}
use Rattle.xcf_store.specs.Pointer.{PointerSize}
use Rattle.xcf_store.proofs.Sizes.{size_ok}
use Rattle.xcf_read.specs.Answer.{reading, row_of}
use Rattle.xcf_read_laws.proofs.AcceptedRows.{RowRead}
use Rattle.xcf_window.specs.Usable.{in_range, in_file, decodable_row, row_refusal}
use Rattle.xcf_decode.specs.Answer.{refusal, drawable_refusal, row_decoding, decoding}
use Rattle.xcf_decode_laws.specs.Given.{Fit, decoding_given}
use Rattle.xcf_window.proofs.TilePointers.{tiles_inside}
use Rattle.xcf_read_laws.proofs.Accepts.{accepts}

-- a row that was read passes the tests of a row
module _ {size : ℕ} {f : List ℕ} {S : ℕ → Type 0} {r : Row} (sized : PointerSize size) (row : RowRead size f S r) where
  in_range_lem : in_range r ≡ true
  unfolding in_range
  in_range_lem = rw (bounds_within _ _ _ row.kind, bounds_within _ _ _ row.width, bounds_within _ _ _ row.height, bounds_within _ _ _ row.depth)

  in_file_lem : in_file size (length f) r ≡ true
  unfolding in_file
  in_file_lem = rw (eq-eqb _ _ row.count, le-leb _ _ (tiles_inside size r.count 0 f r.pointers row.tiles.pointers))

  usable : (compression : ℕ) → compression ≤ 1 → decodable_row size (length f) r compression ≡ true
  unfolding decodable_row
  usable compression way = rw (size_ok sized, in_range_lem, in_file_lem, le-leb _ _ way)

  -- and is not refused for its file, its table or its pointers
  module _ (table compression : ℕ) (small : length f ≤ file_limit) (long : table ≡ table_size) (way : compression ≤ 1) where
    row_not_refused : row_refusal size (length f) table r compression ≡ 0
    unfolding row_refusal
    row_not_refused = rw (eq-eqb _ _ long, le-leb _ _ small, usable compression way)

    decodable : drawable_refusal size f table r compression true ≡ refusal Refusal.accepted 0
    unfolding drawable_refusal
    decodable = rw (row_not_refused, ← row.tiles.pointers)

pub row_decoded : (f lent : List ℕ) → (reading f lent).answer.number ≡ 0 → (k : ℕ) → k < (reading f lent).answer.rows → (pixels marks : List ℕ)
    → Fit (reading f lent) k pixels marks
    → decoding_given f (reading f lent) k pixels marks ≡ row_decoding (reading f lent).answer.size f (row_of (reading f lent) k) (reading f lent).answer.compression
unfolding decoding
row_decoded f lent accepted k below pixels marks fit =
    let a = accepts f lent accepted in
    rw (fit, decodable a.sized (a.row k below) _ _ a.small a.long a.way)
