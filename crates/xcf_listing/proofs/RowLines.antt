-- The lines of a table's rows, put one behind the other, and their marked tiles counted: what a loop over the rows has done, and that
-- it has room for the next line. A row's line stands behind those of the rows before it.
-- Assumes nothing.
use mathlib.Core.Path.{◌≡◌, sym, ap, ◌∙◌}
use mathlib.Core.List.{List, ◌++◌, append_assoc, append-nil}
use Prim.Native.Nat.{ℕ, zero, suc, ◌+◌, ◌*◌, ◌≤◌, ◌<◌}
use native.Mathlib.Nat.{add-zero, zero-add}
use native.Mathlib.Numerals.{add-one}
use native.Mathlib.Omega.{arith}
use lib.ListN.{length}
use Rattle.xcf_store.specs.Put.{PutWithin}
use Rattle.xcf_store.proofs.Stores.{put_nothing, put_length, within_next}
use Rattle.xcf_store.proofs.Room.{within_room}
use Rattle.xcf_text.specs.Text.{line_size}
use Rattle.xcf_decode.specs.Answer.{counting}
use Rattle.xcf_row_line.specs.RowLine.{row_line}
use Rattle.xcf_listing.specs.Listing.{row_lines, marked_tiles}
use Rattle.xcf_listing.proofs.Marked.{tiles_few, tiles_start, tiles_turn}

-- the first k of so many rows are listed
pub record RowsListed (size : ℕ) (file table : List ℕ) (compression rows : ℕ) (start : List ℕ) (at k end marked : ℕ) (text : List ℕ) : Type 0 where
  pub inside : k ≤ rows
  pub lines : PutWithin start at (row_lines size file table compression 0 k) (line_size * k) end text
  pub tiles : marked ≡ marked_tiles size file table compression 0 k

module _ (size : ℕ) (file table : List ℕ) (compression : ℕ) where
  abbrev line : ℕ → List ℕ
  line k = row_line table k (counting size file table k compression).marked

  -- n + 1 rows: the last behind the first n
  rows_next : (k n : ℕ) → row_lines size file table compression k (suc n) ≡ row_lines size file table compression k n ++ line (k + n)
  unfolding row_lines
  rows_next k zero = append-nil (line k) ∙ ap line (sym (add-zero k))
  rows_next k (suc n) =
      let last : k + 1 + n ≡ k + suc n = omega arith in
      let front = row_lines size file table compression (k + 1) n in
      ap (λ (r : List ℕ). line k ++ r) (rows_next (k + 1) n) ∙ sym (append_assoc (line k) front (line (k + 1 + n)))
      ∙ ap (λ (j : ℕ). line k ++ front ++ line j) last

  rows_more : (k : ℕ) → row_lines size file table compression 0 (k + 1) ≡ row_lines size file table compression 0 k ++ line k
  rows_more k = rw (add-one, rows_next 0 k, zero-add)

  no_lines : (l : List ℕ) (at : ℕ) → PutWithin l at (row_lines size file table compression 0 0) 0 at l
  unfolding row_lines
  no_lines l at = record { put = put_nothing l at; few = omega arith }

  pub rows_start : (rows : ℕ) (l : List ℕ) (at : ℕ) → RowsListed size file table compression rows l at 0 at 0 l
  rows_start rows l at = record { inside = omega arith; lines = no_lines l at; tiles = tiles_start size file table compression }

module _ {size : ℕ} {file table : List ℕ} {compression rows : ℕ} {start : List ℕ} {at k end marked : ℕ} {text : List ℕ} (l : RowsListed size file table compression rows start at k end marked text) where
  pub rows_room : at + line_size * rows ≤ length start → k < rows → end + line_size ≤ length text
  rows_room room h = within_room line_size l.lines (omega arith)

  -- the marked tiles, with this row's, are few
  pub rows_few : {n : ℕ} → n ≡ (counting size file table k compression).marked → marked + n ≤ 65536 * (k + 1)
  rows_few e = omega (arith, tiles_turn size file table compression k l.tiles e, tiles_few size file table compression 0 (k + 1))

  pub rows_turn : {n end' : ℕ} {text' : List ℕ} → k < rows → n ≡ (counting size file table k compression).marked → PutWithin text end (row_line table k n) line_size end' text' → RowsListed size file table compression rows start at (k + 1) end' (marked + n) text'
  rows_turn h e q = record {
    inside = omega arith;
    lines = rw (rows_more size file table compression k, ← e) (within_next k l.lines q);
    tiles = tiles_turn size file table compression k l.tiles e;
  }

  pub rows_whole : rows ≤ k → PutWithin start at (row_lines size file table compression 0 rows) (line_size * rows) end text × (marked ≡ marked_tiles size file table compression 0 rows)
  rows_whole h = let all : k ≡ rows = omega (arith, l.inside) in (rw all at l.lines, rw all at l.tiles)

  -- as long as it was
  pub rows_length : length text ≡ length start
  rows_length = put_length l.lines.put
