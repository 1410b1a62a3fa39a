-- Of an accepted file: the tile pointers of its rows are structure bytes (`pointers_passed`), and the decoder shows each tile as its
-- window gives it (`given_shown`); so it does in a file that is read the same and has the same tile (`same_shown`).
-- Assumes nothing.
use Prim.Native.Nat.{ℕ, ◌+◌, ◌*◌, ◌≤◌, ◌<◌}
use mathlib.Core.Path.{◌≡◌, refl}
use mathlib.Core.List.{List}
use native.Mathlib.Omega.{arith}
use Rattle.xcf_table.specs.declared.Row.{Row}
use Rattle.xcf_read.specs.Image.{structure_byte}
use Rattle.xcf_read.specs.Answer.{reading, row_of}
use Rattle.xcf_read_laws.proofs.AcceptedRows.{RowRead}
use Rattle.xcf_read_laws.proofs.Accepts.{accepts}
use Rattle.xcf_window.specs.Window.{tile}
use Rattle.xcf_window.proofs.TilePointers.{tiles_end}
use Rattle.xcf_decode.specs.Answer.{row_decoding}
use Rattle.xcf_decode_laws.specs.Given.{IsTile, tile_given, Fit, decoding_given}
use Rattle.xcf_decode_laws.proofs.RowDecoded.{row_decoded}
use Rattle.xcf_decode_laws.proofs.TilesShown.{row_shows}
use Rattle.xcf_isolation.specs.Kept.{Shows}

module _ (size : ℕ) {f : List ℕ} {S : ℕ → Type 0} {r : Row} (row : RowRead size f S r) where
  row_pointers_passed : (i : ℕ) → r.pointers ≤ i → i < r.pointers + size * r.count → S i
  row_pointers_passed i lo hi =
      row.tiles.passed i lo (omega (arith, hi, (tiles_end size r.count 0 f r.pointers row.tiles.pointers).0))

  row_shown : (compression t : ℕ) → t < r.count → Shows r t (tile size f r compression t) (row_decoding size f r compression)
  unfolding row_decoding
  row_shown compression t below =
      let shows = row_shows size f r compression row.width.0 row.depth.0 row.count t below in
      record { accepted = refl; mark = shows.0; pixels = shows.1 }

module _ (f lent : List ℕ) (accepted : (reading f lent).answer.number ≡ 0) where
  pub pointers_passed : (k : ℕ) → k < (reading f lent).answer.rows → (i : ℕ) → (row_of (reading f lent) k).pointers ≤ i
      → i < (row_of (reading f lent) k).pointers + (reading f lent).answer.size * (row_of (reading f lent) k).count → structure_byte f i
  pointers_passed k row = row_pointers_passed _ ((accepts f lent accepted).row k row)

  pub given_shown : (k t : ℕ) → IsTile (reading f lent) k t → (pixels marks : List ℕ) → Fit (reading f lent) k pixels marks
      → Shows (row_of (reading f lent) k) t (tile_given f (reading f lent) k t) (decoding_given f (reading f lent) k pixels marks)
  given_shown k t is pixels marks fit =
      rw (row_decoded f lent accepted k is.row pixels marks fit) (row_shown _ ((accepts f lent accepted).row k is.row) _ t is.tile)

pub same_shown : (f g lent other : List ℕ) → (reading f lent).answer.number ≡ 0 → reading g other ≡ reading f lent
    → (k t : ℕ) → IsTile (reading f lent) k t
    → tile_given g (reading f lent) k t ≡ tile_given f (reading f lent) k t
    → (pixels marks : List ℕ) → Fit (reading g other) k pixels marks
    → Shows (row_of (reading f lent) k) t (tile_given f (reading f lent) k t) (decoding_given g (reading g other) k pixels marks)
same_shown f g lent other accepted read k t is same pixels marks fit =
    rw read (rw (read, same) at (given_shown g other (rw read accepted) k t (rw read is) pixels marks fit))
