-- The file of two channels with either opcode: the opcode is in no structure (`no_structure`) and the first tile did not consume it
-- (`not_consumed`); with 128 the second tile, which has it, is marked, so no good tile consumed it (`none_consumed`). What the reader
-- gives and the decoder shows is computed.
-- Assumes nothing.
use Prim.Native.Nat.{ℕ, zero, suc, ◌≤◌, ◌<◌}
use mathlib.Core.Path.{◌≡◌, refl, sym, ap, ◌∙◌}
use mathlib.Core.Logic.{⊎_elim}
use mathlib.Core.List.{List, [], ◌∷◌}
use native.Mathlib.Omega.{arith}
use lib.ListN.{length}
use Rattle.xcf_numbers.specs.Limit.{table_size}
use Rattle.xcf_numbers.specs.Mark
use Rattle.xcf_walk_laws.proofs.Passes.{not_passed}
use Rattle.xcf_store.specs.Word.{big_endian}
use Rattle.xcf_table.specs.Table.{row_at, table_of}
use Rattle.xcf_operation.specs.Operation.{head_of, head_at, operation_of, operation_at}
use Rattle.xcf_stream.specs.Stream.{stream_from, stream_within, stream_at}
use Rattle.xcf_stream.specs.Streams.{streams_at}
use Rattle.xcf_tile.specs.Tile.{Tile, pixel, interleave, encoded_tile, tile_in, tile_of}
use Rattle.xcf_store.specs.Pointer.{narrow}
use Rattle.xcf_read.specs.Image.{image, structure_byte}
use Rattle.xcf_read.specs.Answer.{Reading, reading_of, reading, row_of}
use Rattle.xcf_window.specs.Window.{pointer_at, window_end, window_length, window, InWindow, tile}
use Rattle.xcf_grid.specs.Pixels.{tabulate, pixels_of}
use Rattle.xcf_window.specs.Usable.{fits}
use Rattle.xcf_decode.specs.Answer.{Decoding, marks_of, nonzero, row_decoding}
use Rattle.xcf_decode_laws.specs.Given.{IsTile, tile_given, Fit, decoding_given}
use Rattle.xcf_isolation.specs.Kept.{Consumed, GoodTile, TileByte, ConsumedByGood, GoodByte}
use Rattle.xcf_decode_laws.proofs.RowDecoded.{row_decoded}
use Rattle.xcf_read_laws.proofs.Accepted.{read_walked}
use Rattle.xcf_isolation.proofs.Given.{pointers_passed}
use Rattle.xcf_theorems.specs.KeptExample.{pair_file, one_copy, KeptExample}
use Rattle.xcf_theorems.proofs.ExampleWalks.{grey, pair_rows, walks}
use Rattle.xcf_theorems.proofs.OneByte.{agree_without}

-- what the reader gives for either
abbrev given : Reading
given = reading_of (grey 1 2 pair_rows 233)

-- what the decoder leaves of a tile of one pixel, where so many are marked
abbrev one_pixel : ℕ → ℕ → ℕ → Decoding
one_pixel marked mark pixel = record { answer = record { number = 0; place = 0; marked = marked }; pixels = pixel ∷ []; marks = mark ∷ [] }

record Tiles : Type 0 where
  place : (opcode : ℕ) → pointer_at narrow (pair_file opcode) (row_of given 0) 0 ≡ 145
  first : (opcode : ℕ) → tile_given (pair_file opcode) given 0 0 ≡ one_copy
  marked : (tile_given (pair_file 128) given 1 0).mark ≡ Mark.short
  first_shown : (opcode : ℕ) → row_decoding narrow (pair_file opcode) (row_of given 0) 1 ≡ one_pixel 0 0 255
  second_shown : row_decoding narrow (pair_file 255) (row_of given 1) 1 ≡ one_pixel 0 0 255
  marked_shown : row_decoding narrow (pair_file 128) (row_of given 1) 1 ≡ one_pixel 1 Mark.short 0

tiles : Tiles
unfolding table_of marks_of nonzero row_decoding pointer_at window_end window_length window tile tabulate pixels_of row_at big_endian head_of head_at operation_of operation_at stream_from stream_within stream_at streams_at pixel interleave encoded_tile tile_in tile_of
tiles = record { place = λ _. refl; first = λ _. refl; marked = refl; first_shown = λ _. refl; second_shown = refl; marked_shown = refl }

no_structure : (opcode : ℕ) → structure_byte (pair_file opcode) 233 → ⊥
unfolding structure_byte
no_structure opcode = not_passed image (pair_file opcode) 0 233 (walks.pair_free opcode)

not_consumed : (opcode : ℕ) → Consumed (pair_file opcode) given 0 0 233 → ⊥
unfolding Consumed
not_consumed opcode c = omega (arith, rw (tiles.place opcode, tiles.first opcode) at c.1)

-- row 0 or row 1
by_row : (P : ℕ → Type 0) → P 0 → P 1 → (k : ℕ) → k < 2 → P k
by_row P p q zero below = p
by_row P p q (suc zero) below = q
by_row P p q (suc (suc k)) below = absurd (omega (arith, below))

-- each has one tile
only_tile : (t k : ℕ) → IsTile given k t → t ≡ 0
unfolding table_of row_at
only_tile t k is = by_row (λ k. t < (row_of given k).count → t ≡ 0) only only k is.row is.tile
  where
    only : t < 1 → t ≡ 0
    only below = omega (arith, below)

none_consumed : ConsumedByGood (pair_file 128) given 233 → ⊥
none_consumed c =
    let tile = only_tile c.t c.k c.good.is in
    by_row (λ k. (tile_given (pair_file 128) given k 0).mark ≡ 0 → Consumed (pair_file 128) given k 0 233 → ⊥)
    (λ _. not_consumed 128) (λ good _. let short : Mark.short ≡ 0 = sym tiles.marked ∙ good in omega (arith, short))
    c.k c.good.is.row (rw tile at c.good.good) (rw tile at c.consumed)

covers : (i : ℕ) → 145 ≤ i → i < 235 → InWindow narrow (pair_file 255) (row_of given 0) 0 i
unfolding table_of big_endian row_at InWindow pointer_at window_end window_length
covers i lo hi = (omega (arith, lo), omega (arith, hi))

first_good : GoodTile (pair_file 255) given 0 0
unfolding table_of row_at
first_good = record { is = record { row = omega arith; tile = omega arith }; good = ap (λ (t : Tile). t.mark) (tiles.first 255) }

fitting : (pixels marks : List ℕ) → length pixels ≡ 1 → length marks ≡ 1 → (k : ℕ) → k < 2 → Fit given k pixels marks
unfolding table_of fits row_at
fitting pixels marks p m = by_row (λ k. Fit given k pixels marks) (rw (p, m)) (rw (p, m))

module _ (lent pixels marks : List ℕ) (size : length lent ≡ table_size) (p : length pixels ≡ 1) (m : length marks ≡ 1) where
  read : (opcode : ℕ) → reading (pair_file opcode) lent ≡ given
  read opcode = read_walked (pair_file opcode) lent size (omega arith) (walks.pair opcode)

  accepted : (opcode : ℕ) → (reading (pair_file opcode) lent).answer.number ≡ 0
  accepted opcode = rw (read opcode)

  second_pointer : structure_byte (pair_file 255) 225
  unfolding table_of row_at
  second_pointer = pointers_passed (pair_file 255) lent (accepted 255) 1 (rw (read 255) (omega arith)) 225 (rw (read 255) (omega arith)) (rw (read 255) (omega arith))

  decoded : (opcode k : ℕ) → k < 2
      → decoding_given (pair_file opcode) (reading (pair_file opcode) lent) k pixels marks ≡ row_decoding narrow (pair_file opcode) (row_of given k) 1
  decoded opcode k below =
      let fit = fitting pixels marks p m k below in
      row_decoded (pair_file opcode) lent (accepted opcode) k (rw (read opcode) below) pixels marks (rw (read opcode) fit) ∙ rw (read opcode)

  pub example_kept : KeptExample lent pixels marks
  example_kept = record {
    accepted = accepted;
    good = rw (read 255) first_good;
    agree = rw (read 255) (agree_without (pair_file 0) 233 255 128 (TileByte (pair_file 255) given 0 0) (⊎_elim (no_structure 255) (not_consumed 255)));
    covers = rw (read 255) covers;
    structure = second_pointer;
    chosen = λ Chosen damage free.
        let inside : InWindow narrow (pair_file 255) (row_of given 0) 0 233 = covers 233 (omega arith) (omega arith) in
        damage.others 233 (λ e. omega (arith, e)) 0 0 (rw (read 255) first_good.is) free (rw (read 255) inside);
    back = rw (read 128) (agree_without (pair_file 0) 233 128 255 (GoodByte (pair_file 128) given) (⊎_elim (no_structure 128) none_consumed));
    given = λ opcode. rw (read opcode) (tiles.first opcode);
    first = λ opcode. decoded opcode 0 (omega arith) ∙ tiles.first_shown opcode;
    second = decoded 255 1 (omega arith) ∙ tiles.second_shown;
    marked = decoded 128 1 (omega arith) ∙ tiles.marked_shown;
  }
