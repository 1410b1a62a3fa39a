-- A floating selection is refused (`example_floating`). The example file in version 11 is read with pointers of 8 bytes, and its pixel decoded: its walks (`walks`) and its tile are computed.
-- Assumes nothing.
use Prim.Native.Nat.{ℕ}
use mathlib.Core.Path.{◌≡◌, refl, ◌∙◌}
use mathlib.Core.List.{List, [], ◌∷◌}
use native.Mathlib.Omega.{arith}
use borrow.Author.Tests.{eq-eqb}
use lib.ListN.{length}
use Rattle.xcf_numbers.specs.Limit.{table_size}
use Rattle.xcf_numbers.specs.Refusal
use Rattle.xcf_walk.specs.Walk.{run, bytes, here, must, file_length}
use Rattle.xcf_walk.specs.Fields.{number}
use Rattle.xcf_walk.specs.Pointers.{tiles}
use Rattle.xcf_store.specs.Word.{big_endian}
use Rattle.xcf_store.specs.Pointer.{narrow, wide, pointer_size_ok}
use Rattle.xcf_table.specs.Table.{table_of, row_at}
use Rattle.xcf_operation.specs.Operation.{head_of, head_at, operation_of, operation_at}
use Rattle.xcf_stream.specs.Stream.{stream_from, stream_within, stream_at}
use Rattle.xcf_stream.specs.Streams.{streams_at}
use Rattle.xcf_tile.specs.Tile.{pixel, interleave, encoded_tile, tile_in, tile_of}
use Rattle.xcf_read.specs.Answer.{Reading, reading_of, reading, row_of}
use Rattle.xcf_read_laws.proofs.Accepted.{read_walked}
use Rattle.xcf_window.specs.Window.{pointer_at, window_end, window_length, window, tile}
use Rattle.xcf_window.specs.Usable.{in_range, in_file, decodable_row, fits, row_refusal}
use Rattle.xcf_grid.specs.Pixels.{tabulate, pixels_of}
use Rattle.xcf_decode.specs.Answer.{drawable_refusal, marks_of, nonzero, row_decoding, decoding}
use Rattle.xcf_decode_laws.proofs.RowDecoded.{row_decoded}
use Rattle.xcf_theorems.specs.Version11Example.{version11_file}
use Rattle.xcf_theorems.specs.Statements.{ExampleFloatingIsRefused, ExampleOfVersion11IsRead}
use Rattle.xcf_theorems.proofs.ExampleWalks.{version11, walks}

abbrev file : List ℕ
file = version11_file 150 0 71 0

abbrev given : Reading
given = reading_of version11

shown : row_decoding wide file (row_of given 0) 1 ≡ record { answer = record { number = 0; place = 0; marked = 0 }; pixels = 255 ∷ []; marks = 0 ∷ [] }
unfolding table_of marks_of nonzero row_decoding pointer_at window_end window_length window tile tabulate pixels_of row_at big_endian head_of head_at operation_of operation_at stream_from stream_within stream_at streams_at pixel interleave encoded_tile tile_in tile_of
shown = refl

-- told 4, the decoder reads the high word
module _ (pixels marks : List ℕ) (one : length pixels ≡ 1) (few : length marks ≡ 1) where
  told_narrow : (decoding narrow file given.table 0 1 pixels marks).answer ≡ record { number = Refusal.bad_tile_pointer; place = 161; marked = 0 }
  unfolding decoding drawable_refusal row_refusal decodable_row pointer_size_ok in_range in_file fits table_of row_at run bytes here must file_length big_endian number tiles
  told_narrow = rw (one, few)

pub example_floating : ExampleFloatingIsRefused
unfolding big_endian
example_floating p = (record { inside = omega arith; kind = refl; said = refl }, walks.floating p, walks.unfit p)

pub example_11 : ExampleOfVersion11IsRead
unfolding table_of reading row_at fits
example_11 table pixels marks size one few =
    let read : reading file table ≡ given = read_walked file table size (omega arith) walks.version11 in (
      read,
      walks.up_to,
      rw (eq-eqb (length table) table_size size, walks.other_precision),
      rw (eq-eqb (length table) table_size size, walks.last_place),
      rw (eq-eqb (length table) table_size size, walks.high_tile),
      rw read (rw read at (row_decoded file table (rw read) 0 (rw read (omega arith)) pixels marks (rw (read, one, few)))) ∙ shown,
      rw read (told_narrow pixels marks one few),
    )
