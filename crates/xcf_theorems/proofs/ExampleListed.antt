-- The example file (RULES, "Examples") is listed: it is read as `example_read` says, and its tile, its lines and their length are
-- computed.
-- Assumes nothing.
use Prim.Native.Nat.{◌-◌}
use mathlib.Core.Path.{◌≡◌, refl}
use mathlib.Core.List.{◌++◌, flat_map}
use lib.ListN.{replicate}
use Rattle.xcf_numbers.specs.Limit.{row_size, table_size}
use Rattle.xcf_walk.specs.Walk.{run, bytes, here, must, file_length}
use Rattle.xcf_walk.specs.Fields.{number}
use Rattle.xcf_walk.specs.Pointers.{tiles}
use Rattle.xcf_store.specs.Word.{big_endian}
use Rattle.xcf_store.specs.Pointer.{narrow, pointer_size_ok}
use Rattle.xcf_table.specs.Table.{row_at}
use Rattle.xcf_grid.specs.Pixels.{tabulate}
use Rattle.xcf_operation.specs.Operation.{head_of, head_at, operation_of, operation_at}
use Rattle.xcf_stream.specs.Stream.{stream_from, stream_within, stream_at}
use Rattle.xcf_stream.specs.Streams.{streams_at}
use Rattle.xcf_tile.specs.Tile.{pixel, interleave, encoded_tile, tile_in, tile_of}
use Rattle.xcf_read.specs.Answer.{Reading}
use Rattle.xcf_window.specs.Window.{pointer_at, window_end, window_length, window, tile}
use Rattle.xcf_window.specs.Usable.{in_range, in_file, decodable_row, row_refusal}
use Rattle.xcf_decode.specs.Answer.{drawable_refusal, marks_of, nonzero, counting}
use Rattle.xcf_text.specs.Text.{decimal_within, decimal, spaced}
use Rattle.xcf_line.specs.Line.{canvas_line}
use Rattle.xcf_row_line.specs.RowLine.{kind_name, row_line}
use Rattle.xcf_listing.specs.Listing.{row_lines, marked_tiles, lines_of, answer_of, listing}
use Rattle.xcf_listing.proofs.Listed.{fits_both}
use Rattle.xcf_theorems.specs.ExampleFile.{example_file, example_row, example_listing}
use Rattle.xcf_theorems.specs.Statements.{ExampleFileIsListed}
use Rattle.xcf_theorems.proofs.ExampleRead.{example_read}
use Rattle.xcf_theorems.proofs.ListerNumbers.{within_all}

-- what the reader gives
abbrev given : Reading
given = record {
  answer = record { number = 0; place = 0; width = 1; height = 1; base = 1; version = 0; compression = 1; rows = 1; size = 4 };
  table = example_row ++ replicate (table_size - row_size) 0;
}

none_marked : (counting narrow example_file given.table 0 1).marked ≡ 0
unfolding counting drawable_refusal row_refusal decodable_row pointer_size_ok in_range in_file row_at run bytes here must file_length big_endian number tiles marks_of nonzero tabulate tile window window_length window_end pointer_at head_of head_at operation_of operation_at stream_from stream_within stream_at streams_at pixel interleave encoded_tile tile_in tile_of
none_marked = refl

lines : lines_of example_file given ≡ example_listing
unfolding lines_of canvas_line row_lines row_line kind_name row_at decimal_within decimal spaced flat_map
lines = rw none_marked refl

marks : marked_tiles narrow example_file given.table 1 0 1 ≡ 0
unfolding marked_tiles
marks = rw none_marked

pub example_listed : ExampleFileIsListed
unfolding listing answer_of
example_listed table text fit room = rw (fits_both _ _ fit room, within_all example_file table fit, example_read table fit, marks, lines)
