-- The example file (RULES, "Examples") is written, and its row is not taken with a name that is not well-formed (`latin_refused`): the
-- tests of its table and its bytes are computed.
-- Assumes nothing.
use mathlib.Core.Path.{◌≡◌, refl}
use Prim.Native.Nat.{ℕ}
use mathlib.Core.List.{List, [], ◌∷◌, flat_map, flatten}
use borrow.Author.Tests.{le-leb}
use lib.ListN.{length}
use Rattle.xcf_numbers.specs.Refusal
use Rattle.xcf_utf8.specs.Utf8.{begun, well_formed_from}
use Rattle.xcf_property.specs.Property.{active_type}
use Rattle.xcf_table.specs.Table.{row_at}
use Rattle.xcf_segment.specs.Segment.{leading, equal_bytes, copied_bytes, first_segment, segments_within, segments, segment_bytes, encode_stream}
use Rattle.xcf_encode.specs.Tile.{plane, planes, encode_tile}
use Rattle.xcf_table.specs.declared.canvas.Canvas.{Canvas}
use Rattle.xcf_table.specs.Canvas.{side_ok, type_ok, depth_of}
use Rattle.xcf_grid.specs.Pixels.{tabulate, shown}
use Rattle.xcf_usable.specs.Usable.{count_before, row_before, seen_at, masked, drawable_ok, name_ok, layer_ok, layer_follows, channel_ok, mask_follows, channel_follows, kind_ok, all_zero, usable_row, usable, bad_from, bad_row}
use Rattle.xcf_store.specs.Word.{word_bytes}
use Rattle.xcf_structure.specs.Structure.{name_bytes, property_bytes, drawable_properties, structure_bytes, hierarchy_bytes, level_bytes}
use Rattle.xcf_image.specs.Image.{image_properties, version_of, kind_places, image_bytes}
use Rattle.xcf_drawable.specs.Drawable.{encoding_of, encodings, starts, structure_size, drawable_size, drawable_bytes}
use Rattle.xcf_body.specs.Rows.{drawables_bytes, places_from, used_from, pixels_size, drawables_from}
use Rattle.xcf_write.specs.File.{image_size, file_bytes}
use Rattle.xcf_write.specs.Answer.{answered, file_of, rows_refusal, input_refusal, write_answer, write_output, writing}
use Rattle.xcf_theorems.specs.ExampleFile.{example_file, example_table}
use Rattle.xcf_theorems.specs.Statements.{ExampleFileIsWritten}

abbrev canvas : Canvas
canvas = record { width = 1; height = 1; base = 1 }

accepted : (input_refusal canvas example_table (115 ∷ []) 1 ≡ answered Refusal.accepted 0 0)
    × (input_refusal canvas example_table (0xE9 ∷ []) 1 ≡ answered Refusal.bad_row 0 0)
unfolding row_at side_ok type_ok depth_of count_before row_before seen_at masked drawable_ok begun well_formed_from name_ok layer_ok layer_follows channel_ok mask_follows channel_follows kind_ok all_zero usable_row usable bad_from bad_row used_from pixels_size rows_refusal input_refusal
accepted = (refl, refl)

file : file_of canvas example_table (115 ∷ []) (255 ∷ []) ≡ example_file
unfolding row_at leading equal_bytes copied_bytes first_segment segments_within segments segment_bytes encode_stream plane planes encode_tile tabulate shown active_type masked word_bytes flat_map name_bytes property_bytes image_properties drawable_properties structure_bytes hierarchy_bytes level_bytes encoding_of encodings flatten starts structure_size drawable_size drawable_bytes drawables_bytes places_from kind_places version_of image_bytes image_size file_bytes used_from drawables_from file_of
file = refl

pub example_written : ExampleFileIsWritten
unfolding writing write_answer write_output
example_written output h = rw (accepted.0, file, le-leb 143 (length output) h)

pub latin_refused : (output : List ℕ)
    → writing canvas example_table (0xE9 ∷ []) (255 ∷ []) output ≡ record { answer = answered Refusal.bad_row 0 0; output = output }
unfolding writing write_answer write_output
latin_refused output = rw accepted.1
