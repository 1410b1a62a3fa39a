-- The file with a colour map is read with either length of the map, and refused with another: the rules at its bytes are computed.
-- Assumes nothing.
use mathlib.Core.Path.{◌≡◌, refl, sym, ◌∙◌}
use mathlib.Core.List.{[]}
use native.Mathlib.Omega.{arith}
use borrow.Author.Tests.{eq-eqb}
use lib.ListN.{length}
use Rattle.xcf_numbers.specs.Limit.{table_size}
use Rattle.xcf_numbers.specs.Refusal
use Rattle.xcf_walk.specs.Walk.{Outcome, got, refused, run, bytes, here, must, file_length, jump, loop, turns}
use Rattle.xcf_store.specs.Word.{big_endian, word_of}
use Rattle.xcf_walk.specs.Fields.{number, word}
use Rattle.xcf_property.specs.Property.{length_ok, content_of, is_colour_map, map_length_ok, is_floating, lacks_map, allowed, active_type, put}
use Rattle.xcf_walk.specs.Property.{payload, colour_map, content, property, property_turn, properties}
use Rattle.xcf_walk.specs.Pointers.{pointers}
use Rattle.xcf_table.specs.Table.{table_of}
use Rattle.xcf_parse.specs.Header.{same, place_in, header}
use Rattle.xcf_table.specs.Canvas.{side_ok}
use Rattle.xcf_parse.specs.Drawable.{side}
use Rattle.xcf_parse.specs.Image.{base_ok, base_type, precision, head}
use Rattle.xcf_read.specs.Image.{Image, drawables, canvas_of, all_rows, image}
use Rattle.xcf_read.specs.Answer.{reading}
use Rattle.xcf_read_laws.proofs.Accepted.{read_walked}
use Rattle.xcf_theorems.specs.MapExample.{map_file}
use Rattle.xcf_theorems.specs.Statements.{ExampleMapsAreRead}

abbrev empty : Outcome Image
empty = got (record {
  head = record { version = 1; width = 1; height = 1; base = 2; compression = 1 };
  rows = record { count = 0; numbers = [] };
}) 66

walked : (run image (map_file 7) 0 ≡ empty)
    × (run image (map_file 5) 0 ≡ empty)
    × (run image (map_file 6) 0 ≡ refused Refusal.bad_length 30)
unfolding run bytes here must file_length jump loop turns big_endian number word length_ok word_of content_of payload is_colour_map map_length_ok colour_map content property is_floating lacks_map allowed active_type put property_turn properties same place_in header side_ok side base_ok base_type precision head pointers drawables canvas_of all_rows image
walked = (refl, refl, refl)

pub example_maps : ExampleMapsAreRead
unfolding table_of reading
example_maps table size = (
  read_walked (map_file 7) table size (omega arith) walked.0,
  read_walked (map_file 5) table size (omega arith) walked.1 ∙ sym (read_walked (map_file 7) table size (omega arith) walked.0),
  rw (eq-eqb (length table) table_size size, walked.2),
)
