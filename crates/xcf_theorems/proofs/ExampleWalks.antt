-- What the walk gives for the example files and for a property, and that it does not pass over the byte in which two of them differ:
-- the rules at their bytes, computed.
-- Assumes nothing.
use Prim.Native.Nat.{ℕ}
use mathlib.Core.Path.{◌≡◌, refl}
use mathlib.Core.List.{List, [], ◌∷◌, ◌++◌}
use mathlib.Core.Bool.{false}
use Rattle.xcf_numbers.specs.Refusal
use Rattle.xcf_numbers.specs.Version
use Rattle.xcf_property.specs.declared.Properties.{Properties}
use Rattle.xcf_read_laws.specs.Widths.{up_to_base}
use Rattle.xcf_utf8.specs.Utf8.{begun, well_formed_from}
use Rattle.xcf_walk.specs.Walk.{Outcome, got, refused, run, bytes, here, must, file_length, jump, loop, turns}
use Rattle.xcf_store.specs.Word.{big_endian, word_of}
use Rattle.xcf_walk.specs.Fields.{number, word, string}
use Rattle.xcf_property.specs.Property.{layer_list, length_ok, content_of, is_colour_map, is_floating, lacks_map, allowed, active_type, put}
use Rattle.xcf_walk.specs.Property.{payload, content, property, property_turn, properties}
use Rattle.xcf_walk.specs.Pointers.{pointers, tiles}
use Rattle.xcf_walk_laws.proofs.Passes.{passes}
use Rattle.xcf_table.specs.Table.{add_row}
use Rattle.xcf_parse.specs.Header.{same, place_in, header}
use Rattle.xcf_parse.specs.Hierarchy.{agrees, pointer, rest_turn, rest, hierarchy}
use Rattle.xcf_table.specs.Canvas.{side_ok}
use Rattle.xcf_parse.specs.Drawable.{side, side_like, fields, channel}
use Rattle.xcf_row.specs.Row.{flag, name_flag, channel_flags, channel_row, channel_owner}
use Rattle.xcf_read.specs.Drawable.{channel_rows, canvas_channel_rows}
use Rattle.xcf_parse.specs.Image.{pointer_size, base_ok, base_type, precision, head}
use Rattle.xcf_read.specs.Image.{Image, drawables, canvas_of, all_rows, image}
use Rattle.xcf_theorems.specs.ExampleFile.{example_named, example_file, example_flagged}
use Rattle.xcf_theorems.specs.DamagedExample.{wide_file}
use Rattle.xcf_theorems.specs.KeptExample.{pair_file}
use Rattle.xcf_theorems.specs.Version11Example.{version11_file, version11_row, floating_property}

-- a grey canvas one pixel high with so many channels, whose walk ends at a place
abbrev pub grey : ℕ → ℕ → List ℕ → ℕ → Outcome Image
grey width count numbers end = got (record {
  head = record { version = 0; width = width; height = 1; base = 1; compression = 1 };
  rows = record { count = count; numbers = numbers };
}) end

abbrev pub wide_row : List ℕ
wide_row = 3 ∷ 65 ∷ 1 ∷ 1 ∷ 2 ∷ 67 ∷ 1 ∷ 69 ∷ 133 ∷ 2 ∷ 255 ∷ 1 ∷ 0 ∷ 0 ∷ 0 ∷ 0 ∷ []

abbrev pub pair_rows : List ℕ
pair_rows =
    (3 ∷ 1 ∷ 1 ∷ 1 ∷ 2 ∷ 71 ∷ 1 ∷ 73 ∷ 137 ∷ 1 ∷ 255 ∷ 1 ∷ 0 ∷ 0 ∷ 0 ∷ 0 ∷ [])
    ++ (3 ∷ 1 ∷ 1 ∷ 1 ∷ 2 ∷ 159 ∷ 1 ∷ 161 ∷ 225 ∷ 1 ∷ 255 ∷ 1 ∷ 0 ∷ 0 ∷ 0 ∷ 1 ∷ [])

abbrev pub version11 : Outcome Image
version11 = got (record {
  head = record { version = 11; width = 1; height = 1; base = 1; compression = 1 };
  rows = record { count = 1; numbers = version11_row };
}) 177

pub record Walks : Type 0 where
  pub example : run image example_file 0 ≡ grey 1 1 (example_flagged 1) 141
  pub latin : run image (example_named 0xE9) 0 ≡ grey 1 1 (example_flagged 33) 141
  pub wide : run image wide_file 0 ≡ grey 65 1 wide_row 145
  pub wide_free : passes image wide_file 0 145 ≡ false
  pub pair : (opcode : ℕ) → run image (pair_file opcode) 0 ≡ grey 1 2 pair_rows 233
  pub pair_free : (opcode : ℕ) → passes image (pair_file opcode) 0 233 ≡ false
  pub version11 : run image (version11_file 150 0 71 0) 0 ≡ version11
  pub up_to : got Version.wide 26 ≡ run up_to_base (version11_file 100 0 71 0) 0
  pub floating : (p : Properties) → run (property_turn (pointer_size 11) layer_list p) floating_property 0 ≡ refused Refusal.floating 0
  pub unfit : (p : Properties) → run (property_turn (pointer_size 3) layer_list p) floating_property 0 ≡ refused Refusal.bad_length 4
  pub other_precision : run image (version11_file 100 0 71 0) 0 ≡ refused Refusal.bad_precision 26
  pub last_place : run image (version11_file 150 255 255 0) 0 ≡ refused Refusal.past_end 18446744073709551615
  pub high_tile : run image (version11_file 150 0 71 1) 0 ≡ refused Refusal.bad_tile_pointer 161

pub walks : Walks
unfolding passes run bytes here must file_length jump loop turns big_endian number word begun well_formed_from string length_ok word_of content_of payload is_colour_map content property is_floating lacks_map allowed active_type put property_turn properties add_row same place_in header agrees pointer rest_turn rest tiles hierarchy side_ok side side_like fields channel flag name_flag channel_flags channel_row channel_owner channel_rows canvas_channel_rows base_ok base_type precision head pointers drawables canvas_of all_rows image
walks = record { example = refl; latin = refl; wide = refl; wide_free = refl; pair = λ _. refl; pair_free = λ _. refl; version11 = refl; up_to = refl; floating = λ _. refl; unfit = λ _. refl; other_precision = refl; last_place = refl; high_tile = refl }
