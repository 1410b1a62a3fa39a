-- The theorems of `specs/Statements.antt`, each proved by a citation; the examples by computing them.
-- Assumes nothing.
use mathlib.Core.Path.{refl, sym}
use mathlib.Core.List.{[], flat_map}
use native.Mathlib.Nat.{zero-add, mul-le-mul}
use native.Mathlib.Omega.{arith}
use Rattle.xcf_operation.specs.Operation.{head_of, head_at, operation_of, operation_at}
use Rattle.xcf_stream.specs.Stream.{stream_from, stream_within, stream_at}
use Rattle.xcf_stream.specs.Streams.{streams_at}
use Rattle.xcf_tile.specs.Tile.{pixel, interleave, encoded_tile, tile_in, tile_of}
use Rattle.xcf_tile_laws.proofs.Consumed.{consumed_decides}
use Rattle.xcf_tile_laws.proofs.Pixels.{pixels_are_streams as streams-give-pixels, pixels_length, marked_zero}
use Rattle.xcf_segment.specs.Segment.{leading, equal_bytes, copied_bytes, first_segment, segments_within, segments, segment_bytes, encode_stream}
use Rattle.xcf_segment.proofs.Bound.{bound}
use Rattle.xcf_encode_laws.proofs.ReadBack.{stream_read_back}
use Rattle.xcf_encode.proofs.TileBound.{tile_bound}
use Rattle.xcf_encode_laws.proofs.TileReadBack.{tile_read_back}
use Rattle.xcf_encode_laws.proofs.EncoderNumbers.{encoder_listed}
use Rattle.xcf_table.specs.Table.{table_of}
use Rattle.xcf_walk_laws.proofs.Depends.{outcome_depends}
use Rattle.xcf_utf8.proofs.Grammar.{well_formed_text}
use Rattle.xcf_walk_laws.proofs.Map.{map_rule}
use Rattle.xcf_read_laws.proofs.Accepted.{accepted_exactly, read_walked}
use Rattle.xcf_read_laws.proofs.Accepts.{accepts}
use Rattle.xcf_read_laws.proofs.ReadDepends.{read_depends}
use Rattle.xcf_read_laws.proofs.Numbers.{refusals_listed}
use Rattle.xcf_read_laws.proofs.ReaderNumbers.{reader_listed}
use Rattle.xcf_read_laws.proofs.Widths.{past_end_lem, tile_past_end, precision_rule, lengths_floating, floating_rule, reading_sized}
use Rattle.xcf_tile_laws.proofs.Marks.{mark_listed}
use Rattle.xcf_tile_laws.proofs.TileNumbers.{tile_listed}
use Rattle.xcf_tile_laws.proofs.GoodWhenValid.{tile_good_when_valid as good-when-valid}
use Rattle.xcf_grid.proofs.PixelLaws.{pixel_byte, one_tile, tile_shown}
use Rattle.xcf_decode_laws.proofs.Counted.{count_decoded, marks_counted}
use Rattle.xcf_decode_laws.proofs.Refused.{decoder_listed, counter_listed, sizes_unusable}
use Rattle.xcf_decode_laws.proofs.TilesGood.{drawable_good_when_valid}
use Rattle.xcf_decode_laws.proofs.RowDecoded.{row_decoded}
use Rattle.xcf_isolation.proofs.Kept.{good_tile_kept, good_tiles_kept}
use Rattle.xcf_isolation.proofs.Isolated.{isolated}
use Rattle.xcf_theorems.proofs.WriterNumbers.{writer_listed}
use Rattle.xcf_theorems.proofs.ListerNumbers.{lister_listed, lister_as_reader}
use Rattle.xcf_round_trip.proofs.RoundTrip.{round_trip}
use Rattle.xcf_round_trip.proofs.GivenTaken.{given_is_taken}
use Rattle.xcf_round_trip.proofs.TakenExcepted.{taken_is_excepted}
use Rattle.xcf_theorems.proofs.ExampleMaps.{example_maps}
use Rattle.xcf_theorems.proofs.ExampleVersion11.{example_floating, example_11}
use Rattle.xcf_theorems.proofs.ExampleRead.{example_read, latin_read}
use Rattle.xcf_theorems.proofs.ExampleWritten.{example_written, latin_refused}
use Rattle.xcf_theorems.proofs.ExampleListed.{example_listed}
use Rattle.xcf_theorems.proofs.ExampleDamaged.{example_damaged}
use Rattle.xcf_theorems.proofs.ExampleKept.{example_kept}
use Rattle.xcf_theorems.specs.Statements.{ReaderRefusalsAreListed, RefusalsAreListed, PassedBytesDecide, DecoderRefusalsAreListed, CounterRefusalsAreListed, TileRefusalsAreListed, MarksAreListed, EncoderRefusalsAreListed, WriterRefusalsAreListed, ListerRefusalsAreListed, ListerAnswersAsTheReader, AcceptedWithoutFault, ColourMapsAreTaken, ExampleMapsAreRead, VersionSizesPointers, PrecisionIsAsked, FloatingLengths, FloatingIsRefused, ExampleFloatingIsRefused, PointersPastTheEnd, OtherSizesAreUnusable, WellFormedIsText, NamesAreTold, ExampleNameIsTold, AcceptedRowsDecode, TileGoodWhenValid, DrawableTilesGoodWhenValid, CountIsOfTheMarks, CountIsTheDecoders, PixelsAreWhole, MarkedPixelsAreZero, PixelsAreStreams, PixelsAreTheirTiles, EachPixelHasOneTile, TilesAreShown, WrittenReadsBack, GivenRowsAreTaken, TakenRowsAreExcepted, EncodedStreamBounded, StreamReadsBack, TileReadsBack, EncodedTileFits, DamageIsIsolated, ExampleIsDamaged, GoodTileIsKept, GoodTilesAreKept, ExampleTileIsKept, StructureBytesDecide, ConsumedBytesDecide, ConsumedBytesDecideTheCall, ExamplesHold, ExampleFileIsRead, ExampleFileIsWritten, ExampleFileIsListed, ExampleOfVersion11IsRead}

-- ## Any bytes

pub reader_refusals_are_listed : ReaderRefusalsAreListed
reader_refusals_are_listed = reader_listed

pub refusals_are_listed : RefusalsAreListed
refusals_are_listed = refusals_listed

pub decoder_refusals_are_listed : DecoderRefusalsAreListed
decoder_refusals_are_listed = decoder_listed

pub counter_refusals_are_listed : CounterRefusalsAreListed
counter_refusals_are_listed = counter_listed

pub tile_refusals_are_listed : TileRefusalsAreListed
tile_refusals_are_listed = tile_listed

pub marks_are_listed : MarksAreListed
marks_are_listed = mark_listed

pub encoder_refusals_are_listed : EncoderRefusalsAreListed
encoder_refusals_are_listed = encoder_listed

pub writer_refusals_are_listed : WriterRefusalsAreListed
writer_refusals_are_listed = writer_listed

pub lister_refusals_are_listed : ListerRefusalsAreListed
lister_refusals_are_listed = lister_listed

pub lister_answers_as_the_reader : ListerAnswersAsTheReader
lister_answers_as_the_reader = lister_as_reader

-- ## Exactness

pub accepted_without_fault : AcceptedWithoutFault
accepted_without_fault file table fit short =
    let exactly = accepted_exactly file table fit short in
    (exactly.0, λ x q e. (exactly.1 x q e, read_walked file table fit short (sym e)))

pub colour_maps_are_taken : ColourMapsAreTaken
colour_maps_are_taken = map_rule

pub example_maps_are_read : ExampleMapsAreRead
example_maps_are_read = example_maps

pub version_sizes_pointers : VersionSizesPointers
version_sizes_pointers = reading_sized

pub precision_is_asked : PrecisionIsAsked
precision_is_asked = precision_rule

pub floating_lengths : FloatingLengths
floating_lengths = lengths_floating

pub floating_is_refused : FloatingIsRefused
floating_is_refused = floating_rule

pub example_floating_is_refused : ExampleFloatingIsRefused
example_floating_is_refused = example_floating

pub pointers_past_the_end : PointersPastTheEnd
pointers_past_the_end = (past_end_lem, tile_past_end)

pub other_sizes_are_unusable : OtherSizesAreUnusable
other_sizes_are_unusable = sizes_unusable

pub well_formed_is_text : WellFormedIsText
well_formed_is_text = well_formed_text

pub names_are_told : NamesAreTold
names_are_told file lent accepted k below = ((accepts file lent accepted).row k below).told

pub example_name_is_told : ExampleNameIsTold
unfolding table_of
example_name_is_told table output size = (latin_read table size, latin_refused output)

pub accepted_rows_decode : AcceptedRowsDecode
accepted_rows_decode = row_decoded

pub tile_good_when_valid : TileGoodWhenValid
tile_good_when_valid = good-when-valid

pub drawable_tiles_good_when_valid : DrawableTilesGoodWhenValid
drawable_tiles_good_when_valid = drawable_good_when_valid

pub count_is_of_the_marks : CountIsOfTheMarks
count_is_of_the_marks = marks_counted

pub count_is_the_decoders : CountIsTheDecoders
count_is_the_decoders = count_decoded

pub pixels_are_whole : PixelsAreWhole
pixels_are_whole = pixels_length

pub marked_pixels_are_zero : MarkedPixelsAreZero
marked_pixels_are_zero = marked_zero

pub pixels_are_streams : PixelsAreStreams
pixels_are_streams = streams-give-pixels

pub pixels_are_their_tiles : PixelsAreTheirTiles
pixels_are_their_tiles = pixel_byte

pub each_pixel_has_one_tile : EachPixelHasOneTile
each_pixel_has_one_tile = one_tile

pub tiles_are_shown : TilesAreShown
tiles_are_shown = tile_shown

pub written_reads_back : WrittenReadsBack
written_reads_back = round_trip

pub given_rows_are_taken : GivenRowsAreTaken
given_rows_are_taken = given_is_taken

pub taken_rows_are_excepted : TakenRowsAreExcepted
taken_rows_are_excepted = taken_is_excepted

pub encoded_stream_bounded : EncodedStreamBounded
encoded_stream_bounded = bound

pub stream_reads_back : StreamReadsBack
stream_reads_back bytes rest = rw zero-add at (stream_read_back [] bytes rest)

pub tile_reads_back : TileReadsBack
tile_reads_back = tile_read_back

pub encoded_tile_fits : EncodedTileFits
encoded_tile_fits w h depth pixels wide high deep =
    let most = tile_bound _ depth pixels (mul-le-mul wide high) deep in (most, omega (arith, most))

-- ## Isolation

pub damage_is_isolated : DamageIsIsolated
damage_is_isolated = isolated

pub example_is_damaged : ExampleIsDamaged
example_is_damaged = example_damaged

pub good_tile_is_kept : GoodTileIsKept
good_tile_is_kept = good_tile_kept

pub good_tiles_are_kept : GoodTilesAreKept
good_tiles_are_kept = good_tiles_kept

pub example_tile_is_kept : ExampleTileIsKept
example_tile_is_kept = example_kept

pub passed_bytes_decide : PassedBytesDecide
passed_bytes_decide A = outcome_depends

pub structure_bytes_decide : StructureBytesDecide
structure_bytes_decide = read_depends

pub consumed_bytes_decide : ConsumedBytesDecide
consumed_bytes_decide = consumed_decides

pub consumed_bytes_decide_the_call : ConsumedBytesDecideTheCall
consumed_bytes_decide_the_call window other w h depth compression good long same old new answer d =
    let e = consumed_decides window other w h depth compression good long same in
    record { answer = rw e d.answer; pixels = rw e d.pixels }

-- ## Examples

pub examples_hold : ExamplesHold
unfolding head_of head_at operation_of operation_at stream_from stream_within stream_at streams_at pixel interleave encoded_tile tile_in tile_of leading equal_bytes copied_bytes first_segment segments_within segments segment_bytes flat_map encode_stream
examples_hold =
    (refl, (refl, (refl, (refl, (refl, (refl, (refl, (refl, (refl, (refl, (refl, (refl, ((refl, (refl, refl)), tt)))))))))))))

pub example_file_is_read : ExampleFileIsRead
example_file_is_read = example_read

pub example_file_is_written : ExampleFileIsWritten
example_file_is_written = example_written

pub example_file_is_listed : ExampleFileIsListed
example_file_is_listed = example_listed

pub example_of_version_11_is_read : ExampleOfVersion11IsRead
example_of_version_11_is_read = example_11
