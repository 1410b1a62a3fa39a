-- The theorems of the library, each in full, under the three promises that they are about, "Any bytes", "Exactness" and "Isolation", and
-- the worked examples. `proofs/Theorems.antt` proves each by a citation.
use Rattle.std.specs.Prelude.{◌≡◌, true, ◌⊎◌, List, [], ◌∷◌, ◌++◌, ℕ, ◌+◌, ◌-◌, ◌*◌, ◌/◌, ◌≤◌, ◌<◌, length, get_or, take, drop, replicate}
use Rattle.xcf_numbers.specs.Limit.{file_limit, depth_limit, row_size, table_size, tile_side, encoded_size, window_limit}
use Rattle.xcf_numbers.specs.Mark
use Rattle.xcf_numbers.specs.PropertyType
use Rattle.xcf_numbers.specs.Refusal
use Rattle.xcf_numbers.specs.Listed.{listed}
use Rattle.xcf_numbers.specs.Version
use Rattle.xcf_utf8.specs.Utf8.{well_formed}
use Rattle.xcf_utf8.specs.Grammar.{Text}
use Rattle.xcf_stream.specs.Stream.{stream_at}
use Rattle.xcf_stream.specs.Streams.{streams_at}
use Rattle.xcf_tile.specs.Tile.{tile_of}
use Rattle.xcf_tile.specs.declared.TileAnswer.{TileAnswer}
use Rattle.xcf_tile.specs.Answer.{tile_numbers, decode_refusal, decode_answer, Decoded}
use Rattle.xcf_tile_laws.specs.Valid.{GoodWhenValid}
use Rattle.xcf_segment.specs.Segment.{segments, encode_stream}
use Rattle.xcf_encode.specs.Tile.{planes, operations_of, encode_tile}
use Rattle.xcf_encode.specs.Answer.{encoder_numbers, tile_refusal, encode_answer}
use Rattle.xcf_property.specs.declared.Properties.{Properties}
use Rattle.xcf_property.specs.Property.{image_list, layer_list, length_ok}
use Rattle.xcf_walk.specs.Walk.{Walk, got, refused, run, PassedOver}
use Rattle.xcf_walk.specs.Property.{content, property_turn}
use Rattle.xcf_walk_laws.specs.Map.{MapRule}
use Rattle.xcf_table.specs.Name.{Told}
use Rattle.xcf_table.specs.Table.{row_at}
use Rattle.xcf_parse.specs.Image.{pointer_size}
use Rattle.xcf_read.specs.Image.{Image, image, structure_byte}
use Rattle.xcf_read.specs.Answer.{refusal, refusals, verdict_numbers, reader_numbers, reading_of, reading, row_of}
use Rattle.xcf_grid.specs.Grid.{tile_width, tile_height, tile_count}
use Rattle.xcf_grid.specs.Pixels.{HasPixel, tile_at, byte_of, byte_in, pixels_of, shown}
use Rattle.xcf_window.specs.Window.{window}
use Rattle.xcf_window.specs.Usable.{fits}
use Rattle.xcf_read_laws.specs.Widths.{Sized, up_to_base, PrecisionRule, FloatingLength, FloatingRule, FloatingAt, PastEnd, TilePastEnd}
use Rattle.xcf_decode.specs.Answer.{decoder_numbers, nonzero, row_decoding, decoding, counting}
use Rattle.xcf_decode_laws.specs.Given.{Fit, decoding_given}
use Rattle.xcf_isolation.specs.Kept.{GoodTileKept, GoodTilesKept}
use Rattle.xcf_isolation.specs.Isolation.{Isolation}
use Rattle.xcf_table.specs.declared.canvas.Canvas.{Canvas}
use Rattle.xcf_write.specs.Answer.{writing, writer_numbers}
use Rattle.xcf_listing.specs.Listing.{text_size, listing, lister_numbers, ListsAsTheReader}
use Rattle.xcf_round_trip.specs.RoundTrip.{RoundTrip}
use Rattle.xcf_round_trip.specs.Taken.{GivenIsTaken, TakenIsExcepted}
use Rattle.xcf_theorems.specs.DamagedExample.{DamagedExample}
use Rattle.xcf_theorems.specs.ExampleFile.{example_named, example_file, example_flagged, example_row, example_table, example_listing}
use Rattle.xcf_theorems.specs.Examples.{table, All}
use Rattle.xcf_theorems.specs.KeptExample.{KeptExample}
use Rattle.xcf_theorems.specs.MapExample.{map_file}
use Rattle.xcf_theorems.specs.Version11Example.{version11_file, version11_row, floating_property}

-- ## Any bytes
-- Whatever it is lent, each exported call answers a number of its list (RULES, "Any bytes"). That it ends, touches nothing else and has
-- one answer is its contract, in `xcf/src/lib.rt`.

-- The reader answers 0, 11, 15 or a number of its walk.
abbrev pub ReaderRefusalsAreListed : Type 0
ReaderRefusalsAreListed = (file table : List ℕ) → listed reader_numbers (reading file table).answer.number ≡ true

-- The walk refuses with 1 to 10, 12, 13, 16 or 25.
abbrev pub RefusalsAreListed : Type 0
RefusalsAreListed = (file : List ℕ) (n p : ℕ) → refused n p ≡ run image file 0 → listed refusals n ≡ true

-- The decoder answers 0, 11, 13, 14 or 15.
abbrev pub DecoderRefusalsAreListed : Type 0
DecoderRefusalsAreListed =
    (size : ℕ) (file table : List ℕ) (k compression : ℕ) (pixels marks : List ℕ)
    → listed decoder_numbers (decoding size file table k compression pixels marks).answer.number ≡ true

-- And so does the count of marked tiles, which asks for no buffers.
abbrev pub CounterRefusalsAreListed : Type 0
CounterRefusalsAreListed =
    (size : ℕ) (file table : List ℕ) (k compression : ℕ) → listed decoder_numbers (counting size file table k compression).number ≡ true

-- The decoder of a single tile answers 0, 11 or 14.
abbrev pub TileRefusalsAreListed : Type 0
TileRefusalsAreListed =
    (window : List ℕ) (w h depth compression : ℕ) (pixels : List ℕ)
    → listed tile_numbers (decode_answer (decode_refusal w h depth compression (length pixels)) (tile_of window w h depth compression)).number ≡ true

-- A tile's mark is 0, 20 or 21.
abbrev pub MarksAreListed : Type 0
MarksAreListed =
    (window : List ℕ) (w h depth compression : ℕ) →
    let m = (tile_of window w h depth compression).mark in (m ≡ 0) ⊎ ((m ≡ Mark.short) ⊎ (m ≡ Mark.overrun))

-- The encoder of a tile answers 0, 11, 14 or 18.
abbrev pub EncoderRefusalsAreListed : Type 0
EncoderRefusalsAreListed =
    (pixels : List ℕ) (w h depth : ℕ) (output : List ℕ)
    → listed encoder_numbers (encode_answer (tile_refusal w h depth pixels (length output)) (encode_tile (w * h) depth pixels)).number ≡ true

-- The writer answers 0, 4, 5, 11, 17 or 18.
abbrev pub WriterRefusalsAreListed : Type 0
WriterRefusalsAreListed =
    (c : Canvas) (table names pixels output : List ℕ) → listed writer_numbers (writing c table names pixels output).answer.number ≡ true

-- The lister answers 0 or 11, and its verdict on the file is 0, 15 or a number of the reader's walk.
abbrev pub ListerRefusalsAreListed : Type 0
ListerRefusalsAreListed =
    (limit : ℕ) (file table text : List ℕ) →
    let a = (listing limit file table text).answer in (listed lister_numbers a.number ≡ true) × (listed verdict_numbers a.refused ≡ true)

-- With a table and a text that fit it answers 0, whatever the file, says of it what the reader says, leaves the reader's table, and has
-- put the lines of what was read; with others it answers 11 and leaves both as lent. In full in `ListsAsTheReader`.
abbrev pub ListerAnswersAsTheReader : Type 0
ListerAnswersAsTheReader = (file table text : List ℕ) → ListsAsTheReader file table text

-- ## Exactness
-- What the rules let pass is taken, nothing else is, and what is written comes back (RULES, "Exactness").

-- A file that is not too long, with a table of the right length, is accepted exactly when the walk meets no fault; and then the answer
-- and the table are what the walk gives.
abbrev pub AcceptedWithoutFault : Type 0
AcceptedWithoutFault =
    (file table : List ℕ) → length table ≡ table_size → length file ≤ file_limit
    → ((reading file table).answer.number ≡ 0 → (x : Image) × (q : ℕ) × (got x q ≡ run image file 0))
    × ((x : Image) (q : ℕ) → got x q ≡ run image file 0
    → ((reading file table).answer.number ≡ 0) × (reading file table ≡ reading_of (got x q)))

-- A colour map in the image's list is taken exactly when it has at most 256 colours, its length word says 3n + 4 or, as in files of old
-- releases, n + 4 for its n colours, and its 3n + 4 bytes are in the file; whichever its length, what follows stands behind these. Any
-- other is refused for its first fault: in full in `xcf_walk_laws/specs/Map.antt`.
abbrev pub ColourMapsAreTaken : Type 0
ColourMapsAreTaken =
    (size : ℕ) (file : List ℕ) (length_at n at : ℕ)
    → MapRule file length_at n at (run (content size image_list PropertyType.colour_map length_at n) file at)

-- Such are the maps of one file with the lengths 7 and 5, which reads the same with either; with 6 it is refused.
abbrev pub ExampleMapsAreRead : Type 0
ExampleMapsAreRead =
    (table : List ℕ) → length table ≡ table_size
    → (reading (map_file 7) table
    ≡ record {
      answer = record { number = 0; place = 0; width = 1; height = 1; base = 2; version = 1; compression = 1; rows = 0; size = 4 };
      table = replicate table_size 0;
    })
    × (reading (map_file 5) table ≡ reading (map_file 7) table)
    × ((reading (map_file 6) table).answer ≡ refusal Refusal.bad_length 30)

-- The reading says how many bytes a pointer has: 8 in version 11, 4 in versions 0 to 3, the only others that are read; a refusal says
-- 0. In full in `xcf_read_laws/specs/Widths.antt`, as are the next four.
abbrev pub VersionSizesPointers : Type 0
VersionSizesPointers = (file lent : List ℕ) → Sized (reading file lent)

-- In version 11, once the first bytes, the sides and the base type are taken, the precision word at 26 is asked for before anything
-- behind it: 1 where it is missing, else 25 unless it is 150. A file of which these are taken is in `ExampleOfVersion11IsRead`.
abbrev pub PrecisionIsAsked : Type 0
PrecisionIsAsked = (file : List ℕ) (q : ℕ) → got Version.wide q ≡ run up_to_base file 0 → PrecisionRule file q

-- A property of type 5 may have 4 bytes, in version 11 also 8, and no other length.
abbrev pub FloatingLengths : Type 0
FloatingLengths =
    (version n : ℕ)
    → (length_ok (pointer_size version) PropertyType.floating n ≡ true → FloatingLength version n)
    × (FloatingLength version n → length_ok (pointer_size version) PropertyType.floating n ≡ true)

-- And in a layer's list a type 5 of a right length whose payload is there is refused with 16; before that come its faults, 6 for its
-- length and 1 for its payload.
abbrev pub FloatingIsRefused : Type 0
FloatingIsRefused =
    (file : List ℕ) (version n at : ℕ) (p : Properties) → FloatingAt file n at
    → FloatingRule file version n at (run (property_turn (pointer_size version) layer_list p) file at)

-- Such is one of 8 bytes: in a layer's list of version 11 it is a 16, in one of another version a 6.
abbrev pub ExampleFloatingIsRefused : Type 0
ExampleFloatingIsRefused =
    (p : Properties)
    → FloatingAt floating_property 8 0
    × (run (property_turn (pointer_size 11) layer_list p) floating_property 0 ≡ refused Refusal.floating 0)
    × (run (property_turn (pointer_size 3) layer_list p) floating_property 0 ≡ refused Refusal.bad_length 4)

-- Where the pointer of a layer, a mask, a channel, a hierarchy or a first level, of whichever size, leads to no word of the file, the
-- refusal is 1 at its whole value; where a tile's is not below the file's length, it is 13 at the pointer's own place.
abbrev pub PointersPastTheEnd : Type 0
PointersPastTheEnd = ((file : List ℕ) (p : ℕ) → length file < p + 4 → PastEnd file p) × TilePastEnd

-- The decoder and the count refuse any size of pointers but 4 and 8 with 14, where the table and the file are no wrong size.
abbrev pub OtherSizesAreUnusable : Type 0
OtherSizesAreUnusable =
    (size : ℕ) (file table : List ℕ) (k compression : ℕ) (pixels marks : List ℕ) → (size ≡ 4 → ⊥) → (size ≡ 8 → ⊥)
    → length table ≡ table_size → length file ≤ file_limit
    → (decoding size file table k compression pixels marks ≡ record { answer = record { number = Refusal.unusable; place = 0; marked = 0 }; pixels = pixels; marks = marks })
    × (counting size file table k compression ≡ record { number = Refusal.unusable; place = 0; marked = 0 })

-- Bytes are well-formed exactly where they are UTF-8 text: characters one after another, each of a form of RFC 3629's grammar. In full
-- in `xcf_utf8/specs/Grammar.antt`.
abbrev pub WellFormedIsText : Type 0
WellFormedIsText = (bytes : List ℕ) → (well_formed bytes ≡ true → Text bytes) × (Text bytes → well_formed bytes ≡ true)

-- Flag 32 of each row of an accepted file is set exactly where the row's name is not well-formed.
abbrev pub NamesAreTold : Type 0
NamesAreTold =
    (file lent : List ℕ) →
    let x = reading file lent in
    x.answer.number ≡ 0 → (k : ℕ) → k < x.answer.rows → Told file (row_of x k)

-- Such is the row of the example file with a Latin-1 letter, E9, as its name: flag 32 stands beside that of a visible channel. Without it
-- the writer does not take the row with that name.
abbrev pub ExampleNameIsTold : Type 0
ExampleNameIsTold =
    (table output : List ℕ) → length table ≡ table_size
    → (reading (example_named 0xE9) table
    ≡ record {
      answer = record { number = 0; place = 0; width = 1; height = 1; base = 1; version = 0; compression = 1; rows = 1; size = 4 };
      table = example_flagged 33 ++ replicate (table_size - row_size) 0;
    })
    × (writing (record { width = 1; height = 1; base = 1 }) example_table (0xE9 ∷ []) (255 ∷ []) output
    ≡ record { answer = record { number = Refusal.bad_row; place = 0; length = 0 }; output = output })

-- The decoder refuses no row of an accepted file, where the lent buffers fit.
abbrev pub AcceptedRowsDecode : Type 0
AcceptedRowsDecode =
    (file lent : List ℕ) →
    let x = reading file lent in
    x.answer.number ≡ 0 → (k : ℕ) → k < x.answer.rows → (pixels marks : List ℕ) → Fit x k pixels marks
    → decoding_given file x k pixels marks ≡ row_decoding x.answer.size file (row_of x k) x.answer.compression

-- A tile is good exactly when its window begins with a valid encoding, and then shows that encoding's pixels; otherwise it is marked
-- and its pixels are zero (in full in `xcf_tile_laws/specs/Valid.antt`): for every window, sides, depth and compression …
abbrev pub TileGoodWhenValid : Type 0
TileGoodWhenValid =
    (window : List ℕ) (w h depth compression : ℕ) →
    let t = tile_of window w h depth compression in GoodWhenValid window w h depth compression t.mark t.pixels

-- … and for each tile of a drawable, in what the decoder leaves in buffers, whatever these held: every file, table and row that it
-- does not refuse. Such is the row of the damaged file in `ExampleIsDamaged`: one of its tiles is good, one is marked.
abbrev pub DrawableTilesGoodWhenValid : Type 0
DrawableTilesGoodWhenValid =
    (size : ℕ) (file table : List ℕ) (k compression : ℕ) (pixels marks : List ℕ) →
    let r = row_at table k in
    let d = decoding size file table k compression pixels marks in
    d.answer.number ≡ 0 → (t : ℕ) → t < r.count
    → GoodWhenValid (window size file r t) (tile_width r.width t) (tile_height r.width r.height t) r.depth compression
    (get_or d.marks t 0) (shown r.width r.height r.depth t d.pixels)

-- The count that the decoder answers is that of the marks it leaves.
abbrev pub CountIsOfTheMarks : Type 0
CountIsOfTheMarks =
    (size : ℕ) (file table : List ℕ) (k compression : ℕ) (pixels marks : List ℕ) →
    let d = decoding size file table k compression pixels marks in d.answer.number ≡ 0 → d.answer.marked ≡ nonzero d.marks

-- The count of marked tiles that asks for no buffers is the decoder's.
abbrev pub CountIsTheDecoders : Type 0
CountIsTheDecoders =
    (size : ℕ) (file table : List ℕ) (k compression : ℕ) (pixels marks : List ℕ) → fits (row_at table k) (length pixels) (length marks) ≡ true
    → counting size file table k compression ≡ (decoding size file table k compression pixels marks).answer

-- A tile has as many bytes as its pixels, marked or not.
abbrev pub PixelsAreWhole : Type 0
PixelsAreWhole = (window : List ℕ) (w h depth compression : ℕ) → length (tile_of window w h depth compression).pixels ≡ w * h * depth

-- A marked tile shows nothing but zeros.
abbrev pub MarkedPixelsAreZero : Type 0
MarkedPixelsAreZero =
    (window : List ℕ) (w h depth compression : ℕ) →
    let t = tile_of window w h depth compression in (t.mark ≡ 0 → ⊥) → t.pixels ≡ replicate (w * h * depth) 0

-- Byte m of pixel i of a good encoded tile is byte i of its stream m.
abbrev pub PixelsAreStreams : Type 0
PixelsAreStreams =
    (window : List ℕ) (w h depth m i : ℕ) →
    let s = streams_at depth (take window_limit window) 0 (w * h) in
    let t = tile_of window w h depth 1 in
    t.mark ≡ 0 → m < depth → i < w * h → get_or t.pixels (m + depth * i) 0 ≡ get_or (get_or s.planes m []) i 0

-- Byte k of pixel (x, y) of a drawable is byte k of that pixel in its own tile.
abbrev pub PixelsAreTheirTiles : Type 0
PixelsAreTheirTiles =
    (tiles : ℕ → List ℕ) (width height depth x y k : ℕ) → x < width → y < height → k < depth
    → get_or (pixels_of tiles width height depth) (byte_of width depth x y k) 0 ≡ byte_in tiles width depth x y k

-- Each pixel has exactly one tile.
abbrev pub EachPixelHasOneTile : Type 0
EachPixelHasOneTile =
    (width height x y : ℕ) → x < width → y < height
    → (tile_at width x y < tile_count width height)
    × HasPixel width height (tile_at width x y) x y
    × ((t : ℕ) → t < tile_count width height → HasPixel width height t x y → t ≡ tile_at width x y)

-- So what a drawable's pixels show of a tile is that tile.
abbrev pub TilesAreShown : Type 0
TilesAreShown =
    (tiles : ℕ → List ℕ) (width height depth t : ℕ) → 1 ≤ width → 1 ≤ depth → t < tile_count width height
    → length (tiles t) ≡ tile_width width t * tile_height width height t * depth
    → shown width height depth t (pixels_of tiles width height depth) ≡ tiles t

-- What the writer writes reads back as the same rows, names and pixels, with no tile marked; only the rows' places differ. One claim
-- over every input that the writer accepts, in full in `xcf_round_trip/specs/RoundTrip.antt`.
abbrev pub WrittenReadsBack : Type 0
WrittenReadsBack = RoundTrip

-- And no row that a reader gave is bad for the writer, but for what RULES, "Usable rows" adds; in full in
-- `xcf_round_trip/specs/Taken.antt`.
abbrev pub GivenRowsAreTaken : Type 0
GivenRowsAreTaken = GivenIsTaken

-- The other way round, where no row is bad, all that is added there holds of them.
abbrev pub TakenRowsAreExcepted : Type 0
TakenRowsAreExcepted = TakenIsExcepted

-- How long the encoding of a stream can be.
abbrev pub EncodedStreamBounded : Type 0
EncodedStreamBounded = (bytes : List ℕ) → length (encode_stream bytes) ≤ length bytes + 3 + 2 * (length bytes / 131)

-- What was encoded, followed by any bytes at all, decodes to itself: good, the same bytes, exactly the encoding consumed, its
-- operations counted.
abbrev pub StreamReadsBack : Type 0
StreamReadsBack =
    (bytes rest : List ℕ) →
    stream_at (encode_stream bytes ++ rest) 0 (length bytes)
    ≡ record { mark = 0; at = length (encode_stream bytes); operations = length (segments bytes); bytes = bytes }

-- The same of a tile, of any sides and depth that a tile can have.
abbrev pub TileReadsBack : Type 0
TileReadsBack =
    (w h depth : ℕ) (pixels rest : List ℕ) → w ≤ tile_side → h ≤ tile_side → depth ≤ depth_limit → length pixels ≡ w * h * depth →
    tile_of (encode_tile (w * h) depth pixels ++ rest) w h depth 1
    ≡ record {
      mark = 0;
      consumed = length (encode_tile (w * h) depth pixels);
      operations = operations_of (planes depth 0 (w * h) depth pixels);
      pixels = pixels;
    }

-- An encoded tile takes at most 16,644 bytes, so it fits its window.
abbrev pub EncodedTileFits : Type 0
EncodedTileFits =
    (w h depth : ℕ) (pixels : List ℕ) → w ≤ tile_side → h ≤ tile_side → depth ≤ depth_limit →
    let size = length (encode_tile (w * h) depth pixels) in (size ≤ encoded_size) × (size < window_limit)

-- ## Isolation
-- Damage stays where it is (RULES, "Isolation").

-- Damage inside the windows of some tiles changes nothing outside them. One claim over all rows and tiles of any accepted file, in
-- full in `xcf_isolation/specs/Isolation.antt`.
abbrev pub DamageIsIsolated : Type 1
DamageIsIsolated = Isolation

-- It is not empty: a copy of a file of two tiles, with a byte of the first tile's window changed, is damaged so; that tile is good in
-- one file and marked in the other.
abbrev pub ExampleIsDamaged : Type 0
ExampleIsDamaged =
    (lent pixels marks : List ℕ) → length lent ≡ table_size → length pixels ≡ 65 → length marks ≡ 2 → DamagedExample lent pixels marks

-- For one length of the file, a good tile depends only on the structure bytes and on the bytes that it consumed. Where a second file
-- agrees with an accepted one on these, it is read the same, and the tile is good in it, with the same pixels, bytes consumed and
-- operations, whatever else differs; in full in `xcf_isolation/specs/Kept.antt`.
abbrev pub GoodTileIsKept : Type 0
GoodTileIsKept = GoodTileKept

-- So for one length, the structure bytes and what the good tiles consumed decide all that is read and all that is shown of the good tiles.
abbrev pub GoodTilesAreKept : Type 0
GoodTilesAreKept = GoodTilesKept

-- Such are two files that differ in one byte of the window of the first tile, behind what it consumed, so that isolation does not say
-- that this tile is the same; and the second tile, which has that byte, is good in one file and marked in the other.
abbrev pub ExampleTileIsKept : Type 1
ExampleTileIsKept =
    (lent pixels marks : List ℕ) → length lent ≡ table_size → length pixels ≡ 1 → length marks ≡ 1 → KeptExample lent pixels marks

-- What any walk gives depends on the file's length and on the bytes that it passes over.
abbrev pub PassedBytesDecide : Type 1
PassedBytesDecide =
    (A : Type 0) (w : Walk A) (file other : List ℕ) (at : ℕ) → length file ≡ length other
    → ((i : ℕ) → PassedOver w file at i → get_or file i 0 ≡ get_or other i 0)
    → run w file at ≡ run w other at

-- So for one lent table, what the reader answers and leaves there depends on the file's length and its structure bytes.
abbrev pub StructureBytesDecide : Type 0
StructureBytesDecide =
    (file other table : List ℕ) → length file ≡ length other
    → ((i : ℕ) → structure_byte file i → get_or file i 0 ≡ get_or other i 0)
    → reading file table ≡ reading other table

-- A good tile depends only on the bytes it consumed: another window that has them first gives the same tile.
abbrev pub ConsumedBytesDecide : Type 0
ConsumedBytesDecide =
    (window other : List ℕ) (w h depth compression : ℕ) →
    let t = tile_of window w h depth compression in
    t.mark ≡ 0 → t.consumed ≤ length other → take t.consumed window ≡ take t.consumed other →
    tile_of other w h depth compression ≡ t

-- So a call with the other window gives the same answer and leaves the same pixels.
abbrev pub ConsumedBytesDecideTheCall : Type 0
ConsumedBytesDecideTheCall =
    (window other : List ℕ) (w h depth compression : ℕ) →
    let t = tile_of window w h depth compression in
    t.mark ≡ 0 → t.consumed ≤ length other → take t.consumed window ≡ take t.consumed other →
    (old new : List ℕ) (answer : TileAnswer) → Decoded window w h depth compression old answer new → Decoded other w h depth compression old answer new

-- ## Examples
-- Computed (RULES, "Examples").

-- The worked examples hold.
abbrev pub ExamplesHold : Type 0
ExamplesHold = All table

-- The example file is accepted with its canvas and its row.
abbrev pub ExampleFileIsRead : Type 0
ExampleFileIsRead =
    (table : List ℕ) → length table ≡ table_size
    → reading example_file table
    ≡ record {
      answer = record { number = 0; place = 0; width = 1; height = 1; base = 1; version = 0; compression = 1; rows = 1; size = 4 };
      table = example_row ++ replicate (table_size - row_size) 0;
    }

-- The example file is written byte for byte, and what stands behind it in the output stays.
abbrev pub ExampleFileIsWritten : Type 0
ExampleFileIsWritten =
    (output : List ℕ) → 143 ≤ length output
    → writing (record { width = 1; height = 1; base = 1 }) example_table (115 ∷ []) (255 ∷ []) output
    ≡ record { answer = record { number = 0; place = 0; length = 143 }; output = example_file ++ drop 143 output }

-- The example file is listed, in buffers that fit: its two lines, accepted, with no tile marked.
abbrev pub ExampleFileIsListed : Type 0
ExampleFileIsListed =
    (table text : List ℕ) → length table ≡ table_size → text_size ≤ length text
    → listing file_limit example_file table text
    ≡ record {
      answer = record { number = 0; place = 0; refused = 0; at = 0; marked = 0; length = 101 };
      table = example_row ++ replicate (table_size - row_size) 0;
      text = example_listing ++ drop 101 text;
    }

-- The example file in version 11, with pointers of 8 bytes, is accepted and says so; another precision, behind a base type that is
-- taken, is refused, and so is a pointer
-- to the last of all places, at its whole value, and a tile pointer whose low word alone would be right. Its pixel is decoded with
-- pointers of 8 bytes; the decoder that is told 4 finds a 0 for a tile pointer.
abbrev pub ExampleOfVersion11IsRead : Type 0
ExampleOfVersion11IsRead =
    (table pixels marks : List ℕ) → length table ≡ table_size → length pixels ≡ 1 → length marks ≡ 1 →
    let file = version11_file 150 0 71 0 in
    let x = reading file table in
    (x
    ≡ record {
      answer = record { number = 0; place = 0; width = 1; height = 1; base = 1; version = 11; compression = 1; rows = 1; size = 8 };
      table = version11_row ++ replicate (table_size - row_size) 0;
    })
    × (got Version.wide 26 ≡ run up_to_base (version11_file 100 0 71 0) 0)
    × ((reading (version11_file 100 0 71 0) table).answer ≡ refusal Refusal.bad_precision 26)
    × ((reading (version11_file 150 255 255 0) table).answer ≡ refusal Refusal.past_end 18446744073709551615)
    × ((reading (version11_file 150 0 71 1) table).answer ≡ refusal Refusal.bad_tile_pointer 161)
    × (decoding 8 file x.table 0 1 pixels marks
    ≡ record { answer = record { number = 0; place = 0; marked = 0 }; pixels = 255 ∷ []; marks = 0 ∷ [] })
    × ((decoding 4 file x.table 0 1 pixels marks).answer ≡ record { number = Refusal.bad_tile_pointer; place = 161; marked = 0 })
