-- The limits of the format and of this library.
use Rattle.std.specs.Prelude.{ℕ, ◌+◌, ◌*◌}

-- the most bytes of a file, so that every place in it fits a row
abbrev pub file_limit : ℕ
file_limit = 1073741824

-- the most pixels of a canvas's or drawable's side
abbrev pub side_limit : ℕ
side_limit = 16384

-- the most bytes of a pixel
abbrev pub depth_limit : ℕ
depth_limit = 4

-- the last type of a layer, and the last that is written
abbrev pub type_limit : ℕ
type_limit = 5

abbrev pub written_type_limit : ℕ
written_type_limit = 3

-- the most that an opacity can be
abbrev pub full_opacity : ℕ
full_opacity = 255

-- the first mode that only version 2 has, and the last
abbrev pub new_mode : ℕ
new_mode = 19

abbrev pub mode_limit : ℕ
mode_limit = 21

-- the most colours of a map
abbrev pub colour_limit : ℕ
colour_limit = 256

-- the most layers and the most channels of an image
abbrev pub layer_limit : ℕ
layer_limit = 48

abbrev pub channel_limit : ℕ
channel_limit = 32

-- the most bytes of a written name
abbrev pub name_limit : ℕ
name_limit = 1024

-- a row's numbers, a table's rows, and a table's numbers
abbrev pub row_size : ℕ
row_size = 16

abbrev pub table_rows : ℕ
table_rows = 128

abbrev pub table_size : ℕ
table_size = table_rows * row_size

-- a tile's side, and the most pixels and bytes that a tile has
abbrev pub tile_side : ℕ
tile_side = 64

abbrev pub stream_limit : ℕ
stream_limit = tile_side * tile_side

abbrev pub tile_size : ℕ
tile_size = stream_limit * depth_limit

-- the most bytes of an encoded tile
abbrev pub encoded_size : ℕ
encoded_size = 16644

-- a window is cut at this many bytes
abbrev pub window_limit : ℕ
window_limit = 24576

-- bounds, rounded up, of the bytes of an image's structure and of all that is written for a drawable
abbrev pub image_limit : ℕ
image_limit = 1100

abbrev pub drawable_limit : ℕ
drawable_limit = 1100000000

-- the places of a table's drawables, and of their end
abbrev pub places_size : ℕ
places_size = table_rows + 1

-- above every number of 32 bits
abbrev pub word_limit : ℕ
word_limit = 4294967296
