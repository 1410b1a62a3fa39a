-- The grid of a drawable's tiles (RULES, "Tiles").
use Rattle.std.specs.Prelude.{ℕ, ◌+◌, ◌-◌, ◌*◌, ◌/◌, ◌%◌, min}
use Rattle.xcf_numbers.specs.Limit.{tile_side}

-- how many tiles a side takes
abbrev pub tiles_along : ℕ → ℕ
tiles_along side = (side + (tile_side - 1)) / tile_side

-- the most tiles that a side of 32 bits takes
abbrev pub along_limit : ℕ
along_limit = 67108864

-- how much of a side its tile i takes
abbrev pub side_of : ℕ → ℕ → ℕ
side_of side i = min tile_side (side - tile_side * i)

abbrev pub tile_count : ℕ → ℕ → ℕ
tile_count width height = tiles_along width * tiles_along height

-- the sides of tile t
abbrev pub tile_width : ℕ → ℕ → ℕ
tile_width width t = side_of width (t % tiles_along width)

abbrev pub tile_height : ℕ → ℕ → ℕ → ℕ
tile_height width height t = side_of height (t / tiles_along width)
