-- The pixels of a drawable: pixel by pixel, top row first, left to right. Each pixel is one of its tile's.
use Rattle.std.specs.Prelude.{ℕ, zero, suc, ◌+◌, ◌*◌, ◌/◌, ◌%◌, ◌≤◌, ◌<◌, List, [], ◌∷◌, get_or}
use Rattle.xcf_numbers.specs.Limit.{tile_side}
use Rattle.xcf_grid.specs.Grid.{tiles_along, side_of, tile_width, tile_height}

-- n values of a function, from its value at i on
unfoldable pub tabulate : ℕ → ℕ → (ℕ → ℕ) → List ℕ
tabulate zero i f = []
tabulate (suc n) i f = f i ∷ tabulate n (i + 1) f

-- pixel (x, y) is one of tile t
pub record HasPixel (width height t x y : ℕ) : Type 0 where
  pub left : tile_side * (t % tiles_along width) ≤ x
  pub right : x < tile_side * (t % tiles_along width) + tile_width width t
  pub top : tile_side * (t / tiles_along width) ≤ y
  pub bottom : y < tile_side * (t / tiles_along width) + tile_height width height t

-- the tile that has pixel (x, y), and that pixel's number in the tile
abbrev pub tile_at : ℕ → ℕ → ℕ → ℕ
tile_at width x y = y / tile_side * tiles_along width + x / tile_side

abbrev pub pixel_in : ℕ → ℕ → ℕ → ℕ
pixel_in width x y = y % tile_side * side_of width (x / tile_side) + x % tile_side

-- byte k of pixel (x, y) in the drawable, and in its tile
abbrev pub byte_of : ℕ → ℕ → ℕ → ℕ → ℕ → ℕ
byte_of width depth x y k = depth * (width * y + x) + k

abbrev pub byte_in : (ℕ → List ℕ) → ℕ → ℕ → ℕ → ℕ → ℕ → ℕ
byte_in tiles width depth x y k = get_or (tiles (tile_at width x y)) (depth * pixel_in width x y + k) 0

-- the pixels of a drawable, from its tiles' pixels
unfoldable pub pixels_of : (ℕ → List ℕ) → ℕ → ℕ → ℕ → List ℕ
pixels_of tiles width height depth =
    tabulate (width * height * depth) 0 (λ i. byte_in tiles width depth (i / depth % width) (i / depth / width) (i % depth))

-- byte i of tile t in the drawable
abbrev pub place_of : ℕ → ℕ → ℕ → ℕ → ℕ
place_of width depth t i =
    let x = tile_side * (t % tiles_along width) + i / depth % tile_width width t in
    let y = tile_side * (t / tiles_along width) + i / depth / tile_width width t in byte_of width depth x y (i % depth)

-- what a drawable's pixels show of tile t
unfoldable pub shown : ℕ → ℕ → ℕ → ℕ → List ℕ → List ℕ
shown width height depth t pixels =
    tabulate (tile_width width t * tile_height width height t * depth) 0 (λ i. get_or pixels (place_of width depth t i) 0)
