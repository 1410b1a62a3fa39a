-- `encode` meets its contract: the tile's pixels, taken to the tile's start, are encoded without a refusal (`tile_encoded`).
use mathlib.Core.Path.{◌≡◌, ap}
use native.Mathlib.Omega.{arith}
use lib.ListN.{length}
use Rattle.xcf_numbers.specs.Limit.{tile_size}
use Rattle.xcf_grid.specs.declared.frame.Frame.{Frame}
use Rattle.xcf_grid.specs.Grid.{tile_width, tile_height}
use Rattle.xcf_drawable.proofs.EncodingBound.{tiled}
use Rattle.xcf_drawable.proofs.TileEncoding.{tile_there, tile_encoded}
use Rattle.xcf_drawable.proofs.Drawing.encode.Goals as goal

-- the pixels lie in the tile's room
pub shared_ref_as_front-encode_tile : goal.shared_ref_as_front-encode_tile
shared_ref_as_front-encode_tile c =
    let long : length c.args.tile.now ≡ tile_size = omega arith in
    let there = tile_there (tiled c.args.self.now.writable.drawn c.requires.tile) long c.take_tile-size.ensures in
    omega (arith, there.0, there.1)

-- the sides are the tile's
pub returns : goal.returns
returns c =
    let row = c.args.self.now.structure.row in
    let long : length c.args.tile.now ≡ tile_size = omega arith in
    let wide : c.of-width.result.width ≡ tile_width row.width c.args.t = ap (λ (f : Frame). f.width) c.of-width.ensures in
    let high : c.of-width.result.height ≡ tile_height row.width row.height c.args.t = ap (λ (f : Frame). f.height) c.of-width.ensures in
    tile_encoded (tiled c.args.self.now.writable.drawn c.requires.tile) long c.take_tile-size.ensures wide high c.requires.pixels_in_bounds c.encode_tile-answer.ensures
