-- `take_tile` meets its contract: the tile's lines fit (`lines_fit`), and they are what the pixels show of the tile (`lines_put`).
use Rattle.xcf_grid.proofs.Lines.{lines_fit, lines_put}
use Rattle.xcf_grid.proofs.take.take_tile.Goals as goal

pub take_lines-requires : goal.take_lines-requires
take_lines-requires c =
    let p = c.requires in
    lines_fit p.tiled.0 _ c.tiles_along-across.ensures.0 p.width_value.0 p.width_value.1 p.tiled.1

pub returns : goal.returns
returns c =
    let p = c.requires in
    lines_put p.tiled.0 _ _ c.tiles_along-across.ensures.0 p.width_value.0 p.width_value.1 c.take_lines.ensures
