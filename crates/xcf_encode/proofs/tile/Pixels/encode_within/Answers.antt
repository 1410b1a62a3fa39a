-- The streams that were gathered are the tile's, so their encodings are.
use Rattle.xcf_encode.proofs.Parts.{tile_encoding}
use Rattle.xcf_encode.proofs.tile.Pixels.encode_within.Goals as goal

pub returns : goal.returns
returns c =
    let s = c.args.self in
    rw (c.new.ensures, tile_encoding s.count s.depth s.bytes.now _ c.gather.ensures) at c.encode.ensures
