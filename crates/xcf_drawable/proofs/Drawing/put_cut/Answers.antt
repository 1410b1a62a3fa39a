-- `put_cut` meets its contract: the pointers and the closing word fill the output up to where it is cut (`cut_put`).
use Rattle.std.proofs.Common.{rules}
use Rattle.xcf_drawable.proofs.LevelPut.{closing_room, cut_put}
use Rattle.xcf_drawable.proofs.Drawing.put_cut.Goals as goal

pub word-requires : goal.word-requires
word-requires c =
    let s = c.args.self.now in
    closing_room s.structure.row s.pixels.now c.requires (rw c.split_at_mut-level.ensures.front at c.put_tiles.ensures.links)

pub returns : goal.returns
returns c =
    let s = c.args.self.now in
    cut_put s.structure.row s.pixels.now c.requires (rw c.split_at_mut-level.ensures.front at c.put_tiles.ensures.links)
    c.word.ensures.stores (rw c.split_at_mut-level.ensures.back at c.put_tiles.ensures.tiles) (search rules)
