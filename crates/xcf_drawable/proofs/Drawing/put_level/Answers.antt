-- `put_level` meets its contract: what it stores is the level and the tiles (`level_put`).
use Rattle.xcf_drawable.proofs.LevelPut.{cut_space, level_put}
use Rattle.xcf_drawable.proofs.Drawing.put_level.Goals as goal

pub put_cut-output-requires : goal.put_cut-output-requires
put_cut-output-requires c =
    let s = c.args.self.now in cut_space s.structure.row s.pixels.now c.words.ensures.stores c.requires

pub returns-clause-stores : goal.returns-clause-stores
returns-clause-stores c =
    let s = c.args.self.now in level_put s.structure.row s.pixels.now c.words.ensures.stores c.put_cut-output.ensures
