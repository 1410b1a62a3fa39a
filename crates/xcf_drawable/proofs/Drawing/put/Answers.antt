-- `put` meets its contract: what it stores is the drawable (`drawable_put`).
use Rattle.xcf_drawable.proofs.DrawablePut.{structure_room, hierarchy_room, level_space, drawable_put}
use Rattle.xcf_drawable.proofs.Drawing.put.Goals as goal

pub put-requires : goal.put-requires
put-requires c =
    let a = c.args in
    structure_room a.self.now.structure.row a.self.now.structure.masked a.self.now.structure.name.now a.self.now.pixels.now c.requires.space _ _

pub words-requires : goal.words-requires
words-requires c =
    let a = c.args in
    hierarchy_room a.self.now.structure.row a.self.now.structure.masked a.self.now.structure.name.now a.self.now.pixels.now c.requires.space _ c.size.ensures.0 c.put.ensures.stores

pub put_level-requires : goal.put_level-requires
put_level-requires c =
    let a = c.args in
    level_space a.self.now.structure.row a.self.now.structure.masked a.self.now.structure.name.now a.self.now.pixels.now c.requires.space _ c.size.ensures.0 c.put.ensures.stores c.words.ensures.stores

pub returns-clause-stores : goal.returns-clause-stores
returns-clause-stores c =
    let a = c.args in
    drawable_put a.self.now.structure.row a.self.now.structure.masked a.self.now.structure.name.now a.self.now.pixels.now c.requires.space _
    c.size.ensures.0 c.put.ensures.stores
    c.words.ensures.stores c.requires.mask_value c.put_level.ensures.stores
