-- `measure` meets its contract: the drawable's length is its parts' (`drawable_size_lem`), and its tiles are few.
use native.Mathlib.Omega.{arith}
use Rattle.xcf_drawable.proofs.EncodingBound.{few}
use Rattle.xcf_drawable.proofs.DrawablePut.{drawable_size_lem}
use Rattle.xcf_drawable.proofs.Drawing.measure.Goals as goal

pub returns : goal.returns
returns c =
    let a = c.args in
    let structure = c.size-structure.ensures in
    let tiles = c.measure_tiles-tiles.ensures in (
      omega (arith, drawable_size_lem a.self.now.structure.row a.self.now.structure.masked a.self.now.structure.name.now a.self.now.pixels.now, structure.0, tiles.0),
      omega (arith, structure.1, tiles.1, few c.args.self.now.writable.drawn.range),
    )
