-- What a drawing stands for.
use Rattle.xcf_drawable.specs.declared.Drawing.{Drawing}
use Rattle.xcf_drawable.specs.Drawable.{Drawable}
use Rattle.xcf_drawable.specs.Parts.{drawn}

abbrev pub drawable_of : Drawing → Drawable
drawable_of d = drawn d.structure.row d.structure.masked d.structure.name.now d.pixels.now
