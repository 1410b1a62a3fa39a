-- `of` meets its contract: what passes its tests is in range.
use mathlib.Core.Path.{refl, sym}
use lib.ListN.{length}
use Rattle.xcf_store.specs.Width.{bytes_of}
use Rattle.xcf_window.proofs.Ranges.{range_of}
use Rattle.xcf_window.proofs.drawable.Drawable.of.Goals as goal

pub returns-then-in_file-clause-drawable : goal.returns-then-in_file-clause-drawable
returns-then-in_file-clause-drawable c = record {
  file = refl;
  row = refl;
  way = c.in_ok-compression.ensures;
  sized = c.in-Ok.ensures.0;
  range = range_of (bytes_of c.in-Ok.width) (length c.args.file.now) c.args.row (sym c.if-in_range.ensures) (sym c.if-in_file.ensures);
}
