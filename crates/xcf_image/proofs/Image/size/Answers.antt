-- `size` meets its contract: 4 bytes for each layer and each channel, and 51 besides.
use mathlib.Core.Path.{sym}
use native.Mathlib.Omega.{arith}
use Rattle.xcf_image.proofs.ImageLength.{version_old_or_new, image_length}
use Rattle.xcf_image.proofs.Image.size.Goals as goal

pub returns : goal.returns
returns c =
    let long = image_length _ _ _ _ (version_old_or_new _) in
    (rw (c.count.ensures.0, c.count-2.ensures.0) (sym long), omega arith)
