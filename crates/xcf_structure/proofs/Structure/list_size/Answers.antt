-- The sum is `list_length`, and so at most 88.
use native.Mathlib.Omega.{arith}
use Rattle.xcf_structure.proofs.Lists.{list_length, byte_most}
use Rattle.xcf_structure.proofs.Structure.list_size.Goals as goal

pub returns : goal.returns
returns c =
    let self = c.args.self.now in
    (rw (c.from-selection.ensures, c.from-active.ensures, c.from-apply.ensures, c.from-layer.ensures, c.flag_set.ensures, c.flag_set-2.ensures) (omega (arith, list_length self.row self.masked)), omega (arith, byte_most))
