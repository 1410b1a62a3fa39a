-- The sum is `structure_size_lem`, and so at most 1,200.
use native.Mathlib.Omega.{arith}
use Rattle.xcf_structure.proofs.Lists.{byte_most}
use Rattle.xcf_structure.proofs.StructureLength.{structure_size_lem}
use Rattle.xcf_structure.proofs.Structure.size.Goals as goal

pub returns : goal.returns
returns c =
    let self = c.args.self.now in
    (omega (arith, structure_size_lem self.row self.masked self.name.now 0 0), omega (arith, byte_most))
