-- By whether the name is empty: `name_length`.
use native.Mathlib.Omega.{arith}
use Rattle.xcf_structure.proofs.StructureLength.{name_length}
use Rattle.xcf_structure.proofs.name_size.Goals as goal

pub returns-then-is_empty : goal.returns-then-is_empty
returns-then-is_empty c = (rw (name_length, ← c.is_empty.ensures, c.if-is_empty.true), omega arith)

pub returns : goal.returns
returns c = (rw (name_length, ← c.is_empty.ensures, c.if-is_empty.false), omega arith)
