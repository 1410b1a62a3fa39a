-- The example file (RULES, "Examples") is read, and so it is with a name that is not well-formed: its walk is computed.
-- Assumes nothing.
use Prim.Native.Nat.{ℕ}
use mathlib.Core.Path.{◌≡◌}
use mathlib.Core.List.{List}
use lib.ListN.{length}
use Rattle.xcf_numbers.specs.Limit.{table_size}
use native.Mathlib.Omega.{arith}
use Rattle.xcf_table.specs.Table.{table_of}
use Rattle.xcf_read.specs.Answer.{reading_of, reading}
use Rattle.xcf_read_laws.proofs.Accepted.{read_walked}
use Rattle.xcf_theorems.specs.ExampleFile.{example_named, example_file, example_flagged}
use Rattle.xcf_theorems.specs.Statements.{ExampleFileIsRead}
use Rattle.xcf_theorems.proofs.ExampleWalks.{grey, walks}

pub example_read : ExampleFileIsRead
unfolding table_of
example_read table size = read_walked example_file table size (omega arith) walks.example

-- and with the name E9
pub latin_read : (table : List ℕ) → length table ≡ table_size → reading (example_named 0xE9) table ≡ reading_of (grey 1 1 (example_flagged 33) 141)
latin_read table size = read_walked (example_named 0xE9) table size (omega arith) walks.latin
