-- `word_at` meets its contract: its sum of four bytes is the number that they spell (`big_endian_part`), and it fits.
use native.Mathlib.Omega.{arith}
use Rattle.xcf_store.proofs.Parts.{big_endian_part}
use Rattle.xcf_store.proofs.word.word_at.Goals as goal

pub returns : goal.returns
returns c = omega (arith, big_endian_part 0 c.args.file.now c.args.at c.requires)
