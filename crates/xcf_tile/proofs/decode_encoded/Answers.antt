-- `decode_encoded` meets its contract: the streams' pixels where none is marked, else zeros.
use mathlib.Core.Path.{◌≡◌, sym, ◌∙◌}
use Prim.Native.Nat.{◌*◌}
use native.Mathlib.Omega.{arith}
use lib.ListN.{length}
use Rattle.std.proofs.Common.{rules}
use Rattle.xcf_tile.proofs.Whole.{encoded_good, encoded_bad}
use Rattle.xcf_tile.proofs.decode_encoded.Goals as goal

pub returns-then-is_some : goal.returns-then-is_some
returns-then-is_some c =
    let s = c.streams-end in
    let z : length s.new.pixels ≡ c.args.n * c.args.depth = omega (arith, c.requires) in
    rw (c.fill.ensures.after (λ y e. search rules), z) (encoded_bad s.ensures (sym c.is_some.ensures ∙ c.if-is_some.true))

pub returns-else-is_some : goal.returns-else-is_some
returns-else-is_some c = encoded_good c.streams-end.ensures c.requires.exact (sym c.is_some.ensures ∙ c.if-is_some.false)
