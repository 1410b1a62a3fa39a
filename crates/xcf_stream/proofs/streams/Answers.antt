-- `streams` meets its contract: `StreamsGoing` holds at the loop's head, and each stream keeps it or ends the tile.
use mathlib.Core.Path.{◌≡◌, sym, ◌∙◌}
use native.Mathlib.Omega.{arith}
use Rattle.xcf_stream.proofs.StreamsLoop.{going_on, going_off, all_done}
use Rattle.xcf_stream.proofs.streams.Goals as goal

pub returns-then-is_some : goal.returns-then-is_some
returns-then-is_some c = going_off c.loop-k.invariant c.loop-k-test.true _ _ c.stream-end.ensures (sym c.is_some.ensures ∙ c.if-is_some.true)

pub loop-k-preserved : goal.loop-k-preserved
loop-k-preserved c = going_on c.loop-k.invariant c.loop-k-test.true _ _ c.stream-end.ensures (sym c.is_some.ensures ∙ c.if-is_some.false)

pub returns : goal.returns
returns c =
    let z : c.loop-k.k ≡ c.args.depth = omega arith in
    all_done (rw z at c.loop-k.invariant)
