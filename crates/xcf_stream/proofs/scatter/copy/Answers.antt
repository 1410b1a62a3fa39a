-- `copy` meets its contract: at the loop's head, what is left to put from here on gives all that was to be put.
use Rattle.xcf_stream.proofs.Scattering.{one_less, scatter_copied}
use Rattle.xcf_stream.proofs.scatter.copy.Goals as goal
use native.Mathlib.Omega.{arith}
use lib.ListN.{length}
use mathlib.Core.Path.{◌∙◌}

pub loop-byte-preserved : goal.loop-byte-preserved
loop-byte-preserved c =
    let l = c.loop-byte in
    record {
      place = omega (arith, l.invariant.place, one_less c.args.step (length c.args.bytes.now) l.byte-index c.loop-byte-test.true);
      put = scatter_copied l.pixels l.to _ _ l.byte-index c.loop-byte-test.true ∙ l.invariant.put;
    }
