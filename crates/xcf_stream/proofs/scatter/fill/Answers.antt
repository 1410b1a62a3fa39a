-- `fill` meets its contract: at the loop's head, what is left to put from here on gives all that was to be put.
use Rattle.xcf_stream.proofs.Scattering.{one_less, scatter_value}
use Rattle.xcf_stream.proofs.scatter.fill.Goals as goal
use native.Mathlib.Omega.{arith}
use mathlib.Core.Path.{◌∙◌}

pub loop-preserved : goal.loop-preserved
loop-preserved c =
    let l = c.loop in
    record {
      place = omega (arith, l.invariant.place, one_less c.args.step c.args.count l.counter c.loop-test.true);
      put = scatter_value l.pixels l.to _ _ l.counter _ c.loop-test.true ∙ l.invariant.put;
    }
