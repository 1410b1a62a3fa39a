-- The invariant: the places passed, and the bytes copied from here on, are all the bytes copied.
use native.Mathlib.Omega.{arith}
use Rattle.xcf_segment.proofs.Scan.{copied_none, copied_one, copied_two, copied_few}
use Rattle.xcf_segment.proofs.segment.copied_bytes.Goals as goal

pub loop-i-preserved-then-stream-i : goal.loop-i-preserved-then-stream-i
loop-i-preserved-then-stream-i c = record {
  inside = omega arith;
  whole = omega (arith, copied_two c.args.stream.now c.loop-i.i c.loop-i-test.true c.if-stream-i.true);
}

pub returns-then-stream-i-2 : goal.returns-then-stream-i-2
returns-then-stream-i-2 c =
    omega (arith, copied_none c.args.stream.now c.loop-i.i c.loop-i-test.true c.if-stream-i.false c.if-stream-i-2.true)

pub loop-i-preserved : goal.loop-i-preserved
loop-i-preserved c = record {
  inside = omega arith;
  whole = omega (arith, copied_one c.args.stream.now c.loop-i.i c.loop-i-test.true c.if-stream-i-2.false);
}

pub returns : goal.returns
returns c = omega (arith, copied_few c.args.stream.now c.loop-i.i (omega arith) c.loop-i-test.false)
