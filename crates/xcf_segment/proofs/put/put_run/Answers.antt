-- Two bytes, or a long head and a byte, by the test of the count.
use native.Mathlib.Omega.{arith}
use Rattle.xcf_segment.proofs.SegmentBytes.{run_short, run_long}
use Rattle.xcf_store.proofs.Stores.{put_append, put_length}
use Rattle.xcf_segment.proofs.put.put_run.Goals as goal

pub byte-requires : goal.byte-requires
byte-requires c = omega (arith, rw (run_short _ _ c.if-count-le127.true) at c.requires.1.1)

pub byte-requires-then-count-le127 : goal.byte-requires-then-count-le127
byte-requires-then-count-le127 c =
    let first = c.byte.ensures.stores in
    omega (arith, first.behind, put_length first, rw (run_short _ _ c.if-count-le127.true) at c.requires.1.1)

pub put_long_head-requires : goal.put_long_head-requires
put_long_head-requires c =
    omega (arith, rw (run_long _ _ c.if-count-le127.false) at c.requires.1.1)

pub byte-requires-else-count-le127 : goal.byte-requires-else-count-le127
byte-requires-else-count-le127 c =
    let head = c.put_long_head.ensures.stores in
    omega (arith, head.behind, put_length head, rw (run_long _ _ c.if-count-le127.false) at c.requires.1.1)

pub returns-then-count-le127-clause-stores : goal.returns-then-count-le127-clause-stores
returns-then-count-le127-clause-stores c =
    rw (run_short _ _ c.if-count-le127.true) (put_append c.byte.ensures.stores c.byte-then-count-le127.ensures.stores)

pub returns-else-count-le127-clause-stores : goal.returns-else-count-le127-clause-stores
returns-else-count-le127-clause-stores c =
    rw (run_long _ _ c.if-count-le127.false) (put_append c.put_long_head.ensures.stores c.byte-else-count-le127.ensures.stores)
