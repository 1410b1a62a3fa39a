-- A head, and the bytes copied behind it.
use Prim.Native.Nat.{◌-◌}
use native.Mathlib.Omega.{arith}
use lib.ListN.{length}
use Rattle.xcf_segment.proofs.SegmentBytes.{head_length, copy_length, copy_bytes}
use Rattle.xcf_store.proofs.Stores.{put_append, put_length}
use Rattle.xcf_segment.proofs.put.put_copy.Goals as goal

pub put_copy_head-requires : goal.put_copy_head-requires
put_copy_head-requires c =
    let bytes = c.args.bytes.now in
    (c.requires.0, (c.requires.1.0, omega (arith, c.requires.1.1, head_length (length bytes) (256 - length bytes) 128, copy_length bytes)))

pub bytes-requires : goal.bytes-requires
bytes-requires c =
    let bytes = c.args.bytes.now in
    let head = c.put_copy_head.ensures.stores in
    omega (arith, c.requires.1.1, head.behind, put_length head, head_length (length bytes) (256 - length bytes) 128, copy_length bytes)

pub returns-clause-stores : goal.returns-clause-stores
returns-clause-stores c = rw (copy_bytes c.args.bytes.now) (put_append c.put_copy_head.ensures.stores c.bytes.ensures.stores)
