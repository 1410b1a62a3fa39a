-- A head and a byte, or a head and the bytes copied.
use Rattle.xcf_segment.proofs.SegmentBytes.{run_length, copy_length}
use Rattle.xcf_segment.proofs.measure.segment_size.Goals as goal

pub returns-in-Run : goal.returns-in-Run
returns-in-Run c = rw (c.in-Run.is, c.head_size.ensures, run_length)

pub returns-in-Copy : goal.returns-in-Copy
returns-in-Copy c = rw (c.in-Copy.is, c.head_size-in-Copy.ensures, copy_length)
