-- What the code's segments stand for, and the contracts of its functions, by name.
use Rattle.std.specs.Prelude.{List, cond, ℕ, leb}
use Rattle.xcf_segment.specs.declared.segment.Segment.TheVariants as read
use Rattle.xcf_segment.specs.declared.segment.Segment as declared
use Rattle.xcf_segment.specs.declared.segment.Segments.{Segments}
use Rattle.xcf_segment.specs.Segment.{Segment, run_of, copy_of, segments}

-- the length of an operation's opcode and length bytes
abbrev pub head_size : ℕ → ℕ
head_size count = cond (leb count 127) 1 3

-- what the code's segment stands for
abbrev pub segment_of : declared.Segment → Segment
segment_of (read.Run count value) = run_of count value
segment_of (read.Copy bytes) = copy_of bytes.now

-- the segments that are left
abbrev pub segments_left : Segments → List Segment
segments_left s = segments s.rest.now
