-- The invariant: the places passed, and the bytes copied from here on, are all the bytes copied.
use mathlib.Core.Path.{◌≡◌}
use Prim.Native.Nat.{◌+◌, ◌-◌, ◌≤◌}
use lib.ListN.{length, drop}
use Rattle.xcf_segment.specs.Segment.{copied_bytes}
use Rattle.xcf_segment.proofs.segment.copied_bytes.Given as goal

abbrev pub invariant-loop-i : goal.invariant-loop-i
invariant-loop-i l = record {
  inside : l.i ≤ length l.stream;
  whole : l.i + copied_bytes (drop l.i l.stream) ≡ copied_bytes l.stream;
}

abbrev pub decreases-loop-i : goal.decreases-loop-i
decreases-loop-i l = length l.stream - l.i
