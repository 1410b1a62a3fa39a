-- `copy` meets its contract: at the loop's head, what is left to put from here on gives all that was to be put.
use mathlib.Core.Path.{◌≡◌}
use Prim.Native.Nat.{◌+◌, ◌*◌, ◌-◌}
use lib.ListN.{length, drop}
use Rattle.xcf_stream.specs.Parts.{scatter}
use Rattle.xcf_stream.proofs.scatter.copy.Given as goal

abbrev pub invariant-loop-byte : goal.invariant-loop-byte
invariant-loop-byte l = record {
  place : l.to + l.step * (length l.bytes - l.byte-index) ≡ l.at + l.step * length l.bytes;
  put : scatter l.pixels l.to l.step (drop l.byte-index l.bytes) ≡ scatter l.initial.pixels l.at l.step l.bytes;
}
