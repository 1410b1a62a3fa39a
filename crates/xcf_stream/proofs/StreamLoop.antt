-- The stream's loop: `StreamGoing` holds at its head, an operation that gives bytes keeps it (`going_given`), and it gives what the
-- stream gives where the loop ends (`going_failed`, `going_done`). What is left of the stream, behind what was put, is the stream
-- from the start.
-- Assumes nothing.
use mathlib.Core.Path.{◌≡◌, sym, ap, ◌∙◌}
use mathlib.Core.List.{List}
use Prim.Native.Nat.{ℕ, ◌+◌, ◌*◌, ◌-◌, ◌≤◌, ◌<◌}
use native.Mathlib.Omega.{arith}
use lib.ListN.{length}
use Rattle.std.proofs.Common.{Option, Some, None, Err}
use Rattle.xcf_numbers.specs.declared.fault.Fault.{Fault}
use Rattle.xcf_numbers.specs.declared.fault.Fault.TheVariants as faults
use Rattle.xcf_numbers.specs.Fault.{mark_of_any}
use Rattle.xcf_operation.specs.Operation.{gives, operation_at}
use Rattle.xcf_operation.specs.Parts.{operation_read}
use Rattle.xcf_stream.specs.Stream.{Stream, ends, stream_from, stream_at}
use Rattle.xcf_stream.specs.Parts.{scatter, Streamed}
use Rattle.xcf_stream.proofs.StreamLaws.{sound, stream_done, stream_op}
use Rattle.xcf_stream.proofs.Scattering.{scatter_append, scatter_length, mul_part}

pub record StreamGoing (ws : List ℕ) (from n depth k : ℕ) (start pixels : List ℕ) (pos left to count : ℕ) : Type 0 where
  pub same : length pixels ≡ length start
  pub room : to + depth * left ≡ k + depth * n
  pub inside : pos ≤ length ws
  pub counted : count + from ≤ pos
  pub mark : (stream_at ws pos left).mark ≡ (stream_at ws from n).mark
  pub at : (stream_at ws pos left).at ≡ (stream_at ws from n).at
  pub operations : count + (stream_at ws pos left).operations ≡ (stream_at ws from n).operations
  pub put : scatter pixels to depth (stream_at ws pos left).bytes ≡ scatter start k depth (stream_at ws from n).bytes

module _ {ws : List ℕ} {from n depth k : ℕ} {start pixels : List ℕ} {pos left to count : ℕ} (g : StreamGoing ws from n depth k start pixels pos left to count) where
  pub going_given : (bs : List ℕ) (next : ℕ) → 0 < left → operation_at ws pos left ≡ gives bs next → StreamGoing ws from n depth k start (scatter pixels to depth bs) next (left - length bs) (to + depth * length bs) (count + 1)
  unfolding stream_from
  going_given bs next h o =
      let e = stream_op ws pos left h o in
      let s = sound ws pos left o in
      record {
        same = scatter_length pixels to depth bs ∙ g.same;
        room = omega (arith, g.room, mul_part depth (length bs) left s.0);
        inside = s.1.1;
        counted = omega (arith, g.counted, s.1.0);
        mark = sym (ap (λ (s : Stream). s.mark) e) ∙ g.mark;
        at = sym (ap (λ (s : Stream). s.at) e) ∙ g.at;
        operations = omega (arith, g.operations, ap (λ (s : Stream). s.operations) e);
        put =
            sym (scatter_append pixels to depth bs (stream_at ws next (left - length bs)).bytes)
            ∙ sym (ap (λ (s : Stream). scatter pixels to depth s.bytes) e)
            ∙ g.put;
      }

  going_stop : (fault : Option Fault) → stream_at ws pos left ≡ ends (mark_of_any fault) pos → Streamed ws from n depth k start (record { fault = fault; at = pos; operations = count }) pixels
  going_stop fault e = record {
    mark = sym (ap (λ (s : Stream). s.mark) e) ∙ g.mark;
    at = sym (ap (λ (s : Stream). s.at) e) ∙ g.at;
    operations = omega (arith, g.operations, ap (λ (s : Stream). s.operations) e);
    bytes = sym (ap (λ (s : Stream). scatter pixels to depth s.bytes) e) ∙ g.put;
    counted = g.counted;
    inside = g.inside;
  }

  pub going_done : left ≤ 0 → Streamed ws from n depth k start (record { fault = None; at = pos; operations = count }) pixels
  going_done h = let z : left ≡ 0 = omega arith in going_stop None (rw z (stream_done ws pos))

  pub going_failed : (fault : Fault) → 0 < left → operation_at ws pos left ≡ operation_read (Err fault) → Streamed ws from n depth k start (record { fault = Some fault; at = pos; operations = count }) pixels
  unfolding stream_from
  going_failed faults.Short h o = going_stop (Some faults.Short) (stream_op ws pos left h o)
  going_failed faults.Overrun h o = going_stop (Some faults.Overrun) (stream_op ws pos left h o)
