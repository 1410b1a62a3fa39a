-- The loop over a tile's streams: `StreamsGoing` holds at its head, a good stream keeps it (`going_on`), a marked one ends it
-- (`going_off`), and so does the last (`all_done`). What is left of the streams, behind those that were put, is all of them.
-- Assumes nothing.
use mathlib.Core.Path.{◌≡◌, refl, sym, ap, ◌∙◌}
use mathlib.Core.List.{List}
use mathlib.Core.Bool.{true, false}
use Prim.Native.Nat.{ℕ, zero, suc, ◌+◌, ◌-◌, ◌≤◌, ◌<◌}
use native.Mathlib.Nat.{not-suc-le-zero}
use native.Mathlib.Numerals.{sub-one}
use native.Mathlib.Omega.{arith}
use borrow.Author.Tests.{eq-eqb}
use lib.ListN.{length}
use Rattle.std.proofs.Common.{None}
use Rattle.std.specs.Option.{is_some}
use Rattle.xcf_stream.proofs.Faults.{marked, unmarked}
use Rattle.xcf_stream.specs.Stream.{stream_at}
use Rattle.xcf_stream.specs.Streams.{Streams, in_front, streams_at}
use Rattle.xcf_stream.specs.declared.StreamEnd.{StreamEnd}
use Rattle.xcf_stream.specs.Parts.{scatter_all, Streamed, StreamedAll}
use Rattle.xcf_stream.proofs.Scattering.{scatter_length}

pub record StreamsGoing (ws : List ℕ) (n depth : ℕ) (start pixels : List ℕ) (k pos count : ℕ) : Type 0 where
  pub same : length pixels ≡ length start
  pub some : k ≤ depth
  pub inside : pos ≤ length ws
  pub counted : count ≤ pos
  pub mark : (streams_at (depth - k) ws pos n).mark ≡ (streams_at depth ws 0 n).mark
  pub at : (streams_at (depth - k) ws pos n).at ≡ (streams_at depth ws 0 n).at
  pub operations : count + (streams_at (depth - k) ws pos n).operations ≡ (streams_at depth ws 0 n).operations
  pub put : scatter_all pixels k depth (streams_at (depth - k) ws pos n).planes ≡ scatter_all start 0 depth (streams_at depth ws 0 n).planes

pub going_start : (ws : List ℕ) (n depth : ℕ) (pixels : List ℕ) → StreamsGoing ws n depth pixels pixels 0 0 0
going_start ws n depth pixels =
    let z : depth - 0 ≡ depth = omega arith in
    record {
      same = refl;
      some = omega arith;
      inside = omega arith;
      counted = omega arith;
      mark = rw z;
      at = rw z;
      operations = rw z (omega arith);
      put = rw z;
    }

one_more : (count : ℕ) (ws : List ℕ) (at n : ℕ) → 0 < count → streams_at count ws at n ≡ in_front (stream_at ws at n) (streams_at (count - 1) ws (stream_at ws at n).at n)
unfolding streams_at
one_more zero ws at n h = absurd (not-suc-le-zero h)
one_more (suc count) ws at n h = rw sub-one

-- with some left, a stream comes first
next : (ws : List ℕ) (n depth k at : ℕ) → k < depth → streams_at (depth - k) ws at n ≡ in_front (stream_at ws at n) (streams_at (depth - (k + 1)) ws (stream_at ws at n).at n)
next ws n depth k at h =
    one_more (depth - k) ws at n (omega arith)
    ∙ ap (λ (m : ℕ). in_front (stream_at ws at n) (streams_at m ws (stream_at ws at n).at n)) (omega arith)

module _ {ws : List ℕ} {n depth : ℕ} {start pixels : List ℕ} {k pos count : ℕ} (g : StreamsGoing ws n depth start pixels k pos count) (h : k < depth) (r : StreamEnd) (pixels' : List ℕ) (e : Streamed ws pos n depth k pixels r pixels') where
  pub going_on : is_some r.fault ≡ false → StreamsGoing ws n depth start pixels' (k + 1) r.at (count + r.operations)
  unfolding scatter_all
  going_on z =
      let q = rw e.mark at (unmarked r.fault z) in
      let f = simp (eq-eqb _ _ q) at (next ws n depth k pos h) in
      record {
        same = rw (e.bytes, scatter_length) g.same;
        some = omega arith;
        inside = e.inside;
        counted = omega (arith, e.counted, g.counted);
        mark = rw e.at (sym (ap (λ (s : Streams). s.mark) f) ∙ g.mark);
        at = rw e.at (sym (ap (λ (s : Streams). s.at) f) ∙ g.at);
        operations = rw e.at (omega (arith, g.operations, e.operations, ap (λ (s : Streams). s.operations) f));
        put = rw (e.at, e.bytes) (sym (ap (λ (s : Streams). scatter_all pixels k depth s.planes) f) ∙ g.put);
      }

  pub going_off : is_some r.fault ≡ true → StreamedAll ws n depth start (record { fault = r.fault; at = r.at; operations = count + r.operations }) pixels'
  unfolding scatter_all
  going_off z =
      let f = simp (rw e.mark at (marked r.fault z)) at (next ws n depth k pos h) in
      record {
        mark = e.mark ∙ sym (ap (λ (s : Streams). s.mark) f) ∙ g.mark;
        at = e.at ∙ sym (ap (λ (s : Streams). s.at) f) ∙ g.at;
        operations = omega (arith, g.operations, e.operations, ap (λ (s : Streams). s.operations) f);
        bytes = e.bytes ∙ sym (ap (λ (s : Streams). scatter_all pixels k depth s.planes) f) ∙ g.put;
      }

pub all_done : {ws : List ℕ} {n depth : ℕ} {start pixels : List ℕ} {pos count : ℕ} → StreamsGoing ws n depth start pixels depth pos count → StreamedAll ws n depth start (record { fault = None; at = pos; operations = count }) pixels
unfolding scatter_all streams_at
all_done {ws} {n} {depth} {start} {pixels} {pos} {count} g =
    let z : depth - depth ≡ 0 = omega arith in
    record {
      mark = rw z at g.mark;
      at = rw z at g.at;
      operations = omega (arith, rw z at g.operations);
      bytes = rw z at g.put;
    }
