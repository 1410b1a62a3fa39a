-- A good stream gives exactly its bytes, and a good tile has as many planes as the pixel has bytes, each of them whole.
-- By induction over the stream's fuel, and over the streams.
-- Assumes nothing.
use mathlib.Core.Path.{◌≡◌, refl, ap}
use mathlib.Core.List.{List, [], ◌∷◌}
use Prim.Native.Nat.{ℕ, zero, suc, ◌-◌}
use native.Mathlib.Omega.{arith}
use borrow.Author.Tests.{ltb-false, eqb-true, eqb-false}
use lib.ListN.{length, length-append}
use lib.Dec.{ltb, eqb}
use Rattle.std.proofs.lemmas.Bool.{cond_both}
use Rattle.xcf_operation.specs.Operation.{Operation, gives, short, over, operation_at}
use Rattle.xcf_stream.specs.Stream.{Stream, stream_from, stream_within, stream_at}
use Rattle.xcf_stream.specs.Streams.{Streams, in_front, streams_at}
use Rattle.xcf_stream.proofs.StreamLaws.{Sound, sound}

-- where the mark is 0, so many bytes are out
abbrev Whole : ℕ → Stream → Type 0
Whole left s = s.mark ≡ 0 → length s.bytes ≡ left

from_whole : (rest : ℕ → ℕ → Stream) (ws : List ℕ) (at left : ℕ) (o : Operation) → Sound ws at left o → ((n l : ℕ) → Whole l (rest n l)) → Whole left (stream_from rest at left o)
unfolding stream_from
from_whole rest ws at left short s h = λ z. absurd (omega arith)
from_whole rest ws at left over s h = λ z. absurd (omega arith)
from_whole rest ws at left (gives bs next) s h = λ z. simp length-append (omega (arith, h next (left - length bs) z, s.0))

within_whole : (fuel : ℕ) (ws : List ℕ) (at left : ℕ) → Whole left (stream_within fuel ws at left)
unfolding stream_within
within_whole zero ws at left = cond_both (ltb 0 left) _ _ (Whole left) (λ _ z. absurd (omega arith)) (λ e z. omega (arith, ltb-false 0 left e))
within_whole (suc fuel) ws at left =
    cond_both (ltb 0 left) _ _ (Whole left) (λ _. from_whole (stream_within fuel ws) ws at left (operation_at ws at left) (sound ws at left refl) (within_whole fuel ws))
    (λ e z. omega (arith, ltb-false 0 left e))

pub stream_whole : (ws : List ℕ) (at left : ℕ) → (stream_at ws at left).mark ≡ 0 → length (stream_at ws at left).bytes ≡ left
unfolding stream_at
stream_whole ws at left = within_whole (length ws - at) ws at left

-- each plane has n bytes
abbrev pub Each : ℕ → List (List ℕ) → Type 0
Each n [] = Unit {0}
Each n (p ∷ ps) = (length p ≡ n) × Each n ps

pub record WholeTile (count n : ℕ) (s : Streams) : Type 0 where
  pub planes : length s.planes ≡ count
  pub each : Each n s.planes

before_whole : (count n : ℕ) (s : Stream) (t : Streams) → (s.mark ≡ 0 → length s.bytes ≡ n) → (t.mark ≡ 0 → WholeTile count n t) → (in_front s t).mark ≡ 0 → WholeTile (suc count) n (in_front s t)
before_whole count n s t f g =
    cond_both (eqb s.mark 0) _ _ (λ (u : Streams). u.mark ≡ 0 → WholeTile (suc count) n u)
    (λ e z. record { planes = ap suc (g z).planes; each = (f (eqb-true _ _ e), (g z).each) })
    (λ e z. absurd (eqb-false _ _ e z))

pub streams_whole : (count : ℕ) (ws : List ℕ) (at n : ℕ) → (streams_at count ws at n).mark ≡ 0 → WholeTile count n (streams_at count ws at n)
unfolding streams_at
streams_whole zero ws at n z = record { planes = refl; each = tt }
streams_whole (suc count) ws at n z =
    before_whole count n (stream_at ws at n) (streams_at count ws (stream_at ws at n).at n) (stream_whole ws at n)
    (streams_whole count ws (stream_at ws at n).at n) z
