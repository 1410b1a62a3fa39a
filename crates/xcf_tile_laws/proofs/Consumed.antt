-- A good tile depends only on the bytes it consumed: a window that has them first gives the same tile (`consumed_decides`).
-- It consumes no more than its window has (`consumed_inside`).
-- An operation that ends within the bytes on which two windows agree is the same in both (`operation_same`); then by
-- induction over the fuel a good stream, over the streams a good tile. No stream ends before it starts (`stream_ends`).
-- Assumes nothing.
use mathlib.Core.Path.{◌≡◌, refl, sym, ap, subst, ◌∙◌}
use mathlib.Core.List.{List}
use mathlib.Core.Bool.{Bool, true, false, cond}
use Prim.Native.Nat.{ℕ, zero, suc, ◌+◌, ◌*◌, ◌-◌, ◌≤◌, ◌<◌}
use native.Mathlib.Nat.{le_trans}
use native.Mathlib.Omega.{arith}
use borrow.Author.Tests.{ltb-true, ltb-false, lt-leb, le-ltb, eqb-true, eqb-false, le-leb, leb-true}
use lib.ListN.{length, get_or, take, drop, replicate, length-take}
use lib.Seq.{get_or-take, take-take}
use lib.Dec.{ltb, leb, eqb}
use Rattle.std.proofs.lemmas.List.{drop-take}
use Rattle.std.proofs.lemmas.Bool.{cond_both}
use Rattle.xcf_numbers.specs.Limit.{window_limit}
use Rattle.xcf_operation.specs.Operation.{Head, run_head, copy_head, cut, head_at, head_of, Operation, gives, short, over, unless_fails, operation_at, operation_of}
use Rattle.xcf_stream.specs.Stream.{Stream, adds, stream_from, stream_within, stream_at}
use Rattle.xcf_stream.specs.Streams.{Streams, streams_at}
use Rattle.xcf_tile.specs.Tile.{Tile, plain_tile, encoded_tile, tile_in, tile_of}
use Rattle.xcf_stream.proofs.StreamLaws.{Sound, sound, stream_done, stream_op}

-- a head that is read before m
abbrev HeadBefore : ℕ → Head → Type 0
HeadBefore m cut = ⊥
HeadBefore m (run_head count body) = body ≤ m
HeadBefore m (copy_head count body) = body ≤ m

body_before : (m : ℕ) (run : Bool) (count body : ℕ) → HeadBefore m (cond run (run_head count body) (copy_head count body)) → body ≤ m
body_before m true count body h = h
body_before m false count body h = h

-- an operation that ends before m
abbrev Before : ℕ → Operation → Type 0
Before m short = ⊥
Before m over = ⊥
Before m (gives bs next) = next ≤ m

-- no stream ends before it starts, nor behind the window
abbrev Ends : List ℕ → ℕ → Stream → Type 0
Ends ws at s = (at ≤ s.at) × (at ≤ length ws → s.at ≤ length ws)

from_ends : (rest : ℕ → ℕ → Stream) (ws : List ℕ) (at left : ℕ) (o : Operation) → Sound ws at left o → ((n l : ℕ) → Ends ws n (rest n l)) → Ends ws at (stream_from rest at left o)
unfolding stream_from
from_ends rest ws at left short s h = (omega arith, λ i. i)
from_ends rest ws at left over s h = (omega arith, λ i. i)
from_ends rest ws at left (gives bs next) s h = let e = h next (left - length bs) in (omega (arith, e.0, s), λ i. e.1 s.1.1)

within_ends : (fuel : ℕ) (ws : List ℕ) (at left : ℕ) → Ends ws at (stream_within fuel ws at left)
unfolding stream_within
within_ends zero ws at left = cond_both (ltb 0 left) _ _ (Ends ws at) (λ _. (omega arith, λ i. i)) (λ _. (omega arith, λ i. i))
within_ends (suc fuel) ws at left =
    cond_both (ltb 0 left) _ _ (Ends ws at) (λ _. from_ends (stream_within fuel ws) ws at left (operation_at ws at left) (sound ws at left refl) (within_ends fuel ws))
    (λ _. (omega arith, λ i. i))

stream_ends : (ws : List ℕ) (at left : ℕ) → Ends ws at (stream_at ws at left)
unfolding stream_at
stream_ends ws at left = within_ends (length ws - at) ws at left

abbrev AllEnd : List ℕ → ℕ → Streams → Type 0
AllEnd ws at s = (at ≤ s.at) × (at ≤ length ws → s.at ≤ length ws)

streams_ends : (count : ℕ) (ws : List ℕ) (at n : ℕ) → AllEnd ws at (streams_at count ws at n)
unfolding streams_at
streams_ends zero ws at n = (omega arith, λ i. i)
streams_ends (suc count) ws at n =
    let s = stream_ends ws at n in
    let r = streams_ends count ws (stream_at ws at n).at n in
    cond_both (eqb (stream_at ws at n).mark 0) _ _ (AllEnd ws at) (λ _. (le_trans s.0 r.0, λ i. r.1 (s.1 i))) (λ _. s)

module _ (ws vs : List ℕ) (m : ℕ) (same : take m ws ≡ take m vs) (long : m ≤ length vs) where
  byte_same : (i : ℕ) → i < m → get_or vs i 0 ≡ get_or ws i 0
  byte_same i h = sym (get_or-take m vs i 0 h) ∙ ap (λ (l : List ℕ). get_or l i 0) (sym same) ∙ get_or-take m ws i 0 h

  copied_same : (from count : ℕ) → from + count ≤ m → take count (drop from vs) ≡ take count (drop from ws)
  copied_same from count h =
      sym (drop-take from count vs)
      ∙ ap (drop from) (sym (take-take (from + count) m vs h) ∙ ap (take (from + count)) (sym same) ∙ take-take (from + count) m ws h)
      ∙ drop-take from count ws

  abbrev HeadSame : ℕ → Head → Type 0
  HeadSame at h = HeadBefore m h → head_at vs at ≡ h

  head_same : (at : ℕ) → HeadSame at (head_at ws at)
  unfolding head_at head_of
  head_same at =
      cond_both (leb (length ws) at) _ _ (HeadSame at) (λ _. absurd)
      (λ _. cond_both (ltb (get_or ws at 0) 127) _ _ (HeadSame at)
      (λ e b. simp (lt-leb (length vs) at (omega arith), byte_same at (omega arith), e))
      (λ e. cond_both (ltb 128 (get_or ws at 0)) _ _ (HeadSame at)
      (λ f b. simp (lt-leb (length vs) at (omega arith), byte_same at (omega arith), e, f))
      (λ f. cond_both (ltb (length ws) (at + 3)) _ _ (HeadSame at) (λ _. absurd)
      (λ _ b.
      let i : at + 3 ≤ m = body_before m (eqb (get_or ws at 0) 127) _ _ b in
      simp (lt-leb (length vs) at (omega arith), byte_same at (omega arith), e, f, le-ltb (length vs) (at + 3) (omega arith), byte_same (at + 1) (omega arith), byte_same (at + 1 + 1) (omega arith))))))

  abbrev UnlessSame : ℕ → ℕ → ℕ → ℕ → List ℕ → Operation → Type 0
  UnlessSame left count body size bs o =
      Before m o → (body ≤ m) × (unless_fails vs left count body size (gives bs (body + size)) ≡ o)

  -- an operation that gives the same bytes in both windows
  unless_same : (left count body size : ℕ) {bs bs' : List ℕ} → (body + size ≤ m → bs' ≡ bs) → UnlessSame left count body size bs' (unless_fails ws left count body size (gives bs (body + size)))
  unless_same left count body size {bs} {bs'} f =
      cond_both (ltb left count) _ _ (UnlessSame left count body size bs') (λ _. absurd)
      (λ e. cond_both (ltb (length ws) (body + size)) _ _ (UnlessSame left count body size bs') (λ _. absurd)
      (λ _ b. (omega arith, simp (e, le-ltb (length vs) (body + size) (omega arith), f b))))

  operation_of_same : (left : ℕ) (h : Head) → Before m (operation_of ws left h) → HeadBefore m h × (operation_of vs left h ≡ operation_of ws left h)
  unfolding operation_of
  operation_of_same left cut = absurd
  operation_of_same left (run_head count body) = unless_same left count body 1 (λ b. ap (replicate count) (byte_same body (omega arith)))
  operation_of_same left (copy_head count body) = unless_same left count body count (copied_same body count)

  operation_same : (at left : ℕ) → Before m (operation_at ws at left) → operation_at vs at left ≡ operation_at ws at left
  unfolding operation_at
  operation_same at left b =
      let s = operation_of_same left (head_at ws at) b in
      ap (operation_of vs left) (head_same at s.0) ∙ s.1

  -- a good stream that ends before m
  abbrev StreamSame : ℕ → ℕ → Stream → Type 0
  StreamSame at left s = s.mark ≡ 0 → s.at ≤ m → stream_at vs at left ≡ s

  from_same : (fuel at left : ℕ) (o : Operation) → 0 < left → operation_at ws at left ≡ o → ((n l : ℕ) → StreamSame n l (stream_within fuel ws n l)) → StreamSame at left (stream_from (stream_within fuel ws) at left o)
  unfolding stream_from
  from_same fuel at left short h e r = λ z. absurd (omega arith)
  from_same fuel at left over h e r = λ z. absurd (omega arith)
  from_same fuel at left (gives bs next) h e r = λ z b.
      let i : next ≤ m = omega (arith, (within_ends fuel ws next (left - length bs)).0) in
      stream_op vs at left h (operation_same at left (subst (Before m) (sym e) i) ∙ e)
      ∙ ap (adds bs) (r next (left - length bs) z b)

  within_same : (fuel at left : ℕ) → StreamSame at left (stream_within fuel ws at left)
  unfolding stream_within
  within_same zero at left =
      cond_both (ltb 0 left) _ _ (StreamSame at left) (λ _ z. absurd (omega arith))
      (λ e _ _. let z : left ≡ 0 = omega (arith, ltb-false 0 left e) in rw z (stream_done vs at))
  within_same (suc fuel) at left =
      cond_both (ltb 0 left) _ _ (StreamSame at left)
      (λ e. from_same fuel at left (operation_at ws at left) (ltb-true 0 left e) refl (within_same fuel))
      (λ e _ _. let z : left ≡ 0 = omega (arith, ltb-false 0 left e) in rw z (stream_done vs at))

  stream_same : (at left : ℕ) → StreamSame at left (stream_at ws at left)
  unfolding stream_at
  stream_same at left = within_same (length ws - at) at left

  abbrev StreamsSame : ℕ → ℕ → ℕ → Streams → Type 0
  StreamsSame count at n s = s.mark ≡ 0 → s.at ≤ m → streams_at count vs at n ≡ s

  streams_same : (count at n : ℕ) → StreamsSame count at n (streams_at count ws at n)
  unfolding streams_at
  streams_same zero at n = λ _ _. refl
  streams_same (suc count) at n =
      cond_both (eqb (stream_at ws at n).mark 0) _ _ (StreamsSame (suc count) at n)
      (λ e z b.
      let s = stream_same at n (eqb-true _ _ e) (omega (arith, (streams_ends count ws (stream_at ws at n).at n).0)) in
      rw (s, streams_same count (stream_at ws at n).at n z b) (simp e))
      (λ e z. absurd (eqb-false _ _ e z))

-- of two tiles in two windows: a good one is the other where the windows agree on what it consumed
abbrev TileSame : List ℕ → List ℕ → Tile → Tile → Type 0
TileSame ws vs s t = s.mark ≡ 0 → s.consumed ≤ length vs → take s.consumed ws ≡ take s.consumed vs → t ≡ s

cond_same : (ws vs : List ℕ) (c : Bool) {s t s' t' : Tile} → TileSame ws vs s t → TileSame ws vs s' t' → TileSame ws vs (cond c s s') (cond c t t')
cond_same ws vs true f g = f
cond_same ws vs false f g = g

plain_same : (ws vs : List ℕ) (n depth : ℕ) → TileSame ws vs (plain_tile ws n depth) (plain_tile vs n depth)
unfolding plain_tile
plain_same ws vs n depth =
    cond_both (leb (n * depth) (length ws)) _ _ (λ (s : Tile). TileSame ws vs s (plain_tile vs n depth))
    (λ _ _ l e. simp (le-leb (n * depth) (length vs) l, e))
    (λ _ z. absurd (omega arith))

encoded_same : (ws vs : List ℕ) (n depth : ℕ) → TileSame ws vs (encoded_tile ws n depth) (encoded_tile vs n depth)
unfolding encoded_tile
encoded_same ws vs n depth = λ z l e. rw (streams_same ws vs (streams_at depth ws 0 n).at e l depth 0 n z (omega arith))

in_same : (ws vs : List ℕ) (n depth compression : ℕ) → TileSame ws vs (tile_in ws n depth compression) (tile_in vs n depth compression)
unfolding tile_in
in_same ws vs n depth compression =
    cond_same ws vs (eqb compression 0) (plain_same ws vs n depth) (encoded_same ws vs n depth)

-- a tile consumes no more than its window has
abbrev Inside : List ℕ → Tile → Type 0
Inside ws t = t.consumed ≤ length ws

in_inside : (ws : List ℕ) (n depth compression : ℕ) → Inside ws (tile_in ws n depth compression)
unfolding tile_in plain_tile encoded_tile
in_inside ws n depth compression =
    cond_both (eqb compression 0) _ _ (Inside ws)
    (λ _. cond_both (leb (n * depth) (length ws)) _ _ (Inside ws) (leb-true (n * depth) (length ws)) (λ _. omega arith))
    (λ _. (streams_ends depth ws 0 n).1 (omega arith))

pub consumed_inside : (window : List ℕ) (w h depth compression : ℕ) → Inside window (tile_of window w h depth compression)
unfolding tile_of
consumed_inside window w h depth compression =
    omega (arith, in_inside (take window_limit window) (w * h) depth compression, length-take window_limit window)

pub consumed_decides : (window other : List ℕ) (w h depth compression : ℕ) → TileSame window other (tile_of window w h depth compression) (tile_of other w h depth compression)
unfolding tile_of
consumed_decides window other w h depth compression = λ z l e.
    let m = (tile_in (take window_limit window) (w * h) depth compression).consumed in
    let i : m ≤ window_limit = omega (arith, in_inside (take window_limit window) (w * h) depth compression, length-take window_limit window) in
    in_same (take window_limit window) (take window_limit other) (w * h) depth compression z
    (rw length-take (omega arith))
    (take-take m window_limit window i ∙ e ∙ sym (take-take m window_limit other i))
