-- The marks of tiles are 0, 20 and 21: from the operations up.
-- Assumes nothing.
use Prim.Native.Nat.{ℕ, zero, suc, ◌*◌, ◌-◌}
use mathlib.Core.Path.{◌≡◌, refl}
use mathlib.Core.List.{List}
use mathlib.Core.Logic.{◌⊎◌, inl, inr}
use lib.ListN.{length, take}
use lib.Dec.{ltb, leb, eqb}
use Rattle.std.proofs.lemmas.Bool.{cond_both}
use Rattle.xcf_numbers.specs.Limit.{window_limit}
use Rattle.xcf_numbers.specs.Mark
use Rattle.xcf_operation.specs.Operation.{Operation, gives, short, over, operation_at}
use Rattle.xcf_stream.specs.Stream.{Stream, stream_from, stream_within, stream_at}
use Rattle.xcf_stream.specs.Streams.{Streams, streams_at}
use Rattle.xcf_tile.specs.Tile.{Tile, plain_tile, encoded_tile, tile_in, tile_of}

-- good, or one of the two faults
abbrev pub Listed : ℕ → Type 0
Listed m = (m ≡ 0) ⊎ ((m ≡ Mark.short) ⊎ (m ≡ Mark.overrun))

-- a stream has the mark of the operation that ends it
from_listed : (rest : ℕ → ℕ → Stream) (at left : ℕ) (o : Operation) → ((n l : ℕ) → Listed (rest n l).mark) → Listed (stream_from rest at left o).mark
unfolding stream_from
from_listed rest at left short h = inr (inl refl)
from_listed rest at left over h = inr (inr refl)
from_listed rest at left (gives bs next) h = h next (left - length bs)

within_listed : (fuel : ℕ) (ws : List ℕ) (at left : ℕ) → Listed (stream_within fuel ws at left).mark
unfolding stream_within
within_listed zero ws at left = cond_both (ltb 0 left) _ _ (λ (s : Stream). Listed s.mark) (λ _. inr (inl refl)) (λ _. inl refl)
within_listed (suc fuel) ws at left =
    cond_both (ltb 0 left) _ _ (λ (s : Stream). Listed s.mark)
    (λ _. from_listed (stream_within fuel ws) at left (operation_at ws at left) (within_listed fuel ws)) (λ _. inl refl)

stream_listed : (ws : List ℕ) (at left : ℕ) → Listed (stream_at ws at left).mark
unfolding stream_at
stream_listed ws at left = within_listed (length ws - at) ws at left

-- streams together have the mark of the first that is marked
streams_listed : (count : ℕ) (ws : List ℕ) (at n : ℕ) → Listed (streams_at count ws at n).mark
unfolding streams_at
streams_listed zero ws at n = inl refl
streams_listed (suc count) ws at n =
    cond_both (eqb (stream_at ws at n).mark 0) _ _ (λ (s : Streams). Listed s.mark)
    (λ _. streams_listed count ws (stream_at ws at n).at n) (λ _. stream_listed ws at n)

in_listed : (ws : List ℕ) (n depth compression : ℕ) → Listed (tile_in ws n depth compression).mark
unfolding tile_in plain_tile encoded_tile
in_listed ws n depth compression =
    cond_both (eqb compression 0) _ _ (λ (t : Tile). Listed t.mark)
    (λ _. cond_both (leb (n * depth) (length ws)) _ _ (λ (t : Tile). Listed t.mark) (λ _. inl refl) (λ _. inr (inl refl)))
    (λ _. streams_listed depth ws 0 n)

pub mark_listed : (window : List ℕ) (w h depth compression : ℕ) → Listed (tile_of window w h depth compression).mark
unfolding tile_of
mark_listed window w h depth compression = in_listed (take window_limit window) (w * h) depth compression
