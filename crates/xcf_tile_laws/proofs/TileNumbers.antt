-- A call for a single tile answers a listed number (`tile_listed`): 0, the 14 of an unusable tile or the 11 of its buffer, by the
-- tests in their order.
-- Assumes nothing.
use Prim.Native.Nat.{ℕ, ◌*◌}
use mathlib.Core.Path.{◌≡◌, refl}
use mathlib.Core.List.{List}
use mathlib.Core.Bool.{true, ◌&&◌}
use lib.Dec.{leb, eqb}
use lib.ListN.{length}
use Rattle.std.proofs.lemmas.Bool.{cond_both}
use Rattle.xcf_numbers.specs.Listed.{listed}
use Rattle.xcf_tile.specs.Tile.{Tile, tile_of}
use Rattle.xcf_tile.specs.declared.TileAnswer.{TileAnswer}
use Rattle.xcf_tile.specs.Answer.{usable_tile, decode_refusal, decode_answer, tile_numbers}

abbrev Listed : ℕ → Type 0
Listed n = listed tile_numbers n ≡ true

refusal_listed : (w h depth compression len : ℕ) → Listed (decode_refusal w h depth compression len)
unfolding listed decode_refusal
refusal_listed w h depth compression len =
    cond_both (usable_tile w h depth && leb compression 1) _ _ Listed (λ _. cond_both (eqb len (w * h * depth)) _ _ Listed (λ _. refl) (λ _. refl)) (λ _. refl)

answer_listed : (n : ℕ) (t : Tile) → Listed n → Listed (decode_answer n t).number
unfolding listed decode_answer
answer_listed n t h = cond_both (eqb n 0) _ _ (λ (a : TileAnswer). Listed a.number) (λ _. refl) (λ _. h)

pub tile_listed : (window : List ℕ) (w h depth compression : ℕ) (pixels : List ℕ)
    → listed tile_numbers (decode_answer (decode_refusal w h depth compression (length pixels)) (tile_of window w h depth compression)).number ≡ true
tile_listed window w h depth compression pixels = answer_listed _ _ (refusal_listed w h depth compression (length pixels))
