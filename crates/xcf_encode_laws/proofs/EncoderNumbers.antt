-- A call that encodes a tile answers a listed number (`encoder_listed`): 0, the 14 of an unusable tile, the 11 of its pixels or the 18
-- of the output, by the tests in their order.
-- Assumes nothing.
use Prim.Native.Nat.{ℕ, ◌*◌}
use mathlib.Core.Path.{◌≡◌, refl}
use mathlib.Core.List.{List}
use mathlib.Core.Bool.{true}
use lib.Dec.{ltb, eqb}
use lib.ListN.{length}
use Rattle.std.proofs.lemmas.Bool.{cond_both}
use Rattle.xcf_numbers.specs.Listed.{listed}
use Rattle.xcf_tile.specs.Answer.{usable_tile}
use Rattle.xcf_encode.specs.Tile.{encode_tile}
use Rattle.xcf_encode.specs.declared.EncodeAnswer.{EncodeAnswer}
use Rattle.xcf_encode.specs.Answer.{room_refusal, tile_refusal, encode_answer, encoder_numbers}

abbrev Listed : ℕ → Type 0
Listed n = listed encoder_numbers n ≡ true

room_listed : (size room : ℕ) → Listed (room_refusal size room)
unfolding listed room_refusal
room_listed size room = cond_both (ltb room size) _ _ Listed (λ _. refl) (λ _. refl)

refusal_listed : (w h depth : ℕ) (pixels : List ℕ) (room : ℕ) → Listed (tile_refusal w h depth pixels room)
unfolding listed tile_refusal
refusal_listed w h depth pixels room =
    cond_both (usable_tile w h depth) _ _ Listed
    (λ _. cond_both (eqb (length pixels) (w * h * depth)) _ _ Listed (λ _. room_listed (length (encode_tile (w * h) depth pixels)) room) (λ _. refl))
    (λ _. refl)

answer_listed : (n : ℕ) (encoding : List ℕ) → Listed n → Listed (encode_answer n encoding).number
unfolding listed encode_answer
answer_listed n encoding h = cond_both (eqb n 0) _ _ (λ (a : EncodeAnswer). Listed a.number) (λ _. refl) (λ _. h)

pub encoder_listed : (pixels : List ℕ) (w h depth : ℕ) (output : List ℕ)
    → listed encoder_numbers (encode_answer (tile_refusal w h depth pixels (length output)) (encode_tile (w * h) depth pixels)).number ≡ true
encoder_listed pixels w h depth output = answer_listed _ _ (refusal_listed w h depth pixels (length output))
