-- A tile's pixels: as many bytes as its sides and depth say (`pixels_length`); zero where it is marked (`marked_zero`); else,
-- where it is encoded, byte by byte those of its streams (`pixels_are_streams`), by the laws of `interleave`.
-- Assumes nothing.
use mathlib.Core.Path.{◌≡◌, refl, ap, ◌∙◌}
use mathlib.Core.List.{List, []}
use Prim.Native.Nat.{ℕ, ◌+◌, ◌*◌, ◌<◌}
use native.Mathlib.Nat.{mul_comm, zero-add}
use borrow.Author.Tests.{leb-true, eqb-true, eq-eqb, ne_eqb}
use lib.ListN.{length, get_or, take, replicate, length-replicate}
use lib.Seq.{length-take-le}
use lib.Dec.{leb, eqb}
use Rattle.std.proofs.lemmas.Bool.{cond_both}
use Rattle.xcf_numbers.specs.Limit.{window_limit}
use Rattle.xcf_stream.specs.Streams.{streams_at}
use Rattle.xcf_tile.specs.Tile.{Tile, plain_tile, encoded_tile, tile_in, tile_of}
use Rattle.xcf_tile.proofs.Lengths.{streams_whole}
use Rattle.xcf_tile.proofs.Interleaved.{interleave_length, interleave_at}

abbrev Whole : ℕ → Tile → Type 0
Whole size t = length t.pixels ≡ size

plain_length : (ws : List ℕ) (n depth : ℕ) → Whole (n * depth) (plain_tile ws n depth)
unfolding plain_tile
plain_length ws n depth =
    cond_both (leb (n * depth) (length ws)) _ _ (Whole (n * depth)) (λ e. length-take-le (n * depth) ws (leb-true _ _ e))
    (λ _. length-replicate _ _)

encoded_length : (ws : List ℕ) (n depth : ℕ) → Whole (n * depth) (encoded_tile ws n depth)
unfolding encoded_tile
encoded_length ws n depth =
    cond_both (eqb (streams_at depth ws 0 n).mark 0) _ _ (λ (l : List ℕ). length l ≡ n * depth)
    (λ e.
    interleave_length n 0 (streams_at depth ws 0 n).planes
    ∙ ap (λ (d : ℕ). d * n) (streams_whole depth ws 0 n (eqb-true _ _ e)).planes
    ∙ mul_comm depth n)
    (λ _. length-replicate _ _)

pub pixels_length : (window : List ℕ) (w h depth compression : ℕ) → length (tile_of window w h depth compression).pixels ≡ w * h * depth
unfolding tile_of tile_in
pixels_length window w h depth compression =
    cond_both (eqb compression 0) _ _ (Whole (w * h * depth)) (λ _. plain_length (take window_limit window) (w * h) depth)
    (λ _. encoded_length (take window_limit window) (w * h) depth)

abbrev ZeroMarked : ℕ → Tile → Type 0
ZeroMarked size t = (t.mark ≡ 0 → ⊥) → t.pixels ≡ replicate size 0

plain_zero : (ws : List ℕ) (n depth : ℕ) → ZeroMarked (n * depth) (plain_tile ws n depth)
unfolding plain_tile
plain_zero ws n depth =
    cond_both (leb (n * depth) (length ws)) _ _ (ZeroMarked (n * depth)) (λ _ m. absurd (m refl)) (λ _ _. refl)

encoded_zero : (ws : List ℕ) (n depth : ℕ) → ZeroMarked (n * depth) (encoded_tile ws n depth)
unfolding encoded_tile
encoded_zero ws n depth = λ m. simp (ne_eqb _ _ m)

pub marked_zero : (window : List ℕ) (w h depth compression : ℕ) → ((tile_of window w h depth compression).mark ≡ 0 → ⊥) → (tile_of window w h depth compression).pixels ≡ replicate (w * h * depth) 0
unfolding tile_of tile_in
marked_zero window w h depth compression =
    cond_both (eqb compression 0) _ _ (ZeroMarked (w * h * depth)) (λ _. plain_zero (take window_limit window) (w * h) depth)
    (λ _. encoded_zero (take window_limit window) (w * h) depth)

pub pixels_are_streams : (window : List ℕ) (w h depth m i : ℕ) → (tile_of window w h depth 1).mark ≡ 0 → m < depth → i < w * h → get_or (tile_of window w h depth 1).pixels (m + depth * i) 0 ≡ get_or (get_or (streams_at depth (take window_limit window) 0 (w * h)).planes m []) i 0
unfolding tile_of tile_in encoded_tile
pixels_are_streams window w h depth m i z l k =
    let s = streams_at depth (take window_limit window) 0 (w * h) in
    let d = (streams_whole depth (take window_limit window) 0 (w * h) z).planes in
    simp (eq-eqb _ _ z) (rw (d, zero-add) at (interleave_at (w * h) 0 s.planes m i (rw d l) k))
