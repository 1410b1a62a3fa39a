-- Lines put into the pixels: the length stays (`put_lines-length`), byte b of line j is the tile's (`put_lines-inside`), and a byte in
-- none of the lines stays (`put_lines-outside`). By induction over the lines, each of which is pasted in.
-- Assumes nothing.
use Prim.Native.Nat.{ℕ, zero, suc, ◌+◌, ◌*◌, ◌≤◌, ◌<◌}
use mathlib.Core.Path.{◌≡◌, refl, ◌∙◌}
use mathlib.Core.List.{List}
use native.Mathlib.Omega.{arith}
use lib.ListN.{length, get_or, drop, length-drop}
use lib.Seq.{paste, length-paste, get_or-drop}
use Rattle.xcf_grid.specs.Parts.{put_lines, LineFits}
use Rattle.xcf_grid.proofs.Pasted.{get_or-paste-inside, get_or-paste-outside}

-- the first line lies in the tile and in the pixels (`first_source`, `first_target`), and with it in, the others fit (`others`)
module _ {pixels : List ℕ} {to stride : ℕ} {tile : List ℕ} {from line n : ℕ} (h : LineFits pixels to stride tile from line (suc n)) where
  first_source : from + line ≤ length tile
  first_source = omega (arith, h.source)

  first_target : to + line ≤ length pixels
  first_target = omega (arith, h.target)

  first_there : line ≤ length (drop from tile)
  first_there = omega (arith, first_source, length-drop from tile)

  first_length : length (paste pixels to (drop from tile) line) ≡ length pixels
  first_length = length-paste pixels to (drop from tile) line first_target first_there

  others : LineFits (paste pixels to (drop from tile) line) (to + stride) stride tile (from + line) line n
  others = record { source = omega (arith, h.source); target = omega (arith, h.target, first_length) }

module _ (stride : ℕ) (tile : List ℕ) (line : ℕ) where
  pub put_lines-length : (pixels : List ℕ) (to from n : ℕ) → LineFits pixels to stride tile from line n
      → length (put_lines pixels to stride tile from line n) ≡ length pixels
  unfolding put_lines
  put_lines-length pixels to from zero h = refl
  put_lines-length pixels to from (suc n) h = put_lines-length (paste pixels to (drop from tile) line) (to + stride) (from + line) n (others h) ∙ first_length h

  pub put_lines-outside : (pixels : List ℕ) (to from n : ℕ) → LineFits pixels to stride tile from line n
      → (i : ℕ) → ((j : ℕ) → j < n → to + stride * j ≤ i → i < to + stride * j + line → ⊥)
      → get_or (put_lines pixels to stride tile from line n) i 0 ≡ get_or pixels i 0
  unfolding put_lines
  put_lines-outside pixels to from zero h i out = refl
  put_lines-outside pixels to from (suc n) h i out =
      put_lines-outside (paste pixels to (drop from tile) line) (to + stride) (from + line) n (others h) i
      (λ j below low high. out (suc j) (omega (arith, below)) (omega (arith, low)) (omega (arith, high)))
      ∙ get_or-paste-outside pixels to (drop from tile) line (omega (arith, first_target h)) (first_there h) i
      (λ low high. out 0 (omega arith) (omega (arith, low)) (omega (arith, high)))

  pub put_lines-inside : line ≤ stride → (pixels : List ℕ) (to from n : ℕ) → LineFits pixels to stride tile from line n
      → (j b : ℕ) → j < n → b < line
      → get_or (put_lines pixels to stride tile from line n) (to + stride * j + b) 0 ≡ get_or tile (from + line * j + b) 0
  unfolding put_lines
  put_lines-inside apart pixels to from zero h j b below within = absurd (omega (arith, below))
  put_lines-inside apart pixels to from (suc n) h zero b below within =
      let place : to + stride * 0 + b ≡ to + b = omega arith in
      let origin : from + line * 0 + b ≡ from + b = omega arith in
      rw (place, origin)
      (put_lines-outside (paste pixels to (drop from tile) line) (to + stride) (from + line) n (others h) (to + b) (λ j _ low _. omega (arith, low, within, apart))
      ∙ get_or-paste-inside pixels to (drop from tile) line (omega (arith, first_target h)) (first_there h) b within
      ∙ get_or-drop from tile b 0)
  put_lines-inside apart pixels to from (suc n) h (suc j) b below within =
      let place : to + stride * suc j + b ≡ to + stride + stride * j + b = omega arith in
      let origin : from + line * suc j + b ≡ from + line + line * j + b = omega arith in
      rw (place, origin) (put_lines-inside apart (paste pixels to (drop from tile) line) (to + stride) (from + line) n (others h) j b (omega (arith, below)) within)
