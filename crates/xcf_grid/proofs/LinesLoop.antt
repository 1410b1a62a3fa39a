-- The loop that puts a tile's lines: `LinesGoing` holds at its head, a line put by the code's copy keeps it (`going_copied`), and with
-- no line left it names the pixels (`going_over`). What is left to put from here on gives all that was to be put.
-- Assumes nothing.
use Prim.Native.Nat.{ℕ, zero, suc, ◌+◌, ◌-◌, ◌<◌}
use mathlib.Core.Path.{◌≡◌, refl, ◌∙◌}
use mathlib.Core.List.{List}
use native.Mathlib.Omega.{arith}
use native.Mathlib.Nat.{not-suc-le-zero}
use native.Mathlib.Numerals.{sub-one}
use lib.ListN.{length, take, drop, length-drop}
use lib.Seq.{paste, length-paste}
use borrow.Rule.Slice.PartMut.{put_mid}
use Rattle.xcf_numbers.specs.Limit.{word_limit}
use Rattle.xcf_grid.specs.Parts.{put_lines, LineRoom}
use Rattle.xcf_grid.proofs.LinePlaces.{LinePlaces, next_line, places_next, line_copied}

pub record LinesGoing (start : List ℕ) (at stride : ℕ) (tile : List ℕ) (line n : ℕ) (pixels : List ℕ) (to from rest : ℕ) : Type 0 where
  pub same : length pixels ≡ length start
  pub places : LinePlaces (length tile) from line (length pixels) to stride line rest
  pub small : length pixels + stride < word_limit
  pub put : put_lines pixels to stride tile from line rest ≡ put_lines start at stride tile 0 line n

pub going_start : {start : List ℕ} {at stride : ℕ} {tile : List ℕ} {line n : ℕ} → LineRoom start at stride tile 0 line n → LinesGoing start at stride tile line n start at 0 n
going_start room = record {
  same = refl;
  places = record { inside = omega (arith, room.fits.source); room = room.fits.target };
  small = room.small;
  put = refl;
}

put_next : (pixels : List ℕ) (to stride : ℕ) (tile : List ℕ) (from line rest : ℕ) → 0 < rest
    → put_lines (paste pixels to (drop from tile) line) (to + stride) stride tile (from + line) line (rest - 1) ≡ put_lines pixels to stride tile from line rest
unfolding put_lines
put_next pixels to stride tile from line zero h = absurd (not-suc-le-zero h)
put_next pixels to stride tile from line (suc rest) h = rw sub-one

module _ {start : List ℕ} {at stride : ℕ} {tile : List ℕ} {line n : ℕ} {pixels : List ℕ} {to from rest : ℕ} (g : LinesGoing start at stride tile line n pixels to from rest) where
  going_line : 0 < rest → LinesGoing start at stride tile line n (paste pixels to (drop from tile) line) (to + stride) (from + line) (rest - 1)
  going_line some =
      let next = next_line g.places some in
      let size = length-paste pixels to (drop from tile) line next.1 (omega (arith, next.0, length-drop from tile)) in
      record {
        same = size ∙ g.same;
        places = rw size (places_next g.places some);
        small = rw size g.small;
        put = put_next pixels to stride tile from line rest some ∙ g.put;
      }

  pub going_copied : 0 < rest → {k : ℕ} {part : List ℕ} → k ≡ line → part ≡ take (from + line - from) (drop from tile)
      → LinesGoing start at stride tile line n (put_mid to k pixels part) (to + stride) (from + line) (rest - 1)
  going_copied some size e = rw (line_copied pixels to tile from line size e) (going_line some)

  pub going_over : rest ≡ 0 → pixels ≡ put_lines start at stride tile 0 line n
  unfolding put_lines
  going_over z = rw z at g.put
