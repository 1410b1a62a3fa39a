-- The loop that takes a tile's lines: `Taking` holds at its head, a line stored by the code's copy keeps it (`taking_copied`), and
-- with no line left it names the tile (`taking_over`). What is left to take from here on gives all that was to be taken.
-- Assumes nothing.
use Prim.Native.Nat.{ℕ, zero, suc, ◌+◌, ◌-◌, ◌≤◌, ◌<◌}
use mathlib.Core.Path.{◌≡◌, refl, ◌∙◌}
use mathlib.Core.List.{List}
use native.Mathlib.Omega.{arith}
use native.Mathlib.Numerals.{sub-one}
use lib.ListN.{length, take, drop}
use lib.Seq.{sets, sets-eq, length-sets}
use borrow.Rule.Slice.PartMut.{put_mid}
use Rattle.xcf_numbers.specs.Limit.{word_limit}
use Rattle.xcf_store.specs.Word.{part}
use Rattle.xcf_store.proofs.Stores.{sets_append}
use Rattle.xcf_store.proofs.Parts.{part_length}
use Rattle.xcf_grid.specs.Parts.{lines, LinesFit}
use Rattle.xcf_grid.proofs.LinePlaces.{LinePlaces, next_line, places_next, line_copied}

pub record Taking (pixels : List ℕ) (start stride line n : ℕ) (old tile : List ℕ) (from to rest : ℕ) : Type 0 where
  pub same : length tile ≡ length old
  pub places : LinePlaces (length pixels) from stride (length tile) to line line rest
  pub small : length pixels + stride < word_limit
  pub taken : sets tile to (lines pixels from stride line rest) ≡ sets old 0 (lines pixels start stride line n)

pub taking_start : {pixels : List ℕ} {start stride line n : ℕ} {old : List ℕ} → LinesFit pixels start stride line n old
    → Taking pixels start stride line n old old start 0 n
taking_start f = record { same = refl; places = record { inside = f.source; room = omega (arith, f.target) }; small = f.small; taken = refl }

line_stored : (tile : List ℕ) (to : ℕ) (pixels : List ℕ) (from line : ℕ) → (from + line ≤ length pixels) × (to + line ≤ length tile)
    → {k : ℕ} {copied : List ℕ} → k ≡ line → copied ≡ take (from + line - from) (drop from pixels)
    → put_mid to k tile copied ≡ sets tile to (part pixels from line)
line_stored tile to pixels from line next whole e =
    let size = part_length pixels from line next.0 in
    line_copied tile to pixels from line whole e ∙ rw (sets-eq (part pixels from line) tile to (omega (arith, size, next.1)), size)

lines_next : (tile pixels : List ℕ) (from stride line to rest : ℕ) → from + line ≤ length pixels → 0 < rest
    → sets (sets tile to (part pixels from line)) (to + line) (lines pixels (from + stride) stride line (rest - 1))
    ≡ sets tile to (lines pixels from stride line rest)
unfolding lines
lines_next tile pixels from stride line to zero inside some = absurd (omega (arith, some))
lines_next tile pixels from stride line to (suc rest) inside some =
    rw (sub-one, sets_append tile to (part pixels from line), part_length pixels from line inside)

module _ {pixels : List ℕ} {start stride line n : ℕ} {old tile : List ℕ} {from to rest : ℕ} (g : Taking pixels start stride line n old tile from to rest) where
  taking_line : 0 < rest → Taking pixels start stride line n old (sets tile to (part pixels from line)) (from + stride) (to + line) (rest - 1)
  taking_line some =
      let size = length-sets tile to (part pixels from line) in
      record {
        same = size ∙ g.same;
        places = rw size (places_next g.places some);
        small = g.small;
        taken = lines_next tile pixels from stride line to rest (next_line g.places some).0 some ∙ g.taken;
      }

  pub taking_copied : 0 < rest → {k : ℕ} {copied : List ℕ} → k ≡ line → copied ≡ take (from + line - from) (drop from pixels)
      → Taking pixels start stride line n old (put_mid to k tile copied) (from + stride) (to + line) (rest - 1)
  taking_copied some size e = rw (line_stored tile to pixels from line (next_line g.places some) size e) (taking_line some)

  pub taking_over : rest ≡ 0 → tile ≡ sets old 0 (lines pixels start stride line n)
  unfolding lines
  taking_over z = rw z at g.taken
