-- A tile is good exactly when its window begins with a valid encoding, and then shows that encoding's pixels; else its pixels are zero.
-- A good tile depends on the bytes it consumed alone, so those bytes are a valid encoding by themselves, and any window that begins
-- with one gives the same tile.
-- Assumes nothing.
use Prim.Native.Nat.{ℕ, ◌≤◌}
use mathlib.Core.Path.{◌≡◌, sym, ap, ◌∙◌}
use mathlib.Core.List.{List}
use native.Mathlib.Nat.{le_refl}
use native.Mathlib.Omega.{arith}
use lib.ListN.{length, take}
use lib.Seq.{length-take-le, take-take}
use Rattle.xcf_tile.specs.Tile.{Tile, tile_of}
use Rattle.xcf_tile_laws.proofs.Consumed.{consumed_decides, consumed_inside}
use Rattle.xcf_tile_laws.proofs.Pixels.{marked_zero}
use Rattle.xcf_tile_laws.specs.Valid.{BeginsWith, GoodWhenValid}

module _ (window : List ℕ) (w h depth compression : ℕ) where
  -- the tile of these sizes in some bytes
  abbrev tile_from : List ℕ → Tile
  tile_from bytes = tile_of bytes w h depth compression

  -- the bytes that a good tile consumed are a valid encoding
  good_begins : (tile_from window).mark ≡ 0 → BeginsWith window w h depth compression (tile_from window).pixels
  good_begins z =
      let n = (tile_from window).consumed in
      let inside : n ≤ length window = consumed_inside window w h depth compression in
      let long = length-take-le n window inside in
      let same : tile_from (take n window) ≡ tile_from window =
      consumed_decides window (take n window) w h depth compression z (omega (arith, long)) (sym (take-take n n window (le_refl n))) in
      record {
        n = n;
        inside = inside;
        encoding = record {
          good = ap (λ (t : Tile). t.mark) same ∙ z;
          whole = ap (λ (t : Tile). t.consumed) same ∙ sym long;
          shows = ap (λ (t : Tile). t.pixels) same;
        };
      }

  -- a window that begins with a valid encoding gives its tile
  valid_gives : (ps : List ℕ) → BeginsWith window w h depth compression ps → ((tile_from window).mark ≡ 0) × ((tile_from window).pixels ≡ ps)
  valid_gives ps b =
      let e = b.encoding in
      let whole : (tile_from (take b.n window)).consumed ≡ b.n = e.whole ∙ length-take-le b.n window b.inside in
      let same : tile_from window ≡ tile_from (take b.n window) =
      consumed_decides (take b.n window) window w h depth compression e.good (omega (arith, whole, b.inside))
      (rw whole (take-take b.n b.n window (le_refl b.n))) in
      (ap (λ (t : Tile). t.mark) same ∙ e.good, ap (λ (t : Tile). t.pixels) same ∙ e.shows)

pub tile_good_when_valid : (window : List ℕ) (w h depth compression : ℕ)
    → GoodWhenValid window w h depth compression (tile_of window w h depth compression).mark (tile_of window w h depth compression).pixels
tile_good_when_valid window w h depth compression = record {
  good = good_begins window w h depth compression;
  valid = valid_gives window w h depth compression;
  marked = marked_zero window w h depth compression;
}
