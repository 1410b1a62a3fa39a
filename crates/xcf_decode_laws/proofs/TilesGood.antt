-- Each tile of a drawable is good exactly when its window begins with a valid encoding. What a row's decoding shows of a tile is that
-- tile (`row_good_when_valid`); a decoding that is not refused is the row's, whose numbers are in range (`drawable_good_when_valid`).
-- Assumes nothing.
use Prim.Native.Nat.{ℕ, ◌≤◌, ◌<◌}
use mathlib.Core.Path.{◌≡◌}
use mathlib.Core.List.{List}
use borrow.Author.Tests.{eqb-true, eqb-false}
use lib.Dec.{eqb}
use lib.ListN.{length, get_or}
use Rattle.std.proofs.lemmas.Bool.{cond_both}
use Rattle.xcf_table.specs.declared.Row.{Row}
use Rattle.xcf_table.specs.Table.{row_at}
use Rattle.xcf_grid.specs.Grid.{tile_width, tile_height, tile_count}
use Rattle.xcf_grid.specs.Pixels.{shown}
use Rattle.xcf_tile_laws.specs.Valid.{GoodWhenValid}
use Rattle.xcf_tile_laws.proofs.GoodWhenValid.{tile_good_when_valid}
use Rattle.xcf_window.specs.Window.{window, tile}
use Rattle.xcf_window.specs.Usable.{fits}
use Rattle.xcf_decode.specs.Answer.{drawable_refusal, Decoding, row_decoding, decoding}
use Rattle.xcf_decode.proofs.Usable.{drawable_ready}
use Rattle.xcf_decode_laws.proofs.TilesShown.{row_shows}

-- tile t of a row, as a decoding shows it, is good when valid
abbrev TileGood : ℕ → List ℕ → Row → ℕ → ℕ → Decoding → Type 0
TileGood size f r compression t d =
    GoodWhenValid (window size f r t) (tile_width r.width t) (tile_height r.width r.height t) r.depth compression
    (get_or d.marks t 0) (shown r.width r.height r.depth t d.pixels)

pub row_good_when_valid : (size : ℕ) (f : List ℕ) (r : Row) (compression : ℕ) → 1 ≤ r.width → 1 ≤ r.depth → r.count ≡ tile_count r.width r.height
    → (t : ℕ) → t < r.count → TileGood size f r compression t (row_decoding size f r compression)
unfolding tile
row_good_when_valid size f r compression wide deep count t below =
    let s = row_shows size f r compression wide deep count t below in
    rw (s.0, s.1) (tile_good_when_valid _ _ _ _ _)

pub drawable_good_when_valid : (size : ℕ) (file table : List ℕ) (k compression : ℕ) (pixels marks : List ℕ)
    → (decoding size file table k compression pixels marks).answer.number ≡ 0 → (t : ℕ) → t < (row_at table k).count
    → TileGood size file (row_at table k) compression t (decoding size file table k compression pixels marks)
unfolding decoding
drawable_good_when_valid size file table k compression pixels marks =
    let r = row_at table k in
    let answer = drawable_refusal size file (length table) r compression (fits r (length pixels) (length marks)) in
    cond_both (eqb answer.number 0) _ _ (λ (d : Decoding). d.answer.number ≡ 0 → (t : ℕ) → t < r.count → TileGood size file r compression t d)
    (λ e _.
    let range = (drawable_ready size file (length table) r compression _ (eqb-true _ _ e)).1.range in
    row_good_when_valid size file r compression range.wide.0 range.deep.0 range.count)
    (λ e z. absurd (eqb-false _ _ e z))
