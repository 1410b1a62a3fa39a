-- RULES, "Isolation": damage inside the windows of some tiles changes nothing outside them. The structure bytes are the same, so the
-- file is read as before. Of the tiles that are not chosen, a good one is kept, since the bytes that it consumed lie in its window
-- (`good_alike`, from `good_tile_kept`), and any other has the same window (`window_alike`). A chosen tile is what its new window gives.
-- Assumes nothing.
use Prim.Native.Nat.{ℕ, ◌<◌}
use mathlib.Core.Path.{◌≡◌, refl, sym, ◌∙◌}
use mathlib.Core.Bool.{Bool, true, false}
use mathlib.Core.Logic.{⊎_elim}
use mathlib.Core.List.{List}
use borrow.Author.Tests.{eqb-true}
use lib.Dec.{eqb}
use lib.ListN.{get_or}
use Rattle.xcf_table.specs.declared.Row.{Row}
use Rattle.xcf_tile.specs.Tile.{Tile}
use Rattle.xcf_grid.specs.Pixels.{shown}
use Rattle.xcf_read.specs.Answer.{reading, row_of}
use Rattle.xcf_read_laws.proofs.Accepted.{accepted_sized}
use Rattle.xcf_read_laws.proofs.AcceptedRows.{RowRead}
use Rattle.xcf_decode.specs.Answer.{Decoding, row_decoding}
use Rattle.xcf_decode_laws.specs.Given.{IsTile, tile_given, Fit, decoding_given}
use Rattle.xcf_isolation.specs.Kept.{TileByte, Agree, Shows}
use Rattle.xcf_isolation.specs.Isolation.{Damaged, RowIsolated, Isolation}
use Rattle.xcf_read_laws.proofs.Accepts.{accepts}
use Rattle.xcf_decode_laws.proofs.RowDecoded.{row_decoded}
use Rattle.xcf_isolation.proofs.SameBytes.{structure_same, window_byte_same, read_same}
use Rattle.xcf_isolation.proofs.SameWindows.{tile_same}
use Rattle.xcf_isolation.proofs.ConsumedBytes.{consumed_in_window}
use Rattle.xcf_isolation.proofs.Given.{pointers_passed, given_shown, same_shown}
use Rattle.xcf_isolation.proofs.Kept.{good_tile_kept}
use Rattle.xcf_decode_laws.proofs.TilesShown.{row_shows}
use Rattle.xcf_decode_laws.proofs.TilesGood.{row_good_when_valid}

-- two decodings show a tile with the same mark and pixels
abbrev Alike : Row → ℕ → Decoding → Decoding → Type 0
Alike r t d e =
    (get_or e.marks t 0 ≡ get_or d.marks t 0)
    × (shown r.width r.height r.depth t e.pixels ≡ shown r.width r.height r.depth t d.pixels)

alike : {r : Row} {t : ℕ} {given : Tile} {d e : Decoding} → Shows r t given d → Shows r t given e → Alike r t d e
alike before after = (after.mark ∙ sym before.mark, after.pixels ∙ sym before.pixels)

-- a row whose tiles are shown alike where they are not chosen
row_isolated : (size : ℕ) {f : List ℕ} {S : ℕ → Type 0} {r : Row} (g : List ℕ) (compression : ℕ) (Chosen : ℕ → Type 0) → RowRead size f S r
    → ((t : ℕ) → t < r.count → (Chosen t → ⊥) → Alike r t (row_decoding size f r compression) (row_decoding size g r compression))
    → RowIsolated size g r compression Chosen (row_decoding size f r compression) (row_decoding size g r compression)
unfolding row_decoding
row_isolated size {r = r} g compression Chosen row others = record {
  accepted = (refl, refl);
  same = others;
  given = λ t below _. row_shows size g r compression row.width.0 row.depth.0 row.count t below;
  good = λ t below _. row_good_when_valid size g r compression row.width.0 row.depth.0 row.count t below;
}

module _ (f g lent : List ℕ) (Chosen : ℕ → ℕ → Type 0) (accepted : (reading f lent).answer.number ≡ 0) (damage : Damaged f g (reading f lent) Chosen) where
  -- a tile that is not chosen, and lent buffers
  module _ (k t : ℕ) (is : IsTile (reading f lent) k t) (free : Chosen k t → ⊥) (pixels marks pixels' marks' : List ℕ)
      (fit : Fit (reading f lent) k pixels marks) (fit' : Fit (reading g lent) k pixels' marks') where
    abbrev ShownAlike : Type 0
    ShownAlike =
        Alike (row_of (reading f lent) k) t (decoding_given f (reading f lent) k pixels marks)
        (decoding_given g (reading g lent) k pixels' marks')

    -- damage leaves the bytes that decide it
    agree : Agree f g (TileByte f (reading f lent) k t)
    agree = record {
      long = damage.long;
      same = λ i. ⊎_elim (structure_same damage i)
          (λ c. window_byte_same damage k t is free i (consumed_in_window f (reading f lent) k t i c));
    }

    good_alike : (tile_given f (reading f lent) k t).mark ≡ 0 → ShownAlike
    good_alike good =
        let kept = (good_tile_kept f g lent lent k t accepted (accepted_sized f lent accepted).0 (record { is = is; good = good }) agree).1 in
        alike (kept.before pixels marks fit) (kept.after pixels' marks' fit')

    window_alike : ShownAlike
    window_alike =
        let passed = pointers_passed f lent accepted k is.row in
        let same = tile_same _ f g _ damage.long (λ i lo hi. structure_same damage i (passed i lo hi)) _ t is.tile (window_byte_same damage k t is free) in
        alike (given_shown f lent accepted k t is pixels marks fit) (same_shown f g lent lent accepted (read_same damage lent) k t is same pixels' marks' fit')

    other_alike : ShownAlike
    other_alike = go (eqb (tile_given f (reading f lent) k t).mark 0) refl
      where
        go : (b : Bool) → eqb (tile_given f (reading f lent) k t).mark 0 ≡ b → ShownAlike
        go true e = good_alike (eqb-true _ _ e)
        go false _ = window_alike

pub isolated : Isolation
isolated f g lent Chosen accepted damage =
    let same = read_same damage lent in
    record {
      read = same;
      rows = λ k below pixels marks pixels' marks' fit fit'.
          let d = row_decoded f lent accepted k below pixels marks fit in
          let e = row_decoded g lent (rw same accepted) k (rw same below) pixels' marks' fit' in
          rw (d, e, same) (row_isolated _ g _ (Chosen k) ((accepts f lent accepted).row k below) (λ t inside free.
          rw (d, e, same) at (other_alike f g lent Chosen accepted damage k t (record { row = below; tile = inside }) free pixels marks pixels' marks' fit fit')));
    }
