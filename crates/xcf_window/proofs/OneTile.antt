-- Tile t of a row that is not refused. The pointers lie in the file (`pointers_inside`), and the tile's pixels in a scratch
-- (`pixels_small`); its mark is 21 at most (`mark_small`); what its decoding gives is the tile's (`scratched`, `scratch_pixels`).
-- Assumes nothing.
use Prim.Native.Nat.{ℕ, ◌+◌, ◌-◌, ◌*◌, ◌≤◌, ◌<◌}
use mathlib.Core.Path.{◌≡◌, ap, sym, ◌∙◌}
use mathlib.Core.List.{List, ◌++◌}
use mathlib.Core.Logic.{⊎_elim}
use native.Mathlib.Omega.{arith}
use lib.ListN.{length, take, drop}
use lib.Seq.{length-take-le, length_front, take-append_seam}
use Rattle.xcf_numbers.specs.Limit.{window_limit, stream_limit, tile_size}
use Rattle.xcf_store.specs.Word.{part}
use Rattle.xcf_table.specs.declared.Row.{Row}
use Rattle.xcf_grid.specs.Grid.{tile_width, tile_height}
use Rattle.xcf_tile.specs.Tile.{Tile, tile_in, tile_of}
use Rattle.xcf_tile.specs.Parts.{TileGiven}
use Rattle.xcf_stream.specs.declared.StreamEnd.{StreamEnd}
use Rattle.xcf_numbers.specs.Fault.{mark_of_any}
use Rattle.xcf_laws.proofs.Products.{small}
use Rattle.xcf_tile_laws.proofs.Pixels.{pixels_length}
use Rattle.xcf_tile_laws.proofs.Marks.{Listed, mark_listed}
use Rattle.xcf_grid.specs.declared.frame.Frame.{Frame}
use Rattle.xcf_window.specs.Window.{pointer_at, window_end, window_length, window, tile}
use Rattle.xcf_window.specs.Parts.{Ready, Scratched}
use Rattle.xcf_grid.specs.Parts.{frame_of}
use Rattle.xcf_window.proofs.Cuts.{cut_same}
use Rattle.xcf_grid.proofs.Grid.{tile_width_lem, tile_height_lem}
use Rattle.xcf_window.proofs.TilePointers.{tiles_inside}

pub pointers_inside : {size : ℕ} {f : List ℕ} {r : Row} → Ready size f r → r.pointers + size * (r.count + 1) ≤ length f
pointers_inside {size} {f} {r} ready = tiles_inside size r.count 0 f r.pointers ready.pointers

pub scratch_pixels : {t : Tile} {m : ℕ} {old new : List ℕ} → Scratched t m old new → take (length t.pixels) new ≡ t.pixels
scratch_pixels {t} {old = old} s = rw s.content (take-append_seam t.pixels (drop (length t.pixels) old))

listed_small : {m : ℕ} → Listed m → m ≤ 21
listed_small l = ⊎_elim (λ e. omega arith) (λ l'. ⊎_elim (λ e. omega arith) (λ e. omega arith) l') l

pub mark_small : (size : ℕ) (f : List ℕ) (r : Row) (compression t : ℕ) → (tile size f r compression t).mark ≤ 21
unfolding tile
mark_small size f r compression t =
    listed_small (mark_listed (window size f r t) (tile_width r.width t) (tile_height r.width r.height t) r.depth compression)

module _ {size : ℕ} {f : List ℕ} {r : Row} {t : ℕ} {s : Frame} (ready : Ready size f r) (below : t < r.count) (frame : s ≡ frame_of r t) where
  width_in_range : (1 ≤ s.width) × (s.width ≤ 64)
  width_in_range = rw frame (tile_width_lem r.width t ready.range.wide.0)

  height_in_range : (1 ≤ s.height) × (s.height ≤ 64)
  height_in_range = rw frame (tile_height_lem r.width r.height t ready.range.wide.0 (rw ready.range.count at below))

  pub pixels_small : (s.width * s.height ≤ stream_limit) × (s.width * s.height * r.depth ≤ tile_size)
  pixels_small = small width_in_range.1 height_in_range.1 ready.range.deep.1

  -- the window that the decoder is lent is not cut yet
  same_tile : (compression : ℕ) → tile_of (part f (pointer_at size f r t) (window_end size f r t - pointer_at size f r t)) s.width s.height r.depth compression ≡ tile size f r compression t
  unfolding tile window window_length
  same_tile compression =
      let first = pointer_at size f r t in
      rw frame (sym (cut_same f first (window_end size f r t - first) (tile_width r.width t) (tile_height r.width r.height t) r.depth compression))

  pub scratched : (compression : ℕ) {window scratch new : List ℕ} {e : StreamEnd} {mark : ℕ} → window ≡ part f (pointer_at size f r t) (window_end size f r t - pointer_at size f r t)
      → length scratch ≡ tile_size → TileGiven (tile_in (take window_limit window) (s.width * s.height) r.depth compression) e new → mark ≡ mark_of_any e.fault
      → Scratched (tile size f r compression t) mark scratch (new ++ drop (s.width * s.height * r.depth) scratch)
  unfolding tile_of
  scratched compression {window} {scratch} {new} is room g m =
      let bytes = s.width * s.height * r.depth in
      let exact = length-take-le bytes scratch (omega (arith, pixels_small.1, room)) in
      let same = ap (λ w. tile_of w s.width s.height r.depth compression) is ∙ same_tile compression in
      let pixels = g.pixels ∙ ap (λ x. x.pixels) same in
      let whole = ap length g.pixels ∙ pixels_length window s.width s.height r.depth compression in
      record {
        mark = m ∙ g.mark ∙ ap (λ x. x.mark) same;
        size = length_front scratch new bytes (whole ∙ sym exact);
        content = rw (← pixels, whole);
      }
