-- A drawable whose tile pointers are the starts of its tiles' encodings: each tile is decoded to what the pixels show of it, with
-- mark 0 (`tile_decoded`), so that the decoding is the pixels with no mark (`row_decoding_lem`).
-- Assumes nothing.
use Prim.Native.Nat.{ℕ, zero, suc, ◌+◌, ◌<◌}
use mathlib.Core.Path.{◌≡◌, refl, sym, ap, ◌∙◌}
use mathlib.Core.List.{List, [], ◌++◌}
use native.Mathlib.Nat.{add-zero, zero-add}
use native.Mathlib.Omega.{arith}
use lib.ListN.{get_or, replicate, length-replicate, get_or-replicate}
use lib.Seq.{ext_get_or}
use Rattle.xcf_table.specs.declared.Row.{Row}
use Rattle.xcf_grid.specs.Grid.{tile_width, tile_height}
use Rattle.xcf_tile.specs.Tile.{tile_of}
use Rattle.xcf_encode_laws.proofs.TileReadBack.{tile_read_back}
use Rattle.xcf_store.specs.Pointer.{narrow}
use Rattle.xcf_window.specs.Window.{tile}
use Rattle.xcf_grid.specs.Pixels.{tabulate, shown, pixels_of}
use Rattle.xcf_decode.specs.Answer.{marks_of, nonzero, row_decoding}
use Rattle.xcf_grid.proofs.Tabulated.{tabulate_length, tabulate_entry}
use Rattle.xcf_drawable.specs.Drawable.{Drawable, encoding_of, encodings, tiles_of}
use Rattle.xcf_drawable.specs.Parts.{Writable}
use Rattle.xcf_grid.proofs.Lines.{tiled_width, tiled_height, shown_length}
use Rattle.xcf_drawable.proofs.EncodingBound.{tiled}
use Rattle.xcf_round_trip.proofs.Parts.{read_row}
use Rattle.xcf_round_trip.proofs.PixelsShown.{pixels_of_tiles}
use Rattle.xcf_round_trip.proofs.WindowRead.{Pointed, window_begins}

-- tile t's encoding
encodings_entry : (n i : ℕ) (r : Row) (pixels : List ℕ) (t : ℕ) → t < n
    → get_or (encodings n i r pixels) t [] ≡ encoding_of r (i + t) pixels
unfolding encodings
encodings_entry zero i r pixels t below = absurd (omega arith)
encodings_entry (suc n) i r pixels zero below = rw add-zero
encodings_entry (suc n) i r pixels (suc t) below =
    let e : i + suc t ≡ i + 1 + t = omega arith in rw e (encodings_entry n (i + 1) r pixels t (omega arith))

tile_entry : (d : Drawable) (t : ℕ) → t < d.row.count → get_or (tiles_of d) t [] ≡ encoding_of d.row t d.pixels
tile_entry d t below = rw zero-add at (encodings_entry d.row.count 0 d.row d.pixels t below)

-- marks that are all 0
tabulate_zero : (n : ℕ) (f : ℕ → ℕ) → ((t : ℕ) → t < n → f t ≡ 0) → tabulate n 0 f ≡ replicate n 0
tabulate_zero n f zeros =
    ext_get_or 0 _ _ (tabulate_length n 0 f ∙ sym (length-replicate n 0)) (λ t inside.
    let below : t < n = rw tabulate_length at inside in
    tabulate_entry n 0 f t below ∙ rw zero-add (zeros t below) ∙ sym (get_or-replicate n t 0 0 below))

nonzero_zero : (n : ℕ) → nonzero (replicate n 0) ≡ 0
unfolding nonzero
nonzero_zero zero = refl
nonzero_zero (suc n) = nonzero_zero n

module _ {f : List ℕ} (d : Drawable) (p : ℕ) {q : ℕ} (fine : Writable d) (s : Pointed narrow f (read_row d p) (tiles_of d) q) where
  tile_decoded : (t : ℕ) → t < d.row.count
      → ((tile narrow f (read_row d p) 1 t).mark ≡ 0)
      × ((tile narrow f (read_row d p) 1 t).pixels ≡ shown d.row.width d.row.height d.row.depth t d.pixels)
  unfolding tile read_row encoding_of
  tile_decoded t below =
      let w = tile_width d.row.width t in
      let h = tile_height d.row.width d.row.height t in
      let x = tiled fine.drawn below in
      let begins = window_begins s t below w h d.row.depth 1 in
      let back =
      tile_read_back w h d.row.depth _ begins.0 (tiled_width x).1 (tiled_height x).1 fine.drawn.range.deep.1 (shown_length x) in
      let same =
      begins.1 ∙ ap (λ (l : List ℕ). tile_of (l ++ begins.0) w h d.row.depth 1) (tile_entry d t below) ∙ back in
      (ap (λ x. x.mark) same, ap (λ x. x.pixels) same)

  marks_zero : marks_of narrow f (read_row d p) 1 ≡ replicate d.row.count 0
  unfolding marks_of read_row
  marks_zero = tabulate_zero d.row.count _ (λ t below. (tile_decoded t below).0)

  pixels_same : pixels_of (λ t. (tile narrow f (read_row d p) 1 t).pixels) d.row.width d.row.height d.row.depth
      ≡ d.pixels
  pixels_same =
      pixels_of_tiles fine.drawn (λ t. (tile narrow f (read_row d p) 1 t).pixels)
      (λ t below. (tile_decoded t (rw fine.drawn.range.count below)).1)

  pub row_decoding_lem : row_decoding narrow f (read_row d p) 1
      ≡ record { answer = record { number = 0; place = 0; marked = 0 }; pixels = d.pixels; marks = replicate d.row.count 0 }
  unfolding row_decoding read_row
  row_decoding_lem = rw (marks_zero, nonzero_zero d.row.count, pixels_same)
