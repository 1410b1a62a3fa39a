-- The pixels while the tiles are put in: `Shown` says that the bytes of the first t tiles are right. It holds at the start
-- (`shown_none`), a tile put at its place keeps it and adds that tile (`shown_next`), and with all tiles in, the pixels are those
-- of the definition (`shown_all`). By the byte: a line put in changes the bytes of one tile's line and no others.
-- Assumes nothing.
use Prim.Native.Nat.{ℕ, ◌+◌, ◌*◌, ◌/◌, ◌%◌, ◌≤◌, ◌<◌}
use mathlib.Core.Path.{◌≡◌, sym, ap, ◌∙◌}
use mathlib.Core.Logic.{⊎_elim}
use mathlib.Core.List.{List}
use native.Mathlib.Omega.{arith}
use native.Mathlib.Nat.{mod-lt, eq-or-lt_of_le}
use lib.ListN.{length, get_or, take, length-take}
use lib.Seq.{ext_get_or, get_or-take}
use Rattle.xcf_table.specs.declared.Row.{Row}
use Rattle.xcf_grid.specs.Grid.{tile_width, tile_height, tile_count}
use Rattle.xcf_grid.specs.Pixels.{tile_at, pixel_in, byte_of, byte_in, pixels_of}
use Rattle.xcf_grid.specs.Parts.{frame_of, put_frame}
use Rattle.xcf_grid.proofs.Grid.{tile_below}
use Rattle.xcf_grid.proofs.PixelBytes.{byte_in_tile, byte_pixel, byte_high, pixels_of-length, pixels_of-entry}
use Rattle.xcf_grid.proofs.PutTile.{Put, put_tile-length, put_tile-own, put_tile-other}

pub record Shown (tiles : ℕ → List ℕ) (r : Row) (pixels : List ℕ) (t : ℕ) : Type 0 where
  pub size : length pixels ≡ r.width * r.height * r.depth
  pub bytes : (x y k : ℕ) → x < r.width → y < r.height → k < r.depth → tile_at r.width x y < t
      → get_or pixels (byte_of r.width r.depth x y k) 0 ≡ byte_in tiles r.width r.depth x y k

module _ {tiles : ℕ → List ℕ} {r : Row} {pixels : List ℕ} where
  pub shown_none : length pixels ≡ r.width * r.height * r.depth → Shown tiles r pixels 0
  shown_none size = record { size = size; bytes = λ x y k _ _ _ below. absurd (omega (arith, below)) }

  pub shown_next : {t : ℕ} (tile : List ℕ) → Shown tiles r pixels t → 1 ≤ r.width → t < tile_count r.width r.height
      → length (tiles t) ≡ tile_width r.width t * tile_height r.width r.height t * r.depth
      → take (length (tiles t)) tile ≡ tiles t
      → Shown tiles r (put_frame pixels r.width r.depth (frame_of r t) tile) (t + 1)
  shown_next {t} tile s some below size same =
      record { size = put_tile-length put ∙ s.size; bytes = bytes_next }
    where
      put : Put r pixels t tile
      put = record {
        some = some;
        below = below;
        source = omega (arith, size, length-take (length (tiles t)) tile, ap length same);
        target = s.size;
      }

      from_tile : (x y k : ℕ) → x < r.width → y < r.height → k < r.depth → tile_at r.width x y ≡ t
          → get_or tile (r.depth * pixel_in r.width x y + k) 0 ≡ byte_in tiles r.width r.depth x y k
      from_tile x y k wide high deep own =
          let i : ℕ = r.depth * pixel_in r.width x y + k in
          let inside : i < length (tiles t) = rw size (rw own at (byte_in_tile r.width r.height r.depth x y k wide high deep)) in
          sym (get_or-take (length (tiles t)) tile i 0 inside) ∙ ap (λ (l : List ℕ). get_or l i 0) (same ∙ ap tiles (sym own))

      bytes_next : (x y k : ℕ) → x < r.width → y < r.height → k < r.depth → tile_at r.width x y < t + 1
          → get_or (put_frame pixels r.width r.depth (frame_of r t) tile) (byte_of r.width r.depth x y k) 0
          ≡ byte_in tiles r.width r.depth x y k
      bytes_next x y k wide high deep among =
          ⊎_elim
          (λ own. put_tile-own put x y k wide high deep own ∙ from_tile x y k wide high deep own)
          (λ less. put_tile-other put x y k wide deep (λ e. omega (arith, less, e)) ∙ s.bytes x y k wide high deep less)
          (eq-or-lt_of_le (let e : tile_at r.width x y ≤ t = omega (arith, among) in e))

  pub shown_all : Shown tiles r pixels (tile_count r.width r.height) → 1 ≤ r.width → 1 ≤ r.depth
      → pixels ≡ pixels_of tiles r.width r.height r.depth
  shown_all s wide deep = ext_get_or 0 pixels _ (s.size ∙ sym (pixels_of-length tiles r.width r.height r.depth)) entry
    where
      entry : (i : ℕ) → i < length pixels → get_or pixels i 0 ≡ get_or (pixels_of tiles r.width r.height r.depth) i 0
      entry i below =
          let inside : i < r.width * r.height * r.depth = rw s.size at below in
          let x : ℕ = i / r.depth % r.width in
          let y : ℕ = i / r.depth / r.width in
          let right : x < r.width = mod-lt (i / r.depth) wide in
          let high : y < r.height = byte_high r.width r.height r.depth i wide deep inside in
          (rw (byte_pixel r.width r.depth i) at
          (s.bytes x y (i % r.depth) right high (mod-lt i deep) (tile_below r.width r.height x y right high)))
          ∙ sym (pixels_of-entry tiles r.width r.height r.depth i inside)
