-- The lines that a tile takes of its drawable's pixels are what the pixels show of the tile (`lines_shown`, `lines_put`): byte by
-- byte, byte b of line j (`lines_entry`) is a byte of the tile's pixel in line j. They fit where the tile's pixels fit (`tiled_fit`,
-- `lines_fit`), and the numbers on the way there are small (`tiled_small`, `lines_size`).
-- Assumes nothing.
use Prim.Native.Nat.{ℕ, zero, suc, ◌+◌, ◌*◌, ◌/◌, ◌%◌, ◌≤◌, ◌<◌}
use mathlib.Core.Path.{◌≡◌, sym, ap, ◌∙◌}
use mathlib.Core.List.{List}
use native.Mathlib.Omega.{arith}
use native.Mathlib.Nat.{mod-lt, zero-add}
use lib.ListN.{length, get_or, length-append, get_or-append}
use lib.Seq.{sets, ext_get_or, get_or-take, get_or-drop, get_or-append-add}
use Rattle.xcf_numbers.specs.Limit.{tile_side, stream_limit, tile_size}
use Rattle.xcf_store.specs.Word.{part}
use Rattle.xcf_store.proofs.Parts.{part_length}
use Rattle.xcf_table.specs.declared.Row.{Row}
use Rattle.xcf_grid.specs.Grid.{tiles_along, tile_width, tile_height}
use Rattle.xcf_laws.proofs.Products.{small}
use Rattle.xcf_store.specs.Put.{Put}
use Rattle.xcf_grid.specs.Pixels.{place_of, shown}
use Rattle.xcf_grid.specs.Parts.{frame_of, Placeable, lines, LinesFit}
use Rattle.xcf_grid.proofs.Grid.{tile_width_lem, tile_height_lem}
use Rattle.xcf_grid.proofs.Places.{place_below}
use Rattle.xcf_grid.proofs.PixelBytes.{byte_pixel, byte_high}
use Rattle.xcf_grid.proofs.Tabulated.{tabulate_length, tabulate_entry}
use Rattle.xcf_grid.proofs.PutTile.{tile_framed}
use Rattle.xcf_grid.proofs.PutRoom.{Small, frame_small, frame_room}
use Rattle.xcf_grid.specs.Drawn.{Tiled}

-- the first of some lines lies in the pixels, and so do the others
module _ (pixels : List ℕ) (stride line : ℕ) where
  pub lines_length : (from n : ℕ) → from + stride * n + line ≤ length pixels + stride
      → length (lines pixels from stride line n) ≡ line * n
  unfolding lines
  lines_length from zero h = omega arith
  lines_length from (suc n) h =
      rw (length-append, part_length pixels from line (omega (arith, h)), lines_length (from + stride) n (omega (arith, h))) (omega arith)

  pub lines_entry : (from n : ℕ) → from + stride * n + line ≤ length pixels + stride → (j b : ℕ) → j < n → b < line
      → get_or (lines pixels from stride line n) (line * j + b) 0 ≡ get_or pixels (from + stride * j + b) 0
  unfolding lines
  lines_entry from zero h j b below within = absurd (omega (arith, below))
  lines_entry from (suc n) h zero b below within =
      let first : length (part pixels from line) ≡ line = part_length pixels from line (omega (arith, h)) in
      let place : line * zero + b ≡ b = omega arith in
      let origin : from + stride * zero + b ≡ from + b = omega arith in
      rw (place, origin)
      (get_or-append (part pixels from line) _ 0 b (omega (arith, first, within))
      ∙ get_or-take line _ b 0 within
      ∙ get_or-drop from pixels b 0)
  lines_entry from (suc n) h (suc j) b below within =
      let first : length (part pixels from line) ≡ line = part_length pixels from line (omega (arith, h)) in
      let place : line * suc j + b ≡ length (part pixels from line) + (line * j + b) = omega (arith, first) in
      let origin : from + stride * suc j + b ≡ from + stride + stride * j + b = omega arith in
      rw (place, origin)
      (get_or-append-add (part pixels from line) _ (line * j + b) 0
      ∙ lines_entry (from + stride) n (omega (arith, h)) j b (omega (arith, below)) within)

module _ {r : Row} {t : ℕ} {pixels : List ℕ} (d : Tiled r t pixels) where
  abbrev w : ℕ
  w = r.width

  abbrev depth : ℕ
  depth = r.depth

  abbrev tw : ℕ
  tw = tile_width r.width t

  abbrev th : ℕ
  th = tile_height r.width r.height t

  abbrev corner : ℕ
  corner = depth * (tile_side * (w * (t / tiles_along w) + t % tiles_along w))

  -- the sides are 1 to 64
  pub tiled_width : (1 ≤ tw) × (tw ≤ tile_side)
  tiled_width = tile_width_lem w t d.drawn.range.wide.0

  pub tiled_height : (1 ≤ th) × (th ≤ tile_side)
  tiled_height = tile_height_lem w r.height t d.drawn.range.wide.0 (rw d.drawn.range.count at d.tile)

  pub shown_length : length (shown w r.height depth t pixels) ≡ tw * th * depth
  unfolding shown
  shown_length = tabulate_length (tw * th * depth) 0 _

  shown_entry : (i : ℕ) → i < tw * th * depth → get_or (shown w r.height depth t pixels) i 0 ≡ get_or pixels (place_of w depth t i) 0
  unfolding shown
  shown_entry i below =
      tabulate_entry (tw * th * depth) 0 _ i below ∙ ap (λ n. get_or pixels (place_of w depth t n) 0) (zero-add i)

  pub tiled_size : (tw * th ≤ stream_limit) × (tw * th * depth ≤ tile_size)
  tiled_size = small tiled_width.1 tiled_height.1 d.drawn.range.deep.1

  placeable : (tile : List ℕ) → tw * th * depth ≤ length tile → Placeable r (frame_of r t) (length tile) (length pixels)
  placeable tile room = record {
    framed = tile_framed d.drawn.range.wide.0 (rw d.drawn.range.count at d.tile) room d.drawn.whole;
    wide = d.drawn.range.wide.1;
    high = d.drawn.range.high.1;
    deep = d.drawn.range.deep.1;
  }

  tiled_fit : (tile : List ℕ) → tw * th * depth ≤ length tile → LinesFit pixels corner (depth * w) (depth * tw) th tile
  tiled_fit tile room =
      let f = frame_room tile pixels (placeable tile room) in
      record { source = f.fits.target; target = omega (arith, f.fits.source); small = f.small }

  own_room : tw * th * depth ≤ length (shown w r.height depth t pixels)
  own_room = omega (arith, shown_length)

  pub tiled_small : Small r (frame_of r t)
  tiled_small = frame_small (placeable (shown w r.height depth t pixels) own_room)

  lines_shown : lines pixels corner (depth * w) (depth * tw) th ≡ shown w r.height depth t pixels
  lines_shown = ext_get_or 0 _ _ (omega (arith, size, shown_length)) (λ i below. entry i (omega (arith, below, size)))
    where
      fit : LinesFit pixels corner (depth * w) (depth * tw) th (shown w r.height depth t pixels)
      fit = tiled_fit (shown w r.height depth t pixels) own_room

      size : length (lines pixels corner (depth * w) (depth * tw) th) ≡ depth * tw * th
      size = lines_length pixels (depth * w) (depth * tw) corner th fit.source

      entry : (i : ℕ) → i < tw * th * depth
          → get_or (lines pixels corner (depth * w) (depth * tw) th) i 0 ≡ get_or (shown w r.height depth t pixels) i 0
      entry i below =
          let px : ℕ = i / depth % tw in
          let py : ℕ = i / depth / tw in
          let k : ℕ = i % depth in
          let high : py < th = byte_high tw th depth i tiled_width.0 d.drawn.range.deep.0 below in
          let within : depth * px + k < depth * tw =
          place_below depth tw px k (mod-lt i d.drawn.range.deep.0) (mod-lt (i / depth) tiled_width.0) in
          let origin : depth * tw * py + (depth * px + k) ≡ i = omega (arith, byte_pixel tw depth i) in
          let place : corner + depth * w * py + (depth * px + k) ≡ place_of w depth t i = omega arith in
          (rw (origin, place) at (lines_entry pixels (depth * w) (depth * tw) corner th fit.source py (depth * px + k) high within))
          ∙ sym (shown_entry i below)

  -- with the code's numbers: the lines fit into a whole tile, their bytes are no more than its, and taken they put the tile's pixels
  pub lines_fit : {across width height : ℕ} (tile : List ℕ) → across ≡ tiles_along w → width ≡ tw → height ≡ th → length tile ≡ tile_size
      → LinesFit pixels (depth * (tile_side * (w * (t / across) + t % across))) (depth * w) (depth * width) height tile
  lines_fit tile along wide high whole = rw (along, wide, high) (tiled_fit tile (omega (arith, whole, tiled_size.1)))

  pub lines_size : {width height : ℕ} → width ≡ tw → height ≡ th → depth * width * height ≤ tile_size
  lines_size wide high = rw (wide, high) (omega (arith, tiled_size.1))

  pub lines_put : {across width height : ℕ} (tile new : List ℕ) → across ≡ tiles_along w → width ≡ tw → height ≡ th
      → new ≡ sets tile 0 (lines pixels (depth * (tile_side * (w * (t / across) + t % across))) (depth * w) (depth * width) height)
      → Put tile 0 (shown w r.height depth t pixels) (depth * width * height) new
  lines_put tile new along wide high e = record {
    behind = rw (wide, high) (omega (arith, shown_length));
    output = e ∙ rw (along, wide, high, lines_shown);
  }
