-- What acceptance says of the rows: each has sides and a depth in range and the count of its sides, its flag is that of its name, the
-- walk over its tile pointers was taken, and it passed over structure bytes. Along the image's walk: each structure adds such rows behind such rows.
-- Assumes nothing.
use Prim.Native.Nat.{ℕ, zero, suc, ◌+◌, ◌*◌, ◌≤◌, ◌<◌}
use mathlib.Core.Path.{◌≡◌, refl}
use mathlib.Core.List.{List, [], ◌∷◌}
use mathlib.Core.Logic.{⊎_elim}
use native.Mathlib.Omega.{arith}
use lib.Dec.{eqb}
use lib.ListN.{length, length-append}
use Rattle.xcf_numbers.specs.Limit.{side_limit, depth_limit, layer_limit, channel_limit, row_size, table_rows}
use Rattle.xcf_walk.specs.Walk.{Walk, got, run, PassedOver, done, here, jump, ◌>>=◌}
use Rattle.xcf_laws.proofs.Cases.{below_or}
use Rattle.xcf_walk.proofs.Walks.{parted, got_done}
use Rattle.xcf_walk.proofs.Straight.{Straight, straight_bind, straight_here, straight_length, straight_number, straight_must, all_passed, passed_first}
use Rattle.xcf_table.specs.declared.Row.{Row}
use Rattle.xcf_table.specs.Name.{Told}
use Rattle.xcf_table.specs.Table.{row_numbers, row_in, Rows, no_rows, add_row}
use Rattle.xcf_table.proofs.Rows.{row_in_front, row_added}
use Rattle.xcf_grid.specs.Grid.{tile_count}
use Rattle.xcf_table.specs.declared.canvas.Canvas.{Canvas}
use Rattle.xcf_parse.specs.declared.drawable.Layer.{Layer}
use Rattle.xcf_parse.specs.declared.drawable.Owner.{Owner}
use Rattle.xcf_parse.specs.Image.{pointer_size}
use Rattle.xcf_parse.specs.Hierarchy.{agrees, pointer, rest, hierarchy}
use Rattle.xcf_walk.specs.Pointers.{tiles}
use Rattle.xcf_row.specs.Row.{channel_row, mask_owner, layer_row, channel_owner}
use Rattle.xcf_read.specs.Drawable.{channel_rows, mask_rows, layer_rows, canvas_channel_rows}
use Rattle.xcf_read.specs.Image.{drawables, Image, all_rows, image, structure_byte}
use Rattle.xcf_walk_laws.proofs.Ensures.{Ensures, ensures_done, ensures_weaken, ensures_both, ensures_bind, ensures_next, ensures_cond}
use Rattle.xcf_read_laws.proofs.Names.{layer_told, channel_told, ensures_layer_name, ensures_channel_name}
use Rattle.xcf_read_laws.proofs.Ranges.{Side, Depth, ensures_layer, ensures_channel, ensures_head, ensures_pointers}

-- the walk over so many tile pointers of `size` bytes was taken at their place, over bytes in S
pub record PointersRead (size : ℕ) (f : List ℕ) (S : ℕ → Type 0) (count place : ℕ) : Type 0 where
  pub end : ℕ
  pub pointers : got tt end ≡ run (tiles size count 0) f place
  pub passed : (i : ℕ) → place ≤ i → i < end → S i

pub record RowRead (size : ℕ) (f : List ℕ) (structure : ℕ → Type 0) (r : Row) : Type 0 where
  pub kind : (1 ≤ r.kind) × (r.kind ≤ 3)
  pub width : (1 ≤ r.width) × (r.width ≤ side_limit)
  pub height : (1 ≤ r.height) × (r.height ≤ side_limit)
  pub depth : (1 ≤ r.depth) × (r.depth ≤ depth_limit)
  pub count : r.count ≡ tile_count r.width r.height
  pub told : Told f r
  pub tiles : PointersRead size f structure r.count r.pointers

pub record ImageRead (f : List ℕ) (x : Image) : Type 0 where
  pub few : x.rows.count ≤ table_rows
  pub long : length x.rows.numbers ≡ row_size * x.rows.count
  pub compression : x.head.compression ≤ 1
  pub row : (k : ℕ) → k < x.rows.count → RowRead (pointer_size x.head.version) f (structure_byte f) (row_in x.rows.numbers (row_size * k))

-- rows that were read so, at most so many
record RowsRead (size : ℕ) (f : List ℕ) (S : ℕ → Type 0) (most : ℕ) (rows : Rows) : Type 0 where
  few : rows.count ≤ most
  long : length rows.numbers ≡ row_size * rows.count
  row : (k : ℕ) → k < rows.count → RowRead size f S (row_in rows.numbers (row_size * k))

straight_tiles : (size n before : ℕ) → Straight (tiles size n before)
unfolding tiles
straight_tiles size zero before = straight_bind _ straight_here λ at. straight_bind _ (straight_number size) λ p. straight_must _ _ _
straight_tiles size (suc n) before =
    straight_bind _ straight_here λ at. straight_bind _ straight_length λ end. straight_bind _ (straight_number size) λ p.
    straight_bind _ (straight_must _ _ _) λ _. straight_tiles size n p

module _ {size : ℕ} {f : List ℕ} {S : ℕ → Type 0} where
  no_rows_read : RowsRead size f S 0 no_rows
  no_rows_read = record { few = omega arith; long = refl; row = λ k h. absurd (omega arith) }

  more_rows_read : {m n : ℕ} {rows : Rows} → m ≤ n → RowsRead size f S m rows → RowsRead size f S n rows
  more_rows_read le x = record { few = omega (arith, x.few); long = x.long; row = x.row }

  row_read_added : {most : ℕ} {rows : Rows} {r : Row} → RowsRead size f S most rows → RowRead size f S r → RowsRead size f S (most + 1) (add_row rows r)
  unfolding add_row
  row_read_added {rows = rows} {r = r} x y = record {
    few = omega (arith, x.few);
    long = simp length-append (omega (arith, x.long));
    row = λ k h.
        ⊎_elim
        (λ below. rw (row_in_front rows.numbers (row_numbers r) (row_size * k) (omega (arith, x.long))) (x.row k below))
        (λ above.
        let e : row_size * k ≡ length rows.numbers = omega (arith, x.long) in
        rw (e, row_added rows.numbers r) y)
        (below_or k rows.count);
  }

  -- a drawable's row, from its numbers and its tiles
  row_read : {r : Row} → (1 ≤ r.kind) × (r.kind ≤ 3) → Side r.width → Side r.height → Depth r.depth → r.count ≡ tile_count r.width r.height
      → Told f r → PointersRead size f S (tile_count r.width r.height) r.pointers → RowRead size f S r
  row_read k w h d e n t = record { kind = k; width = w; height = h; depth = d; count = e; told = n; tiles = rw e t }

  -- what a hierarchy ends with
  ensures_tiles : (count : ℕ) → Ensures f S (PointersRead size f S count) (here >>= λ place. tiles size count 0 >>= λ _. done place)
  unfolding run PassedOver here
  ensures_tiles count = record {
    holds = λ at e s.
        let walk = tiles size count 0 in
        let t = parted walk (λ _. done at) f at e in
        rw (got_done f t.place t.rest).1 (record {
          end = t.place;
          pointers = t.first;
          passed = λ i lo hi. s i (passed_first (λ _. done at) f walk at i (all_passed f at (straight_tiles size _ 0) t.first i lo hi));
        });
  }

  ensures_hierarchy : (width height depth : ℕ) → Ensures f S (PointersRead size f S (tile_count width height)) (hierarchy size width height depth)
  unfolding hierarchy
  ensures_hierarchy width height depth =
      ensures_next (agrees width) _ λ _. ensures_next (agrees height) _ λ _. ensures_next (agrees depth) _ λ _. ensures_next (pointer size) _ λ level.
      ensures_next (rest size) _ λ _. ensures_next (jump level) _ λ _. ensures_next (agrees width) _ λ _. ensures_next (agrees height) _ λ _.
      ensures_tiles (tile_count width height)

  ensures_channel_rows : {most : ℕ} {rows : Rows} (o : Owner) → (1 ≤ o.kind) × (o.kind ≤ 3) → RowsRead size f S most rows
      → Ensures f S (RowsRead size f S (most + 1)) (channel_rows size o rows)
  unfolding channel_rows channel_row
  ensures_channel_rows o k x =
      ensures_bind _ (ensures_both (ensures_channel size o) (ensures_channel_name size o)) λ c s.
      ensures_next (jump _) _ λ _. ensures_bind _ (ensures_hierarchy _ _ 1) λ place t.
      ensures_done (row_read_added x (row_read k s.0.0 s.0.1 (omega arith) refl (channel_told f o c place s.1) t))

  ensures_mask_rows : {most : ℕ} {rows : Rows} (l : Layer) (k : ℕ) → RowsRead size f S most rows → Ensures f S (RowsRead size f S (most + 1)) (mask_rows size l k rows)
  unfolding mask_rows mask_owner
  ensures_mask_rows l k x =
      ensures_cond (eqb l.mask 0) (ensures_done (more_rows_read (omega arith) x)) (ensures_next (jump _) _ λ _. ensures_channel_rows _ (omega arith) x)

  ensures_layer_rows : {most : ℕ} {rows : Rows} (c : Canvas) → RowsRead size f S most rows → Ensures f S (RowsRead size f S (most + 2)) (layer_rows size c rows)
  unfolding layer_rows layer_row
  ensures_layer_rows {rows = rows} c x =
      ensures_bind _ (ensures_both (ensures_layer size _) (ensures_layer_name size _)) λ l s.
      ensures_next (jump _) _ λ _. ensures_bind _ (ensures_hierarchy _ _ _) λ place t.
      let row = row_read (omega arith) s.0.width s.0.height s.0.depth refl (layer_told f l place rows.count s.1) t in
      ensures_weaken (λ _. more_rows_read (omega arith)) (ensures_mask_rows l _ (row_read_added x row))

  -- drawables that each add at most so many rows
  ensures_drawables : (one : Rows → Walk Rows) (step all : ℕ) → ((n : ℕ) (rows : Rows) → RowsRead size f S n rows → Ensures f S (RowsRead size f S (n + step)) (one rows))
      → (ps : List ℕ) {most : ℕ} {rows : Rows} → most + step * length ps ≤ all → RowsRead size f S most rows → Ensures f S (RowsRead size f S all) (drawables one ps rows)
  unfolding drawables
  ensures_drawables one step all h [] le x = ensures_done (more_rows_read (omega arith) x)
  ensures_drawables one step all h (p ∷ ps) le x = ensures_next (jump p) _ λ _. ensures_bind _ (h _ _ x) λ next y. ensures_drawables one step all h ps (omega arith) y

  ensures_all_rows : (c : Canvas) → Ensures f S (RowsRead size f S table_rows) (all_rows size c)
  unfolding all_rows canvas_channel_rows channel_owner
  ensures_all_rows c =
      ensures_bind _ (ensures_pointers size layer_limit) λ layers l. ensures_bind _ (ensures_pointers size channel_limit) λ channels m.
      ensures_bind _ (ensures_drawables _ 2 96 (λ _ _. ensures_layer_rows _) layers (omega arith) no_rows_read) λ first x.
      ensures_drawables _ 1 table_rows (λ _ _. ensures_channel_rows _ (omega arith)) channels (omega arith) x

ensures_image : (f : List ℕ) → Ensures f (structure_byte f) (ImageRead f) image
unfolding image
ensures_image f =
    ensures_bind _ ensures_head λ h c. ensures_bind _ (ensures_all_rows _) λ rows y.
    ensures_done (record { few = y.few; long = y.long; compression = c; row = y.row })

pub accepted_rows : (f : List ℕ) {x : Image} {q : ℕ} → got x q ≡ run image f 0 → ImageRead f x
unfolding structure_byte
accepted_rows f e = (ensures_image f).holds 0 e (λ i p. p)
