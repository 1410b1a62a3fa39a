-- The file as the code makes it: its drawables' rows are the table's; the list of places that was measured is theirs; the file ends
-- where its last drawable does; and the image's structure and the drawables behind it, stored one after the other, are the file.
-- Assumes nothing.
use Prim.Native.Nat.{ℕ, zero, suc, ◌+◌, ◌≤◌}
use mathlib.Core.Path.{◌≡◌, refl, sym, ap, ◌∙◌}
use mathlib.Core.List.{List, [], ◌∷◌}
use native.Mathlib.Nat.{add-zero, zero-add}
use native.Mathlib.Omega.{arith}
use lib.ListN.{length, get_or, length-append, length-map}
use lib.Seq.{sets, sets-eq, length-sets, take-append_seam}
use Rattle.xcf_numbers.specs.Limit.{file_limit, table_rows, places_size}
use Rattle.xcf_table.specs.declared.Row.{Row}
use Rattle.xcf_table.specs.Table.{row_at}
use Rattle.xcf_store.specs.Put.{Put}
use Rattle.xcf_store.proofs.Stores.{put_append}
use Rattle.xcf_table.specs.declared.canvas.Canvas.{Canvas}
use Rattle.xcf_drawable.specs.Drawable.{Drawable, drawable_size}
use Rattle.xcf_body.specs.Rows.{drawables_bytes, places_from, drawables_from}
use Rattle.xcf_write.specs.File.{rows_of, image_size, file_bytes}
use Rattle.xcf_image.specs.Image.{kind_places, image_of}
use Rattle.xcf_body.specs.Parts.{end_of, Placed}
use Rattle.xcf_image.specs.Parts.{rows_from, LowPlaces}
use Rattle.xcf_drawable.proofs.DrawableLength.{drawable_length}
use Rattle.xcf_image.proofs.ImageLength.{kind_taken, image_same}
use Rattle.xcf_body.proofs.Drawables.{end_most, placed_first, placed_next}

-- every place is at most the end
pub place_most : (places : List ℕ) (ds : List Drawable) (k p i : ℕ) → Placed places k ds p → i ≤ length ds → get_or places (k + i) 0 ≤ end_of ds p
unfolding end_of
place_most places ds k p zero x h = rw (add-zero, placed_first places ds x) (end_most ds p)
place_most places [] k p (suc i) x h = absurd (omega arith)
place_most places (d ∷ ds) k p (suc i) x h =
    let e : k + suc i ≡ k + 1 + i = omega arith in
    rw e (place_most places ds (k + 1) (p + drawable_size d) i (placed_next places d ds x) (omega arith))

-- as many drawables as rows, whose rows they are
pub rows_length : (table names : List ℕ) (n k : ℕ) (pixels : List ℕ) → length (drawables_from table n k names pixels) ≡ n
unfolding drawables_from
rows_length table names zero k pixels = refl
rows_length table names (suc n) k pixels = ap suc (rows_length table names n (k + 1) _)

pub rows_are : (table names : List ℕ) (n k : ℕ) (pixels : List ℕ) → rows_of (drawables_from table n k names pixels) ≡ rows_from table n k
unfolding drawables_from rows_from
rows_are table names zero k pixels = refl
rows_are table names (suc n) k pixels = ap (λ (rs : List Row). row_at table k ∷ rs) (rows_are table names n (k + 1) _)

pub low_places : (table names pixels places : List ℕ) (n start : ℕ) → Placed places 0 (drawables_from table n 0 names pixels) start
    → end_of (drawables_from table n 0 names pixels) start ≤ file_limit → LowPlaces places n
low_places table names pixels places n start x h k l =
    let few : k ≤ length (drawables_from table n 0 names pixels) = rw rows_length (omega arith) in
    let most = place_most places (drawables_from table n 0 names pixels) 0 start k x few in
    omega (arith, rw zero-add at most)

-- the list of places as the measuring loop stores it
places_length : (ds : List Drawable) (p : ℕ) → length (places_from ds p) ≡ suc (length ds)
unfolding places_from
places_length [] p = refl
places_length (d ∷ ds) p = ap suc (places_length ds (p + drawable_size d))

pub places_long : (table names pixels old places : List ℕ) (n start : ℕ) → length old ≡ places_size
    → places ≡ sets old 0 (places_from (drawables_from table n 0 names pixels) start) → length places ≡ places_size
places_long table names pixels old places n start long e = ap length e ∙ length-sets old 0 (places_from (drawables_from table n 0 names pixels) start) ∙ long

pub places_stored : (table names pixels old places : List ℕ) (n start : ℕ) → n ≤ table_rows → length places ≡ places_size
    → places ≡ sets old 0 (places_from (drawables_from table n 0 names pixels) start) → Placed places 0 (drawables_from table n 0 names pixels) start
places_stored table names pixels old places n start few long e =
    let ds = drawables_from table n 0 names pixels in
    let same : length places ≡ length old = ap length e ∙ length-sets old 0 (places_from ds start) in
    let l : length (places_from ds start) ≤ length old = rw (places_length ds start, rows_length) (omega arith) in
    record { same = rw (e, sets-eq (places_from ds start) old 0 (omega arith)) (take-append_seam (places_from ds start) _) }

-- the image's structure as the code measures and stores it
module _ (table names pixels : List ℕ) (n : ℕ) (c : Canvas) where
  abbrev ds : List Drawable
  ds = drawables_from table n 0 names pixels

  pub start_is : image_size c ds ≡ length (image_of c (rows_from table n 0) [])
  unfolding image_size
  start_is = rw (rows_are table names n 0 pixels)

  pub image_there : (places : List ℕ) → length (image_of c (rows_from table n 0) places) ≡ image_size c ds
  image_there places = image_same c (rows_from table n 0) places ∙ sym start_is

  -- and behind it the drawables begin
  pub behind_image : (places : List ℕ) {start : ℕ} {old : List ℕ} {q : ℕ} {new : List ℕ} → start ≡ length (image_of c (rows_from table n 0) [])
      → Put old 0 (image_of c (rows_from table n 0) places) q new → q ≡ start
  behind_image places e p = omega (arith, p.behind, image_there places, start_is, e)

-- drawables end where their bytes do
bytes_end : (ds : List Drawable) (p : ℕ) → end_of ds p ≡ p + length (drawables_bytes ds p)
unfolding end_of drawables_bytes
bytes_end [] p = sym (add-zero p)
bytes_end (d ∷ ds) p = rw (length-append, drawable_length d p) (bytes_end ds (p + drawable_size d) ∙ omega arith)

module _ (c : Canvas) (ds : List Drawable) {start : ℕ} (e : start ≡ image_size c ds) where
  image_start : (places : List ℕ) → length (image_of c (rows_of ds) places) ≡ start
  unfolding image_size
  image_start places = image_same c (rows_of ds) places ∙ sym e

  -- the file's length is the end that was measured
  pub file_length_lem : length (file_bytes c ds) ≡ end_of ds start
  unfolding file_bytes
  file_length_lem = rw (← e, length-append, image_start) (sym (bytes_end ds start))

  -- the pointers, by a list of places that goes on with theirs
  kind_placed : (kind : ℕ) {places : List ℕ} → Placed places 0 ds start
      → kind_places kind (rows_of ds) (places_from ds start) ≡ kind_places kind (rows_of ds) places
  kind_placed kind {places} x =
      let few : length (rows_of ds) ≤ length (places_from ds start) = rw (length-map, places_length) (omega arith) in
      ap (kind_places kind (rows_of ds)) (sym x.same) ∙ kind_taken kind (rows_of ds) places _ few

  -- the image's structure and then the drawables are the file
  pub file_put : {rows : List Row} {old mid new places : List ℕ} {q end : ℕ} → rows_of ds ≡ rows → Placed places 0 ds start
      → Put old 0 (image_of c rows places) q mid → Put mid start (drawables_bytes ds start) end new → Put old 0 (file_bytes c ds) end new
  unfolding file_bytes
  file_put {old = old} {mid} {q = q} same x a b =
      let image : Put old 0 (image_of c (rows_of ds) (places_from ds start)) q mid = rw (kind_placed 1 x, kind_placed 3 x, same) a in
      let here : q ≡ start = image.behind ∙ zero-add _ ∙ image_start (places_from ds start) in
      rw (← e) (put_append image (rw here b))
