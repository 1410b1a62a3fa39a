-- A file as it is written is read back: its head (`reads_head`), the pointers behind it, and its drawables' rows (`image_read`).
-- And each used row's drawable stands in the file at its place (`stands_drawable`).
-- Assumes nothing.
use Prim.Native.Nat.{ℕ, ◌+◌, ◌≤◌, ◌<◌}
use mathlib.Core.Path.{◌≡◌, refl, ap, ◌∙◌}
use mathlib.Core.List.{List, [], ◌∷◌, ◌++◌, flat_map}
use mathlib.Core.Bool.{true}
use mathlib.Core.Logic.{◌⊎◌, inl, inr}
use native.Mathlib.Nat.{zero-add}
use native.Mathlib.Omega.{arith}
use borrow.Author.Tests.{le-leb, ne_eqb}
use lib.Dec.{ltb}
use lib.ListN.{length, get_or}
use lib.Seq.{take-length}
use Rattle.xcf_numbers.specs.Limit.{file_limit, side_limit, layer_limit, channel_limit}
use Rattle.xcf_numbers.specs.Kind
use Rattle.xcf_numbers.specs.Refusal
use Rattle.xcf_store.specs.Pointer.{narrow}
use Rattle.xcf_walk.specs.Fields.{word}
use Rattle.xcf_table.specs.Table.{no_rows}
use Rattle.xcf_range.proofs.Bounds.{within_bounds}
use Rattle.xcf_table.specs.declared.canvas.Canvas.{Canvas}
use Rattle.xcf_parse.specs.declared.image.Head.{Head}
use Rattle.xcf_parse.specs.Header.{same, magic, versions, tags, place_in, header}
use Rattle.xcf_table.specs.Canvas.{side_ok}
use Rattle.xcf_parse.specs.Image.{pointer_size, base_ok, base_type, precision, head}
use Rattle.xcf_read.specs.Image.{canvas_of, all_rows, image}
use Rattle.xcf_store.specs.Word.{word_bytes, words}
use Rattle.xcf_structure.specs.Structure.{property_bytes, list_bytes}
use Rattle.xcf_image.specs.Image.{image_properties, version_of, image_bytes, image_of}
use Rattle.xcf_drawable.specs.Drawable.{Drawable, drawable_bytes}
use Rattle.xcf_body.specs.Rows.{drawables_bytes, places_from, used_rows}
use Rattle.xcf_write.specs.File.{rows_of, image_size, file_bytes}
use Rattle.xcf_write.specs.Answer.{file_of}
use Rattle.xcf_store.proofs.Words.{words_length}
use Rattle.xcf_image.proofs.ImageLength.{version_old_or_new, tag_length, image_same}
use Rattle.xcf_write.proofs.FileLaws.{rows_length}
use Rattle.xcf_write.proofs.Accepted.{InputAccepted}
use Rattle.xcf_round_trip.proofs.Parts.{Stands, Gives, Rises, places_of, add_all}
use Rattle.xcf_round_trip.proofs.Stands.{stands_front, stands_behind}
use Rattle.xcf_round_trip.proofs.Steps.{ReadsTo, reads_gives, gives_reads, then, then_here, ends, ends_as, reads_bytes, reads_must}
use Rattle.xcf_round_trip.proofs.WordsRead.{words_rest, reads_number}
use Rattle.xcf_round_trip.proofs.PropertiesRead.{reads_image_properties}
use Rattle.xcf_round_trip.proofs.StructureRead.{reads_side}
use Rattle.xcf_round_trip.proofs.DrawablesFrom.{drawable_of, used_drawables, drawable_at, drawables_readable, places_few, drawables_ordered}
use Rattle.xcf_round_trip.proofs.PointersRead.{closed, reads_pointers, places_rise}
use Rattle.xcf_round_trip.proofs.RowsRead.{place_at, place_some, drawable_stands, reads_rows}

-- the versions that are written
abbrev Known : ℕ → Type 0
Known v = (v ≡ 0) ⊎ (v ≡ 2)

tag_known : (v : ℕ) → Known v → (place_in tags (get_or tags v []) ≡ v) × (ltb v 5 ≡ true) × (get_or versions v 0 ≡ v)
unfolding same place_in
tag_known v (inl e) = rw e (refl, refl, refl)
tag_known v (inr e) = rw e (refl, refl, refl)

-- they have no precision word, and pointers of four bytes
reads_no_precision : {f : List ℕ} {p : ℕ} (v : ℕ) → Known v → ReadsTo (precision v) f p tt p
unfolding precision
reads_no_precision v (inl e) = rw e ends
reads_no_precision v (inr e) = rw e ends

pub size_known : (v : ℕ) → Known v → pointer_size v ≡ narrow
size_known v (inl e) = rw e
size_known v (inr e) = rw e

base_ok_lem : (v base : ℕ) → Known v → base ≤ 1 → base_ok v base ≡ true
unfolding base_ok
base_ok_lem v base (inl e) h = rw (e, le-leb base 2 (omega arith), ne_eqb base 2 (omega arith))
base_ok_lem v base (inr e) h = rw (e, le-leb base 2 (omega arith))

-- a known tag behind the magic bytes, and the base type
reads_header : {f : List ℕ} (v : ℕ) → Known v → Stands f 0 magic → Stands f 9 (get_or tags v []) → ReadsTo header f 0 v 14
unfolding same header
reads_header v w s t =
    let known = tag_known v w in
    let tag = rw (tag_length v w) at (reads_bytes (get_or tags v []) t) in
    then_here _ (then _ (reads_bytes magic s) (then _ (reads_must _ Refusal.not_xcf 0 refl)
    (then_here _ (then _ tag (then _ (reads_must _ Refusal.bad_version 9 (rw (known.0, known.1))) (ends_as (ap (λ k. get_or versions k 0) known.0 ∙ known.2)))))))

reads_base : {f : List ℕ} {p : ℕ} (v base : ℕ) → Known v → base ≤ 1 → Stands f p (words (base ∷ []))
    → ReadsTo (base_type v) f p base (p + 4)
unfolding word base_type
reads_base v base w h s =
    then_here _ (then _ (reads_number base [] s (omega arith)) (then _ (reads_must _ Refusal.bad_base _ (base_ok_lem v base w h)) ends))

-- an image's head
abbrev pub head_of : Canvas → ℕ → Head
head_of c v = record { version = v; width = c.width; height = c.height; base = c.base; compression = 1 }

-- the parts of the image's structure, each behind the one before
abbrev sides_bytes : Canvas → List ℕ
sides_bytes c = words (c.width ∷ c.height ∷ c.base ∷ [])

module _ {f : List ℕ} (c : Canvas) (v : ℕ) (layers channels : List ℕ) (w : Known v)
    (s : Stands f 0 (image_bytes c v layers channels)) where
  magic_stands : Stands f 0 magic
  unfolding image_bytes
  magic_stands = stands_front magic _ s

  behind_magic : Stands f 9
      (get_or tags v [] ++ (sides_bytes c ++ (list_bytes image_properties ++ (closed layers ++ closed channels))))
  unfolding image_bytes
  behind_magic = stands_behind magic _ s

  behind_tag : Stands f 14 (sides_bytes c ++ (list_bytes image_properties ++ (closed layers ++ closed channels)))
  behind_tag = rw (tag_length v w) at (stands_behind (get_or tags v []) _ behind_magic)

  behind_sides : Stands f 26 (list_bytes image_properties ++ (closed layers ++ closed channels))
  behind_sides = rw words_length at (stands_behind (sides_bytes c) _ behind_tag)

  behind_list : Stands f 43 (closed layers ++ closed channels)
  unfolding word_bytes flat_map property_bytes image_properties
  behind_list = stands_behind (list_bytes image_properties) _ behind_sides

  reads_head : side_ok c.width ≡ true → side_ok c.height ≡ true → c.base ≤ 1 → ReadsTo head f 0 (head_of c v) 43
  unfolding head side_ok
  reads_head wide high base =
      let sides = stands_front (sides_bytes c) _ behind_tag in
      let lower = words_rest _ _ sides in
      then _ (reads_header v w magic_stands (stands_front _ _ behind_magic))
      (then _ (reads_side _ _ (within_bounds 1 side_limit c.width wide) sides)
      (then _ (reads_side _ _ (within_bounds 1 side_limit c.height high) lower)
      (then _ (reads_base v c.base w base (words_rest _ _ lower))
      (then _ (reads_no_precision v w)
      (rw (ne_eqb c.base 2 (λ z. absurd (omega arith)))
      (then _ (reads_image_properties _ (stands_front _ _ behind_sides)) ends))))))

-- the file of a table's used rows, and where row k's drawable stands in it
abbrev pub row_place : Canvas → List ℕ → List ℕ → List ℕ → ℕ → ℕ
row_place c table names pixels k = let ds = used_drawables table names pixels in place_at ds (image_size c ds) k

module _ (c : Canvas) (table names pixels : List ℕ) where
  abbrev ds : List Drawable
  ds = used_drawables table names pixels

  abbrev start : ℕ
  start = image_size c ds

  abbrev file : List ℕ
  file = file_of c table names pixels

  abbrev image_at : ℕ → List ℕ
  image_at p = image_of c (rows_of ds) (places_from ds p)

  abbrev version : ℕ
  version = version_of (rows_of ds)

  -- its image's length does not depend on where the drawables begin
  image_at_lem : (p : ℕ) → length (image_at p) ≡ start
  unfolding image_size
  image_at_lem p = image_same c (rows_of ds) (places_from ds p)

  image_some : 0 < start
  unfolding image_bytes image_size
  image_some = omega arith

  file_stands : Stands file 0 file
  file_stands = record { inside = omega arith; same = take-length file }

  image_stands : Stands file 0 (image_at start)
  unfolding file_of file_bytes
  image_stands = stands_front _ _ file_stands

  drawables_stand : Stands file start (drawables_bytes ds start)
  unfolding file_of file_bytes
  drawables_stand = rw (zero-add, image_at_lem start) at (stands_behind (image_at start) _ file_stands)

  pub row_place_some : (k : ℕ) → 0 < row_place c table names pixels k
  row_place_some k = place_some ds start k image_some

  pub stands_drawable : (k : ℕ) → k < used_rows table
      → let p = row_place c table names pixels k in Stands file p (drawable_bytes (drawable_of table names pixels k) p)
  stands_drawable k h =
      let d = drawable_of table names pixels k in
      rw (drawable_at table names d (used_rows table) k pixels h) at
      (drawable_stands ds start d k drawables_stand (rw rows_length h))

  -- what is lent to the writer and accepted, in a file within the limit
  module _ (low : (i : ℕ) → get_or table i 0 < 4294967296) (a : InputAccepted c table names (length pixels)) (small : length file ≤ file_limit) where
    known : Known version
    known = version_old_or_new (rows_of ds)

    all_rows_read : (size : ℕ) → size ≡ narrow → Gives (all_rows size c) file 43 (add_all no_rows ds start)
    unfolding all_rows
    all_rows_read size e =
        let layers = places_of Kind.layer ds start in
        let few = places_few c table names pixels low a start in
        let behind = behind_list c version layers (places_of Kind.channel ds start) known image_stands in
        let rise : (kind : ℕ) → Rises 0 (places_of kind ds start) (length file) =
        λ kind. places_rise kind ds 0 start (length file) image_some drawables_stand.inside in
        let order = drawables_ordered c table names pixels low a in
        let readable = drawables_readable c table names pixels low a in
        let rows = reads_rows small c start no_rows order readable image_some drawables_stand in
        let first = rows.first.at _ in
        rw e
        (reads_gives
        (then _ (reads_pointers layer_limit 0 (length file) layers (omega arith) (rise 1) few.0 (stands_front _ _ behind))
        (then _ (reads_pointers channel_limit 0 (length file) _ (omega arith) (rise 3) few.1 (stands_behind (closed layers) _ behind))
        (then _ (gives_reads first) (gives_reads (rows.last.at first.end))))))

    pub image_read : Gives image file 0 (record { head = head_of c version; rows = add_all no_rows ds start })
    unfolding image canvas_of
    image_read =
        reads_gives
        (then _ (reads_head c version _ _ known image_stands a.wide a.high a.base)
        (then _ (gives_reads (all_rows_read (pointer_size version) (size_known version known))) ends))
