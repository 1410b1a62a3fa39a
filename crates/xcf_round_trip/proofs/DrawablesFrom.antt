-- The drawables of a table's used rows: the k-th is row k's (`drawable_at`), each can be written and read back
-- (`drawables_readable`), they come in the order that the reader wants (`drawables_ordered`), and as few are layers and channels
-- as it takes (`places_few`).
-- Assumes nothing.
use Prim.Native.Nat.{ℕ, zero, suc, ◌+◌, ◌*◌, ◌≤◌, ◌<◌}
use mathlib.Core.Path.{◌≡◌, refl, sym, ◌∙◌}
use mathlib.Core.List.{List, [], ◌∷◌}
use mathlib.Core.Bool.{Bool, true, false}
use mathlib.Core.Logic.{◌⊎◌, inl, inr, ⊎_elim}
use native.Mathlib.Nat.{add-zero, zero-add, add_assoc}
use native.Mathlib.Omega.{arith}
use borrow.Author.Tests.{eqb-true, eqb-false, ne_eqb, lt-ltb, lt-leb}
use lib.Dec.{eqb}
use lib.ListN.{length, get_or, drop, length-append}
use lib.Seq.{drop-drop}
use Rattle.std.proofs.lemmas.Bool.{cond_both}
use Rattle.xcf_numbers.specs.Limit.{layer_limit, channel_limit, row_size, table_rows, table_size}
use Rattle.xcf_numbers.specs.Kind
use Rattle.xcf_laws.proofs.Cases.{below_or}
use Rattle.xcf_store.specs.Word.{part}
use Rattle.xcf_store.proofs.Parts.{part_length}
use Rattle.xcf_table.specs.declared.Row.{Row}
use Rattle.xcf_table.specs.Table.{row_at}
use Rattle.xcf_table.proofs.Rows.{row_there}
use Rattle.xcf_table.specs.declared.canvas.Canvas.{Canvas}
use Rattle.xcf_usable.specs.Usable.{is_unused, count_before, masked, usable}
use Rattle.xcf_usable.proofs.AllUsable.{all_usable}
use Rattle.xcf_usable.proofs.RowFacts.{LayerFacts, ChannelFacts, MaskFacts, CanvasFacts, kind_listed, layer_facts, channel_facts, canvas_facts}
use Rattle.xcf_usable.proofs.Counts.{before_next}
use Rattle.xcf_usable.proofs.Order.{first_not_mask, mask_behind, after_channel, few_layers, few_channels}
use Rattle.xcf_drawable.specs.Drawable.{Drawable}
use Rattle.xcf_write.specs.File.{rows_of}
use Rattle.xcf_body.specs.Rows.{used_from, pixels_size, row_drawable, drawables_from, used_rows}
use Rattle.xcf_grid.specs.Drawn.{pixel_size}
use Rattle.xcf_image.specs.Image.{kind_places}
use Rattle.xcf_image.specs.Parts.{rows_from}
use Rattle.xcf_image.proofs.ImageLength.{kind_length}
use Rattle.xcf_image.proofs.RowsLoop.{one_when}
use Rattle.xcf_body.proofs.Drawables.{row_writable}
use Rattle.xcf_write.proofs.RowsUsed.{used_most, used_kind, used_facts, ready}
use Rattle.xcf_write.proofs.FileLaws.{rows_length, rows_are}
use Rattle.xcf_write.proofs.Accepted.{InputAccepted}
use Rattle.xcf_round_trip.proofs.Parts.{places_of}
use Rattle.xcf_round_trip.proofs.DrawableRead.{Readable}

-- row k's drawable where its pixels begin at a place, as it is, and those of the used rows
abbrev row_drawn : List ℕ → List ℕ → List ℕ → ℕ → ℕ → Drawable
row_drawn table names pixels k at = row_drawable table names k (part pixels at (pixel_size (row_at table k)))

abbrev pub drawable_of : List ℕ → List ℕ → List ℕ → ℕ → Drawable
drawable_of table names pixels k = row_drawn table names pixels k (pixels_size table k 0)

abbrev pub used_drawables : List ℕ → List ℕ → List ℕ → List Drawable
used_drawables table names pixels = drawables_from table (used_rows table) 0 names pixels

module _ (table names : List ℕ) (other : Drawable) where
  -- the i-th of n drawables from row k on
  drawable_behind : (n k i : ℕ) (pixels : List ℕ) → i < n
      → get_or (drawables_from table n k names pixels) i other ≡ row_drawn table names pixels (k + i) (pixels_size table i k)
  unfolding drawables_from pixels_size
  drawable_behind zero k i pixels h = absurd (omega arith)
  drawable_behind (suc n) k zero pixels h = rw add-zero
  drawable_behind (suc n) k (suc i) pixels h =
      let next : k + 1 + i ≡ k + suc i = omega arith in
      drawable_behind n (k + 1) i (drop (pixel_size (row_at table k)) pixels) (omega arith) ∙ rw (drop-drop, next)

  pub drawable_at : (n k : ℕ) (pixels : List ℕ) → k < n
      → get_or (drawables_from table n 0 names pixels) k other ≡ drawable_of table names pixels k
  drawable_at n k pixels h = rw zero-add at (drawable_behind n 0 k pixels h)

-- the row behind the used ones has no kind, a row that has one is in the table, and a used row's pixels are among those of all
module _ (table : List ℕ) where
  used_ends : (n k : ℕ) → used_from table n k < n → (row_at table (k + used_from table n k)).kind ≡ Kind.unused
  unfolding used_from
  used_ends zero k = λ h. absurd (omega arith)
  used_ends (suc n) k =
      cond_both (is_unused (row_at table k)) 0 (suc (used_from table n (k + 1))) (λ m. m < suc n → (row_at table (k + m)).kind ≡ Kind.unused)
      (λ e _. rw add-zero (eqb-true _ _ e))
      (λ _ h.
      let next : k + suc (used_from table n (k + 1)) ≡ k + 1 + used_from table n (k + 1) = omega arith in
      rw next (used_ends n (k + 1) (omega arith)))

  pixels_within : (n k i : ℕ) → i < n → pixels_size table i k + pixel_size (row_at table (k + i)) ≤ pixels_size table n k
  unfolding pixels_size
  pixels_within zero k i h = absurd (omega arith)
  pixels_within (suc n) k zero h = rw add-zero (omega arith)
  pixels_within (suc n) k (suc i) h =
      let next : k + suc i ≡ k + 1 + i = omega arith in
      rw next (omega (arith, pixels_within n (k + 1) i (omega arith)))

  module _ (size : length table ≡ table_size) where
    row_behind : (k : ℕ) → table_rows ≤ k → (row_at table k).kind ≡ Kind.unused
    unfolding row_at
    row_behind k h = rw (lt-leb (row_size * (k + 1)) (length table) (omega arith))

    row_inside : (k : ℕ) → ((row_at table k).kind ≡ Kind.unused → ⊥) → k < table_rows
    row_inside k h = ⊎_elim (λ below. below) (λ above. absurd (h (row_behind k above))) (below_or k table_rows)

    pub used_end : (row_at table (used_rows table)).kind ≡ Kind.unused
    used_end = ⊎_elim (λ below. rw zero-add at (used_ends table_rows 0 below)) (row_behind _) (below_or (used_rows table) table_rows)

-- drawables that are all readable: the first is, and the rest are
pub record AllReadable (ds : List Drawable) : Type 0 where
  pub each : (other : Drawable) (k : ℕ) → k < length ds → Readable (get_or ds k other)

module _ {d : Drawable} {ds : List Drawable} (all : AllReadable (d ∷ ds)) where
  pub first_readable : Readable d
  first_readable = all.each d 0 (omega arith)

  pub rest_readable : AllReadable ds
  rest_readable = record { each = λ other k h. all.each other (suc k) (omega arith) }

-- the drawables from row k on: layers, each with its mask behind it if it has one, then channels
pub data Channels (c : Canvas) : ℕ → List Drawable → Type 0 where
  none : {k : ℕ} → Channels c k []
  channel : {k : ℕ} {d : Drawable} {ds : List Drawable}
      → CanvasFacts c k d.row → ChannelFacts d.row → Channels c (k + 1) ds → Channels c k (d ∷ ds)

pub data Ordered (c : Canvas) : ℕ → List Drawable → Type 0 where
  channels : {k : ℕ} {ds : List Drawable} → Channels c k ds → Ordered c k ds
  layer : {k : ℕ} {d : Drawable} {ds : List Drawable}
      → LayerFacts c k d.row d.has_mask → d.has_mask ≡ false → Ordered c (k + 1) ds → Ordered c k (d ∷ ds)
  layer_and_mask : {k : ℕ} {d m : Drawable} {ds : List Drawable} → LayerFacts c k d.row d.has_mask → d.has_mask ≡ true
      → MaskFacts (k + 1) d.row m.row → ChannelFacts m.row → Ordered c (k + 1 + 1) ds → Ordered c k (d ∷ m ∷ ds)

-- a row has a mask where the next row is one
masked_is : (table : List ℕ) (k : ℕ) → k < table_rows → masked table k ≡ eqb (row_at table (k + 1)).kind Kind.mask
unfolding masked
masked_is table k h = rw (lt-ltb _ _ h)

layer_or_channel : (n : ℕ) → n ≤ 3 → (n ≡ 0 → ⊥) → (n ≡ 2 → ⊥) → (n ≡ 1) ⊎ (n ≡ 3)
layer_or_channel n h a b = go (eqb n 1) refl
  where
    go : (t : Bool) → eqb n 1 ≡ t → (n ≡ 1) ⊎ (n ≡ 3)
    go true e = inl (eqb-true _ _ e)
    go false e = inr (omega (arith, eqb-false n 1 e))

-- as many pointers of a kind as rows of it
abbrev of_kind : ℕ → Row → Bool
of_kind kind r = eqb r.kind kind

kinds_from : (table : List ℕ) (kind n k : ℕ)
    → count_before (of_kind kind) table k + length (kind_places kind (rows_from table n k) []) ≡ count_before (of_kind kind) table (k + n)
unfolding kind_places rows_from
kinds_from table kind zero k = simp add-zero
kinds_from table kind (suc n) k =
    let next : k + suc n ≡ k + 1 + n = omega arith in
    rw (next, length-append, one_when, ← add_assoc, ← before_next (of_kind kind) table k) (kinds_from table kind n (k + 1))

places_counted : (table names : List ℕ) (kind n p : ℕ) (pixels : List ℕ)
    → length (places_of kind (drawables_from table n 0 names pixels) p) ≡ count_before (of_kind kind) table n
unfolding count_before
places_counted table names kind n p pixels =
    kind_length kind (rows_of (drawables_from table n 0 names pixels)) _
    ∙ rw (rows_are table names n 0 pixels) (simp zero-add at (kinds_from table kind n 0))

module _ (c : Canvas) (table names pixels : List ℕ) (low : (i : ℕ) → get_or table i 0 < 4294967296)
    (a : InputAccepted c table names (length pixels)) where
  abbrev kind : ℕ → ℕ
  kind k = (row_at table k).kind

  all : (k : ℕ) → k < table_rows → usable c names table k ≡ true
  all = all_usable c names table a.usable

  in_table : {k : ℕ} → k < used_rows table → k < table_rows
  in_table h = omega (arith, used_most table)

  used_usable : {k : ℕ} → k < used_rows table → usable c names table k ≡ true
  used_usable {k} h = all k (in_table h)

  -- each is readable
  pub drawable_readable : (k : ℕ) → k < used_rows table → Readable (drawable_of table names pixels k)
  drawable_readable k h =
      let rows = ready c table names pixels a.usable a.whole in
      let there = row_there table k (omega (arith, in_table h, a.size)) in
      let within = rw zero-add at (pixels_within table (used_rows table) 0 k h) in
      record {
        writable =
            row_writable (record {
              drawn = record {
                range = rows.range k h;
                whole = part_length pixels (pixels_size table k 0) (pixel_size (row_at table k)) (omega (arith, within, a.whole));
              };
              named = rows.named k h;
              short = rows.short k h;
            });
        listed = record {
          opaque = (used_facts c names table a.usable k h).opaque;
          mode = rw there (low _);
          dx = rw there (low _);
          dy = rw there (low _);
        };
        told = (used_facts c names table a.usable k h).told;
      }

  pub drawables_readable : AllReadable (used_drawables table names pixels)
  drawables_readable = record {
    each = λ other k h.
        let used : k < used_rows table = rw rows_length at h in
        rw (drawable_at table names other (used_rows table) k pixels used) (drawable_readable k used);
  }

  pub places_few : (p : ℕ)
      → (length (places_of Kind.layer (used_drawables table names pixels) p) ≤ layer_limit)
      × (length (places_of Kind.channel (used_drawables table names pixels) p) ≤ channel_limit)
  places_few p = (
    rw (places_counted table names 1 (used_rows table) p pixels) (few_layers c names table all _ (used_most table)),
    rw (places_counted table names 3 (used_rows table) p pixels) (few_channels c names table all _ (used_most table)),
  )

  -- a mask behind its layer, and what is not a layer
  mask_there : (k : ℕ) → kind (k + 1) ≡ 2 → MaskFacts (k + 1) (row_at table k) (row_at table (k + 1))
  mask_there k e =
      mask_behind c names table all k (row_inside table a.size (k + 1) (λ z. absurd (omega arith))) e

  numbers : {k : ℕ} → k < used_rows table → (kind k ≡ 1 → ⊥) → ChannelFacts (row_at table k)
  numbers {k} h e = channel_facts c names table k (used_usable h) (used_kind table k h) e

  layer_at_lem : {k : ℕ} → k < used_rows table → kind k ≡ 1 → LayerFacts c k (row_at table k) (masked table k)
  layer_at_lem {k} h e = layer_facts c names table k (used_usable h) e

  channel_next : (k : ℕ) → k + 1 < used_rows table → kind k ≡ 3 → kind (k + 1) ≡ 3
  channel_next k h e =
      ⊎_elim (λ z. absurd (used_kind table (k + 1) h z)) (λ is. is) (after_channel c names table all k (in_table h) e)

  -- whatever their pixels
  channels_from : (n k : ℕ) (ps : List ℕ) → k + n ≡ used_rows table → (0 < n → kind k ≡ 3)
      → Channels c k (drawables_from table n k names ps)
  unfolding drawables_from
  channels_from zero k ps e h = none
  channels_from (suc n) k ps e h =
      let is : kind k ≡ 3 = h (omega arith) in
      let used : k < used_rows table = omega arith in
      channel
      (canvas_facts c names table k (used_usable used) is)
      (numbers used (λ z. absurd (omega arith)))
      (channels_from n (k + 1) _ (omega arith) (λ some. channel_next k (omega arith) is))

  -- a row that has no mask, and a layer with its mask
  abbrev OrderedFrom : ℕ → ℕ → List ℕ → Type 0
  OrderedFrom n k ps = (kind k ≡ 2 → ⊥) → Ordered c k (drawables_from table n k names ps)

  abbrev behind : ℕ → List ℕ → List ℕ
  behind k ps = drop (pixel_size (row_at table k)) ps

  ordered_one : (n k : ℕ) (ps : List ℕ) → k + suc n ≡ used_rows table → masked table k ≡ false
      → OrderedFrom n (k + 1) (behind k ps) → OrderedFrom (suc n) k ps
  unfolding drawables_from
  ordered_one n k ps e m rest h =
      let used : k < used_rows table = omega arith in
      ⊎_elim
      (λ is. layer (layer_at_lem used is) m (rest (eqb-false _ _ (sym (masked_is table k (in_table used)) ∙ m))))
      (λ is. channels (channels_from (suc n) k ps e (λ _. is)))
      (layer_or_channel (kind k) (kind_listed c names table k (used_usable used)) (used_kind table k used) h)

  ordered_two : (n k : ℕ) (ps : List ℕ) → k + suc (suc n) ≡ used_rows table → masked table k ≡ true
      → OrderedFrom n (k + 1 + 1) (behind (k + 1) (behind k ps)) → OrderedFrom (suc (suc n)) k ps
  unfolding drawables_from
  ordered_two n k ps e m rest h =
      let used : k < used_rows table = omega arith in
      let is : kind (k + 1) ≡ 2 = eqb-true _ _ (sym (masked_is table k (in_table used)) ∙ m) in
      let mask = mask_there k is in
      layer_and_mask (layer_at_lem used mask.layer) m mask (numbers (omega arith) (λ z. absurd (omega arith)))
      (rest (λ z. absurd (omega (arith, (mask_there (k + 1) z).layer))))

  ordered_from : (n k : ℕ) (ps : List ℕ) → k + n ≡ used_rows table → OrderedFrom n k ps
  unfolding drawables_from
  ordered_from zero k ps e h = channels none
  ordered_from (suc zero) k ps e h =
      let end : kind (k + 1) ≡ 0 = rw e (used_end table a.size) in
      let alone = masked_is table k (in_table (omega arith)) ∙ ne_eqb (kind (k + 1)) 2 (λ z. absurd (omega arith)) in
      ordered_one zero k ps e alone (λ _. channels none) h
  ordered_from (suc (suc n)) k ps e h =
      go (masked table k) refl (ordered_from (suc n) (k + 1) _ (omega arith)) (ordered_from n (k + 1 + 1) _ (omega arith)) h
    where
      go : (t : Bool) → masked table k ≡ t → OrderedFrom (suc n) (k + 1) (behind k ps)
          → OrderedFrom n (k + 1 + 1) (behind (k + 1) (behind k ps)) → OrderedFrom (suc (suc n)) k ps
      go false m one two = ordered_one (suc n) k ps e m one
      go true m one two = ordered_two n k ps e m two

  pub drawables_ordered : Ordered c 0 (used_drawables table names pixels)
  drawables_ordered = ordered_from (used_rows table) 0 pixels (zero-add _) (first_not_mask c names table all)
