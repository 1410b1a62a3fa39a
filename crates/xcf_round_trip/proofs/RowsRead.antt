-- The drawables of a file are read back as their rows, one behind the other: the walk over the layers' places and then that over
-- the channels' give all of them (`reads_rows`). And each drawable stands at its place (`drawable_stands`).
-- Assumes nothing.
use Prim.Native.Nat.{ℕ, zero, suc, ◌+◌, ◌≤◌, ◌<◌}
use mathlib.Core.Path.{◌≡◌, refl, sym, ◌∙◌}
use mathlib.Core.List.{List, [], ◌∷◌}
use native.Mathlib.Omega.{arith}
use borrow.Author.Tests.{eq-eqb, ne_eqb}
use lib.ListN.{length, get_or}
use Rattle.xcf_numbers.specs.Limit.{file_limit}
use Rattle.xcf_numbers.specs.Kind
use Rattle.xcf_store.specs.Pointer.{narrow}
use Rattle.xcf_walk.specs.Walk.{Walk}
use Rattle.xcf_table.specs.Table.{Rows, add_row}
use Rattle.xcf_table.specs.declared.canvas.Canvas.{Canvas}
use Rattle.xcf_read.specs.Drawable.{layer_rows, canvas_channel_rows}
use Rattle.xcf_read.specs.Image.{drawables}
use Rattle.xcf_drawable.specs.Drawable.{Drawable, drawable_size, drawable_bytes}
use Rattle.xcf_body.specs.Rows.{drawables_bytes, places_from}
use Rattle.xcf_image.specs.Image.{kind_places}
use Rattle.xcf_drawable.proofs.DrawableLength.{drawable_length}
use Rattle.xcf_round_trip.proofs.Parts.{Stands, Gives, places_of, read_row, add_all}
use Rattle.xcf_round_trip.proofs.Stands.{stands_front, stands_behind}
use Rattle.xcf_round_trip.proofs.Steps.{reads_gives, gives_reads, then, ends, reads_jump}
use Rattle.xcf_round_trip.proofs.DrawableRead.{reads_layer, reads_masked, reads_channel}
use Rattle.xcf_round_trip.proofs.DrawablesFrom.{AllReadable, first_readable, rest_readable, Channels, none, channel, Ordered, channels, layer, layer_and_mask}

-- where the k-th of drawables stands, the first of them at p
unfoldable pub place_at : List Drawable → ℕ → ℕ → ℕ
place_at [] p k = p
place_at (d ∷ ds) p zero = p
place_at (d ∷ ds) p (suc k) = place_at ds (p + drawable_size d) k

pub place_some : (ds : List Drawable) (p k : ℕ) → 0 < p → 0 < place_at ds p k
unfolding place_at
place_some [] p k h = h
place_some (d ∷ ds) p zero h = h
place_some (d ∷ ds) p (suc k) h = place_some ds (p + drawable_size d) k (omega arith)

-- a drawable of a kind is among the places of that kind only
module _ (kind : ℕ) (d : Drawable) (ds : List Drawable) (p : ℕ) where
  places_more : d.row.kind ≡ kind → places_of kind (d ∷ ds) p ≡ p ∷ places_of kind ds (p + drawable_size d)
  unfolding kind_places places_from
  places_more e = rw (eq-eqb _ _ e)

  places_same : (d.row.kind ≡ kind → ⊥) → places_of kind (d ∷ ds) p ≡ places_of kind ds (p + drawable_size d)
  unfolding kind_places places_from
  places_same e = rw (ne_eqb _ _ e)

-- a walk over drawables begins each by a jump, so that it gives the same from everywhere
pub record GivesRows (f : List ℕ) (one : Rows → Walk Rows) (ps : List ℕ) (rows all : Rows) : Type 0 where
  pub at : (q : ℕ) → Gives (drawables one ps rows) f q all

module _ {f : List ℕ} {one : Rows → Walk Rows} where
  gives_none : {rows : Rows} → GivesRows f one [] rows rows
  unfolding drawables
  gives_none = record { at = λ q. reads_gives ends }

  gives_more : {p : ℕ} {ps : List ℕ} {rows next all : Rows} → Gives (one rows) f p next → GivesRows f one ps next all
      → GivesRows f one (p ∷ ps) rows all
  unfolding drawables
  gives_more {p} x rest = record {
    at = λ q. reads_gives (then _ (reads_jump p) (then _ (gives_reads x) (gives_reads (rest.at x.end))));
  }

-- of drawables that stand one behind the other, the first and the rest
module _ {f : List ℕ} (d : Drawable) (ds : List Drawable) (p : ℕ) (s : Stands f p (drawables_bytes (d ∷ ds) p)) where
  stands_first : Stands f p (drawable_bytes d p)
  unfolding drawables_bytes
  stands_first = stands_front (drawable_bytes d p) _ s

  stands_next : Stands f (p + drawable_size d) (drawables_bytes ds (p + drawable_size d))
  unfolding drawables_bytes
  stands_next = rw (drawable_length d p) at (stands_behind (drawable_bytes d p) _ s)

pub drawable_stands : {f : List ℕ} (ds : List Drawable) (p : ℕ) (other : Drawable) (k : ℕ) → Stands f p (drawables_bytes ds p)
    → k < length ds → Stands f (place_at ds p k) (drawable_bytes (get_or ds k other) (place_at ds p k))
unfolding place_at
drawable_stands [] p other k s h = absurd (omega arith)
drawable_stands (d ∷ ds) p other zero s h = stands_first d ds p s
drawable_stands (d ∷ ds) p other (suc k) s h = drawable_stands ds _ other k (stands_next d ds p s) (omega arith)

-- what the two walks give, from some rows to all
pub record RowsRead (f : List ℕ) (c : Canvas) (layers channels : List ℕ) (rows all : Rows) : Type 0 where
  pub middle : Rows
  pub first : GivesRows f (layer_rows narrow c) layers rows middle
  pub last : GivesRows f (canvas_channel_rows narrow c) channels middle all

module _ {f : List ℕ} (small : length f ≤ file_limit) (c : Canvas) where
  reads_channels : {ds : List Drawable} (p : ℕ) (rows : Rows) → Channels c rows.count ds → AllReadable ds → 0 < p
      → Stands f p (drawables_bytes ds p)
      → (places_of Kind.layer ds p ≡ []) × GivesRows f (canvas_channel_rows narrow c) (places_of Kind.channel ds p) rows (add_all rows ds p)
  unfolding add_row add_all kind_places
  reads_channels p rows none ws some s = (refl, gives_none)
  reads_channels p rows (channel {d = d} {ds} facts numbers xs) ws some s =
      let is = facts.kind in
      let one = reads_channel small some c rows d (first_readable ws) (stands_first d ds p s) numbers facts in
      let rest = reads_channels _ (add_row rows (read_row d p)) xs (rest_readable ws) (omega arith) (stands_next d ds p s) in (
        places_same 1 d ds p (λ z. absurd (omega arith)) ∙ rest.0,
        rw (places_more 3 d ds p is) (gives_more one rest.1),
      )

  pub reads_rows : {ds : List Drawable} (p : ℕ) (rows : Rows) → Ordered c rows.count ds → AllReadable ds → 0 < p
      → Stands f p (drawables_bytes ds p) → RowsRead f c (places_of Kind.layer ds p) (places_of Kind.channel ds p) rows (add_all rows ds p)
  unfolding add_row add_all
  reads_rows p rows (channels xs) ws some s =
      let all = reads_channels p rows xs ws some s in
      record { middle = rows; first = rw all.0 gives_none; last = all.1 }
  reads_rows p rows (layer {d = d} {ds} facts alone xs) ws some s =
      let is = facts.kind in
      let one = reads_layer small some c rows d (first_readable ws) (stands_first d ds p s) facts alone in
      let rest = reads_rows _ (add_row rows (read_row d p)) xs (rest_readable ws) (omega arith) (stands_next d ds p s) in
      record {
        middle = rest.middle;
        first = rw (places_more 1 d ds p is) (gives_more one rest.first);
        last = rw (places_same 3 d ds p (λ z. absurd (omega arith))) rest.last;
      }
  reads_rows p rows (layer_and_mask {d = d} {m} {ds} facts masked mask numbers xs) ws some s =
      let is = facts.kind in
      let next = p + drawable_size d in
      let behind = stands_next d (m ∷ ds) p s in
      let ms = rest_readable ws in
      let two =
      reads_masked small some c rows d (first_readable ws) (stands_first d (m ∷ ds) p s) facts masked
      m (first_readable ms) (stands_first m ds next behind) numbers mask in
      let rest =
      reads_rows _ (add_row (add_row rows (read_row d p)) (read_row m next)) xs (rest_readable ms) (omega arith)
      (stands_next m ds next behind) in
      let none_of : (kind : ℕ) → (2 ≡ kind → ⊥) → places_of kind (m ∷ ds) next ≡ places_of kind ds (next + drawable_size m) =
      λ kind h. places_same kind m ds next (λ z. absurd (h (sym mask.kind ∙ z))) in
      record {
        middle = rest.middle;
        first = rw (places_more 1 d (m ∷ ds) p is, none_of 1 (λ z. absurd (omega arith))) (gives_more two rest.first);
        last =
            rw (places_same 3 d (m ∷ ds) p (λ z. absurd (omega arith)), none_of 3 (λ z. absurd (omega arith))) rest.last;
      }
