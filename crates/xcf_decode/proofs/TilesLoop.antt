-- The loops over a row's tiles. `Counting` holds at the head of both: a good tile and a marked one keep it (`counting_good`,
-- `counting_bad`), it says that the marks are few (`counting_few`), and with no tile left it names the count (`counting_over`).
-- `TilesGoing` holds at the head of the loop that fills the buffers: its next tile can be placed (`tile_placeable`) and keeps it
-- (`going_next`), and with no tile left it names the row's decoding (`going_counted`, `going_shown`, `going_marked`).
-- Assumes nothing.
use Prim.Native.Nat.{ℕ, ◌+◌, ◌*◌, ◌≤◌, ◌<◌}
use mathlib.Core.Path.{◌≡◌, refl, sym, ◌∙◌, ap, subst}
use mathlib.Core.List.{List}
use native.Mathlib.Omega.{arith}
use native.Mathlib.Nat.{zero-add}
use native.Mathlib.Numerals.{add-one}
use lib.ListN.{length, take, set, length-set}
use lib.Seq.{take_all, take-suc-set}
use Rattle.xcf_numbers.specs.Limit.{tile_size}
use Rattle.xcf_table.specs.declared.Row.{Row}
use Rattle.xcf_grid.specs.Grid.{tile_width, tile_height}
use Rattle.xcf_tile_laws.proofs.Pixels.{pixels_length}
use Rattle.xcf_grid.proofs.FewTiles.{few_tiles}
use Rattle.xcf_window.specs.Window.{tile}
use Rattle.xcf_grid.specs.Pixels.{tabulate}
use Rattle.xcf_decode.specs.Answer.{nonzero, marks_of, row_decoding}
use Rattle.xcf_window.specs.Parts.{Ready, Scratched}
use Rattle.xcf_grid.specs.Parts.{Placeable, frame_of, put_frame}
use Rattle.xcf_grid.proofs.Tabulated.{tabulate_more}
use Rattle.xcf_grid.proofs.PutTile.{tile_framed}
use Rattle.xcf_window.proofs.OneTile.{pixels_small, scratch_pixels}
use Rattle.xcf_decode.proofs.Marked.{nonzero_next_good, nonzero_next_bad, nonzero_below}
use Rattle.xcf_grid.proofs.Shown.{Shown, shown_none, shown_next, shown_all}

module _ (size : ℕ) (f : List ℕ) (r : Row) (compression : ℕ) where
  abbrev mark_of : ℕ → ℕ
  mark_of t = (tile size f r compression t).mark

  abbrev pixels_at : ℕ → List ℕ
  pixels_at t = (tile size f r compression t).pixels

  pixels_of_length : (t : ℕ) → length (pixels_at t) ≡ tile_width r.width t * tile_height r.width r.height t * r.depth
  unfolding tile
  pixels_of_length t = pixels_length _ _ _ _ compression

-- the marks of the first t tiles are counted
pub record Counting (size : ℕ) (f : List ℕ) (r : Row) (compression : ℕ) (scratch : List ℕ) (t marked : ℕ) : Type 0 where
  pub inside : t ≤ r.count
  pub count : marked ≡ nonzero (tabulate t 0 (mark_of size f r compression))
  pub room : length scratch ≡ tile_size

-- the pixels of the first t tiles are shown, and their marks set
pub record TilesGoing (size : ℕ) (f : List ℕ) (r : Row) (compression : ℕ) (pixels marks scratch : List ℕ) (t marked : ℕ) : Type 0 where
  pub counting : Counting size f r compression scratch t marked
  pub shown : Shown (pixels_at size f r compression) r pixels t
  pub marks_size : length marks ≡ r.count
  pub marks_set : take t marks ≡ tabulate t 0 (mark_of size f r compression)

pub counting_start : {size : ℕ} {f : List ℕ} {r : Row} {compression : ℕ} {scratch : List ℕ} → length scratch ≡ tile_size → Counting size f r compression scratch 0 0
unfolding tabulate nonzero
counting_start room = record { inside = omega arith; count = refl; room = room }

pub going_start : {size : ℕ} {f : List ℕ} {r : Row} {compression : ℕ} {pixels marks scratch : List ℕ} → length pixels ≡ r.width * r.height * r.depth
    → length marks ≡ r.count → length scratch ≡ tile_size → TilesGoing size f r compression pixels marks scratch 0 0
unfolding tabulate
going_start pixels marks scratch = record { counting = counting_start scratch; shown = shown_none pixels; marks_size = marks; marks_set = refl }

module _ {size : ℕ} {f : List ℕ} {r : Row} {compression : ℕ} {scratch : List ℕ} {t marked : ℕ} (g : Counting size f r compression scratch t marked) where
  -- the next tile's mark counts where it is not zero
  module _ (less : t < r.count) {m : ℕ} {new : List ℕ} (one : Scratched (tile size f r compression t) m scratch new) where
    pub counting_good : m ≡ 0 → Counting size f r compression new (t + 1) marked
    counting_good good = record {
      inside = omega (arith, less);
      count = g.count ∙ sym (nonzero_next_good t (mark_of size f r compression) (sym one.mark ∙ good));
      room = one.size ∙ g.room;
    }

    pub counting_bad : (m ≡ 0 → ⊥) → Counting size f r compression new (t + 1) (marked + 1)
    counting_bad bad = record {
      inside = omega (arith, less);
      count = ap (λ n. n + 1) g.count ∙ sym (nonzero_next_bad t (mark_of size f r compression) (λ z. bad (one.mark ∙ z)));
      room = one.size ∙ g.room;
    }

  pub counting_over : r.count ≤ t → marked ≡ nonzero (marks_of size f r compression)
  unfolding marks_of
  counting_over over =
      let all : t ≡ r.count = omega (arith, over, g.inside) in
      g.count ∙ ap (λ n. nonzero (tabulate n 0 (mark_of size f r compression))) all

module _ {size : ℕ} {f : List ℕ} {r : Row} (ready : Ready size f r) where
  few : r.count ≤ 65536
  few = rw ready.range.count (few_tiles r.width r.height ready.range.wide.1 ready.range.high.1)

  pub counting_few : {compression : ℕ} {scratch : List ℕ} {t marked : ℕ} → Counting size f r compression scratch t marked → (marked ≤ t) × (t ≤ 65536)
  counting_few {compression} {t = t} g = (rw g.count (nonzero_below t (mark_of size f r compression)), omega (arith, g.inside, few))

  module _ {compression : ℕ} {pixels marks scratch : List ℕ} {t marked : ℕ} (g : TilesGoing size f r compression pixels marks scratch t marked) where
    pub tile_placeable : t < r.count → (n : ℕ) → n ≡ tile_size → Placeable r (frame_of r t) n (length pixels)
    tile_placeable less n room = record {
      framed =
          tile_framed ready.range.wide.0 (omega (arith, less, ready.range.count)) (omega (arith, room, (pixels_small ready less refl).1)) g.shown.size;
      wide = ready.range.wide.1;
      high = ready.range.high.1;
      deep = ready.range.deep.1;
    }

    pub going_next : t < r.count → {m : ℕ} {new : List ℕ} → Scratched (tile size f r compression t) m scratch new → {count : ℕ}
        → Counting size f r compression new (t + 1) count
        → TilesGoing size f r compression (put_frame pixels r.width r.depth (frame_of r t) new) (set marks t m) new (t + 1) count
    going_next less {m} {new} one next = record {
      counting = next;
      shown = shown_next new g.shown ready.range.wide.0 (omega (arith, less, ready.range.count)) (pixels_of_length size f r compression t) (scratch_pixels one);
      marks_size = length-set marks t m ∙ g.marks_size;
      marks_set =
          rw (add-one, tabulate_more t 0 (mark_of size f r compression), zero-add, take-suc-set marks t m (omega (arith, less, g.marks_size)), g.marks_set, one.mark);
    }

    module _ (over : r.count ≤ t) where
      all : t ≡ r.count
      all = omega (arith, over, g.counting.inside)

      pub going_counted : marked ≡ (row_decoding size f r compression).answer.marked
      unfolding row_decoding
      going_counted = counting_over g.counting over

      pub going_shown : pixels ≡ (row_decoding size f r compression).pixels
      unfolding row_decoding
      going_shown = shown_all (subst (Shown (pixels_at size f r compression) r pixels) (all ∙ ready.range.count) g.shown) ready.range.wide.0 ready.range.deep.0

      pub going_marked : marks ≡ (row_decoding size f r compression).marks
      unfolding row_decoding marks_of
      going_marked = sym (take_all t marks (omega (arith, all, g.marks_size))) ∙ g.marks_set ∙ ap (λ n. tabulate n 0 (mark_of size f r compression)) all
