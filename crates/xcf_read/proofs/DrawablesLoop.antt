-- The loop over the drawables of a list: `DrawablesGoing` holds at its head (`going_start`), each drawable keeps it (`going_next`) and has
-- room in the table (`room_for_one`). A refusal is the list's (`going_stops`), and behind the last drawable the rows in the table are
-- what the walk gives (`going_over`).
-- Assumes nothing.
use Prim.Native.Nat.{ℕ, suc, ◌+◌, ◌-◌, ◌≤◌, ◌<◌}
use mathlib.Core.Path.{◌≡◌, refl, ◌∙◌, ap}
use mathlib.Core.List.{List, ◌∷◌}
use native.Mathlib.Nat.{sub-zero}
use native.Mathlib.Numerals.{add-one}
use native.Mathlib.Omega.{arith}
use lib.ListN.{length, get_or, drop, drop_of_length-le}
use lib.Seq.{drop-cons}
use Rattle.std.specs.Prelude.{Result, Ok, Err}
use Rattle.std.specs.Result.{IsErrAnd}
use Rattle.xcf_numbers.specs.declared.reason.Refusal.{Refusal}
use Rattle.xcf_walk.specs.declared.cursor.Cursor.{Cursor}
use Rattle.xcf_walk.specs.Walk.{Walk}
use Rattle.xcf_walk.specs.Cursor.{WalksBy}
use Rattle.xcf_walk.proofs.Steps.{then, then_jump, stops, ends}
use Rattle.xcf_table.specs.Table.{Rows, rows_in}
use Rattle.xcf_read.specs.declared.drawable.Kind.{Kind}
use Rattle.xcf_read.specs.declared.drawable.Kind.TheVariants as Variant
use Rattle.xcf_read.specs.Image.{drawables}
use Rattle.xcf_read.specs.Parts.{rows_most}

-- what the first of some drawables may take, and the others
rows_one_more : (kind : Kind) (n : ℕ) → rows_most kind (suc n) ≡ rows_most kind 1 + rows_most kind n
rows_one_more Variant.Layer n = omega arith
rows_one_more Variant.Channel n = omega arith

-- the next of a list's elements, and those behind it
next_of : (list : List ℕ) (i : ℕ) → i < length list → drop i list ≡ get_or list i 0 ∷ drop (i + 1) list
next_of list i h = drop-cons list i 0 h ∙ rw add-one

-- the drawables of a list, each read by the walk one, of which i are read
pub record DrawablesGoing (one : Rows → Walk Rows) (kind : Kind) (start : Cursor) (list : List ℕ) (k : ℕ) (old : List ℕ) (new : List ℕ) (c : Cursor) (rows i : ℕ) : Type 0 where
  pub inside : i ≤ length list
  pub same : c.file.now ≡ start.file.now
  pub kept : length new ≡ length old
  pub few : rows + rows_most kind (length list - i) ≤ k + rows_most kind (length list)
  pub whole : {u : ℕ → Rows} {r : Result ℕ Refusal} {e : Cursor} → WalksBy u (drawables one (drop i list) (rows_in rows new)) c r e
      → WalksBy u (drawables one list (rows_in k old)) start r e

pub going_start : {one : Rows → Walk Rows} {kind : Kind} {c : Cursor} {list : List ℕ} {k : ℕ} {old : List ℕ}
    → DrawablesGoing one kind c list k old old c k 0
going_start = record { inside = omega arith; same = refl; kept = refl; few = rw sub-zero (omega arith); whole = λ l. l }

module _ {one : Rows → Walk Rows} {kind : Kind} {start : Cursor} {list : List ℕ} {k : ℕ} {old new : List ℕ} {c : Cursor} {rows i : ℕ}
    (g : DrawablesGoing one kind start list k old new c rows i) where
  pub going_over : length list ≤ i → WalksBy (λ n. rows_in n new) (drawables one list (rows_in k old)) start (Ok rows) c
  unfolding drawables
  going_over h = g.whole (rw (drop_of_length-le list h) (ends _ refl))

  module _ (h : i < length list) where
    left : length list - i ≡ suc (length list - (i + 1))
    left = omega arith

    pub room_for_one : rows + rows_most kind 1 ≤ k + rows_most kind (length list)
    room_for_one = omega (arith, g.few, rows_one_more kind (length list - (i + 1)), ap (rows_most kind) left)

    module _ {there end : Cursor} (jumps : there ≡ record { file = c.file; at = get_or list i 0 }) where
      pub going_stops : {u v : ℕ → Rows} {x : Refusal} {r : Result ℕ Refusal} → WalksBy v (one (rows_in rows new)) there (Err x) end → IsErrAnd r (λ y. y ≡ x)
          → WalksBy u (drawables one list (rows_in k old)) start r end
      unfolding drawables
      going_stops read e = g.whole (rw (next_of list i h) (then_jump _ jumps (stops _ read e)))

      pub going_next : {more : ℕ} {table : List ℕ} → WalksBy (λ n. rows_in n table) (one (rows_in rows new)) there (Ok more) end → length table ≡ length new → more ≤ rows + rows_most kind 1
          → DrawablesGoing one kind start list k old table end more (i + 1)
      unfolding drawables
      going_next read size few = record {
        inside = omega arith;
        same = read.file ∙ ap (λ (d : Cursor). d.file.now) jumps ∙ g.same;
        kept = size ∙ g.kept;
        few = omega (arith, g.few, rows_one_more kind (length list - (i + 1)), ap (rows_most kind) left);
        whole = λ l. g.whole (rw (next_of list i h) (then_jump _ jumps (then _ read l)));
      }
