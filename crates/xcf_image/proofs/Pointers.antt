-- The pointers to the rows of a kind, stored row by row: `PointersLeft` holds at the loop's head, has room for what a row adds
-- (`pointers_room`) and for the 0 (`pointers_end_room`), and with the 0 is the whole (`pointers_whole`).
-- Assumes nothing.
use Prim.Native.Nat.{ℕ, ◌+◌, ◌-◌, ◌≤◌, ◌<◌}
use mathlib.Core.Path.{◌≡◌, ap, ◌∙◌}
use mathlib.Core.List.{List, [], ◌∷◌, ◌++◌, flat_map, append_assoc, append-nil}
use native.Mathlib.Nat.{sub-zero, add-zero}
use native.Mathlib.Omega.{arith}
use lib.ListN.{length, get_or, drop, length-append}
use lib.Seq.{get_or-drop, drop-drop}
use lib.Dec.{eqb}
use Rattle.xcf_table.specs.declared.Row.{Row}
use Rattle.xcf_table.specs.Table.{row_at}
use Rattle.xcf_store.specs.Put.{Put}
use Rattle.xcf_store.proofs.Stores.{put_append, put_length}
use Rattle.xcf_store.specs.Word.{word_bytes, words, when}
use Rattle.xcf_image.specs.Image.{kind_places}
use Rattle.xcf_image.specs.Parts.{rows_from}
use Rattle.xcf_laws.proofs.FlatMaps.{flat_map-append}
use Rattle.xcf_laws.proofs.Steps.{rest_begins, rest_empty}
use Rattle.xcf_store.proofs.Words.{words_length, put_none}
use Rattle.xcf_image.proofs.ImageLength.{pointers_length}

-- what a row adds
abbrev row_place : ℕ → Row → ℕ → List ℕ
row_place kind r place = when (eqb r.kind kind) (place ∷ [])

-- the pointers to the rows before row k are stored
pub record PointersLeft (start : List ℕ) (to : ℕ) (table : List ℕ) (n kind : ℕ) (places : List ℕ) (k next : ℕ) (output : List ℕ) : Type 0 where
  pub few : k ≤ n
  pub done : List ℕ
  pub stored : Put start to (words done) next output
  pub rest : done ++ kind_places kind (rows_from table (n - k) k) (drop k places) ≡ kind_places kind (rows_from table n 0) places

pub pointers_first : (start : List ℕ) (to : ℕ) (table : List ℕ) (n kind : ℕ) (places : List ℕ)
    → PointersLeft start to table n kind places 0 to start
pointers_first start to table n kind places = record { few = omega arith; done = []; stored = put_none start to; rest = rw sub-zero }

module _ {start : List ℕ} {to : ℕ} {table : List ℕ} {n kind : ℕ} {places : List ℕ} {k next : ℕ} {output : List ℕ} (g : PointersLeft start to table n kind places k next output) where
  module _ {r : Row} (h : k < n) (e : r ≡ row_at table k) where
    pointers_step : g.done ++ (row_place kind r (get_or places k 0) ++ kind_places kind (rows_from table (n - (k + 1)) (k + 1)) (drop (k + 1) places))
        ≡ kind_places kind (rows_from table n 0) places
    unfolding kind_places rows_from
    pointers_step = rw e (rw (rest_begins n k h, get_or-drop, add-zero, drop-drop) at g.rest)

    pub pointers_room : to + length (words (kind_places kind (rows_from table n 0) places ++ (0 ∷ []))) ≤ length start
        → next + length (words (row_place kind r (get_or places k 0))) ≤ length output
    pointers_room room =
        omega (
          arith,
          pointers_length (kind_places kind (rows_from table n 0) places),
          simp length-append at (ap length pointers_step),
          g.stored.behind,
          words_length g.done,
          words_length (row_place kind r (get_or places k 0)),
          put_length g.stored,
        )

    pub pointers_next : {next' : ℕ} {output' : List ℕ} → Put output next (words (row_place kind r (get_or places k 0))) next' output'
        → PointersLeft start to table n kind places (k + 1) next' output'
    pointers_next p = record {
      few = omega arith;
      done = g.done ++ row_place kind r (get_or places k 0);
      stored = rw flat_map-append (put_append g.stored p);
      rest = append_assoc g.done _ _ ∙ pointers_step;
    }

  module _ (h : n ≤ k) where
    all_done : g.done ≡ kind_places kind (rows_from table n 0) places
    unfolding kind_places rows_from
    all_done = rw (rest_empty n k h, append-nil) at g.rest

    pub pointers_end_room : to + length (words (kind_places kind (rows_from table n 0) places ++ (0 ∷ []))) ≤ length start
        → next + 4 ≤ length output
    pointers_end_room room =
        omega (
          arith,
          pointers_length (kind_places kind (rows_from table n 0) places),
          ap length all_done,
          g.stored.behind,
          words_length g.done,
          put_length g.stored,
        )

    pub pointers_whole : {r : ℕ} {new : List ℕ} → Put output next (word_bytes 0) r new
        → Put start to (words (kind_places kind (rows_from table n 0) places ++ (0 ∷ []))) r new
    unfolding flat_map
    pointers_whole p = rw (← all_done, flat_map-append word_bytes g.done (0 ∷ []), append-nil) (put_append g.stored p)
