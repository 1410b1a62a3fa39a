-- Along the image's walk: the rows of an accepted image are taken where a table shows them but for places, and has what the writer
-- asks (`ensures_taken`). Each structure adds rows that are taken behind rows that are taken.
-- Assumes nothing.
use Prim.Native.Nat.{ℕ, ◌+◌, ◌≤◌, ◌<◌}
use mathlib.Core.Path.{◌≡◌, refl}
use mathlib.Core.List.{List, [], ◌∷◌}
use mathlib.Core.Bool.{true}
use native.Mathlib.Omega.{arith}
use borrow.Author.Tests.{eqb-true}
use lib.Dec.{eqb}
use lib.ListN.{length}
use Rattle.std.proofs.lemmas.Bool.{cond_both}
use Rattle.xcf_numbers.specs.Limit.{layer_limit, channel_limit, table_rows}
use Rattle.xcf_walk.specs.Walk.{Walk, jump}
use Rattle.xcf_walk_laws.proofs.Ensures.{Ensures, ensures_done, ensures_weaken, ensures_bind, ensures_next}
use Rattle.xcf_table.specs.Table.{row_at, Rows, no_rows, add_row}
use Rattle.xcf_table.specs.declared.canvas.Canvas.{Canvas}
use Rattle.xcf_parse.specs.declared.drawable.Layer.{Layer}
use Rattle.xcf_parse.specs.Hierarchy.{hierarchy}
use Rattle.xcf_table.specs.Canvas.{depth_of}
use Rattle.xcf_row.specs.Row.{layer_row, mask_owner, channel_owner}
use Rattle.xcf_read.specs.Drawable.{channel_rows, mask_rows, layer_rows, canvas_channel_rows}
use Rattle.xcf_parse.specs.Image.{pointer_size, head}
use Rattle.xcf_read.specs.Image.{drawables, Image, canvas_of, all_rows, image}
use Rattle.xcf_read_laws.proofs.Ranges.{ensures_pointers}
use Rattle.xcf_usable.specs.Usable.{usable}
use Rattle.xcf_round_trip.specs.Taken.{RowExcepted, RowsExcepted}
use Rattle.xcf_round_trip.proofs.StructureGiven.{LayerGiven, layer_given, channel_given}
use Rattle.xcf_round_trip.proofs.RowTaken.{taken_none}
use Rattle.xcf_round_trip.proofs.RowsShown.{Shown}
use Rattle.xcf_round_trip.proofs.RowsTaken.{RowsTaken, add_channel, add_layer, add_layer_mask}

-- drawables of which each keeps a fact and counts one more
ensures_drawables : {f : List ℕ} {S : ℕ → Type 0} (P : ℕ → Rows → Type 0) (one : Rows → Walk Rows) (most : ℕ)
    → ((n : ℕ) (rows : Rows) → n < most → P n rows → Ensures f S (P (n + 1)) (one rows))
    → (ps : List ℕ) (n : ℕ) {rows : Rows} → n + length ps ≤ most → P n rows
    → Ensures f S (λ all. (m : ℕ) × P m all) (drawables one ps rows)
unfolding drawables
ensures_drawables P one most h [] n le x = ensures_done (n, x)
ensures_drawables P one most h (p ∷ ps) n le x =
    ensures_next (jump p) _ λ _. ensures_bind _ (h n _ (omega arith) x) λ next y.
    ensures_drawables P one most h ps (n + 1) (omega arith) y

none_taken : (c : Canvas) (names table : List ℕ) → RowsTaken c names table 0 0 no_rows
none_taken c names table = record { size = refl; taken = λ _. taken_none c names table }

-- an image's rows are usable where the table shows them
abbrev pub ImageTaken : List ℕ → List ℕ → Image → Type 0
ImageTaken names table x = Shown table x.rows → (k : ℕ) → k < x.rows.count → usable (canvas_of x.head) names table k ≡ true

module _ (names table : List ℕ) (excepted : (k : ℕ) → k < table_rows → RowExcepted names (row_at table k))
    (once : RowsExcepted table) {f : List ℕ} {S : ℕ → Type 0} where
  module _ (size : ℕ) (c : Canvas) where
    channel_rows_lem : (l m : ℕ) (rows : Rows) → m < channel_limit → RowsTaken c names table l m rows
        → Ensures f S (RowsTaken c names table l (m + 1)) (canvas_channel_rows size c rows)
    unfolding canvas_channel_rows channel_rows channel_owner
    channel_rows_lem l m rows few t =
        let o = channel_owner c rows.count in
        ensures_bind _ (channel_given size o refl) λ y given. ensures_next (jump _) _ λ _.
        ensures_next (hierarchy size o.width o.height 1) _ λ tiles.
        ensures_done (add_channel c names table excepted once rows y tiles few given t)

    mask_rows_lem : (l : ℕ) (rows : Rows) (x : Layer) (others : ℕ) → l < layer_limit → LayerGiven c.base x → RowsTaken c names table l 0 rows
        → Ensures f S (RowsTaken c names table (l + 1) 0)
        (mask_rows size x rows.count (add_row rows (layer_row x others rows.count)))
    unfolding mask_rows channel_rows mask_owner
    mask_rows_lem l rows x others few given t =
        let o = mask_owner x rows.count in
        cond_both (eqb x.mask 0) _ _ (Ensures f S (RowsTaken c names table (l + 1) 0))
        (λ e. ensures_done (add_layer c names table excepted once rows x others few given (eqb-true _ _ e) t))
        (λ _. ensures_next (jump _) _ λ _. ensures_bind _ (channel_given size o refl) λ y below. ensures_next (jump _) _ λ _.
        ensures_next (hierarchy size o.width o.height 1) _ λ tiles.
        ensures_done (add_layer_mask c names table excepted once rows x y tiles others few given below t))

    layer_rows_lem : (l : ℕ) (rows : Rows) → l < layer_limit → RowsTaken c names table l 0 rows
        → Ensures f S (RowsTaken c names table (l + 1) 0) (layer_rows size c rows)
    unfolding layer_rows
    layer_rows_lem l rows few t =
        ensures_bind _ (layer_given size c.base) λ x given. ensures_next (jump _) _ λ _.
        ensures_next (hierarchy size x.width x.height (depth_of x.form)) _ λ tiles. mask_rows_lem l rows x tiles few given t

    -- of all, some are layers and some channels
    all_rows_lem : Ensures f S (λ rows. (l : ℕ) × (m : ℕ) × RowsTaken c names table l m rows) (all_rows size c)
    unfolding all_rows
    all_rows_lem =
        ensures_bind _ (ensures_pointers size layer_limit) λ layers few. ensures_bind _ (ensures_pointers size channel_limit) λ channels less.
        ensures_bind _ (ensures_drawables (λ l. RowsTaken c names table l 0) _ layer_limit layer_rows_lem layers 0 (omega arith) (none_taken c names table))
        λ first x.
        ensures_weaken (λ rows y. (x.0, y.0, y.1))
        (ensures_drawables (RowsTaken c names table x.0) _ channel_limit (channel_rows_lem x.0) channels 0 (omega arith) x.1)

  pub ensures_taken : Ensures f S (ImageTaken names table) image
  unfolding image
  ensures_taken =
      ensures_next head _ λ h. ensures_bind _ (all_rows_lem (pointer_size h.version) (canvas_of h)) λ rows y.
      ensures_done (λ s. (y.2.taken s).rows)
