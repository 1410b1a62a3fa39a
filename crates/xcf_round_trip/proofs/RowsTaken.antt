-- Rows that are taken where the table shows them stay so with one more: a channel (`add_channel`), a layer without a mask
-- (`add_layer`) or a layer and its mask (`add_layer_mask`).
-- Assumes nothing.
use Prim.Native.Nat.{ℕ, ◌+◌, ◌*◌, ◌<◌}
use mathlib.Core.Path.{◌≡◌, sym, ap, ◌∙◌}
use mathlib.Core.List.{List}
use mathlib.Core.Bool.{true, false≢true}
use borrow.Author.Tests.{eq-eqb, lt-ltb}
use lib.ListN.{length}
use Rattle.xcf_numbers.specs.Limit.{layer_limit, channel_limit, row_size, table_rows}
use Rattle.xcf_table.specs.declared.Row.{Row}
use Rattle.xcf_table.specs.Table.{row_at, Rows, add_row}
use Rattle.xcf_table.specs.declared.canvas.Canvas.{Canvas}
use Rattle.xcf_parse.specs.declared.drawable.Fields.{Fields}
use Rattle.xcf_parse.specs.declared.drawable.Layer.{Layer}
use Rattle.xcf_row.specs.Row.{layer_row, channel_row, mask_owner, channel_owner}
use Rattle.xcf_usable.specs.Usable.{masked}
use Rattle.xcf_round_trip.specs.Taken.{RowExcepted, RowsExcepted}
use Rattle.xcf_round_trip.proofs.StructureGiven.{LayerGiven, ChannelGiven}
use Rattle.xcf_round_trip.proofs.RowGiven.{Like}
use Rattle.xcf_round_trip.proofs.RowTaken.{TakenTo, layer_taken, mask_taken, channel_taken}
use Rattle.xcf_round_trip.proofs.RowsShown.{Shown, added_size, shown_before, shown_last, shown_inside}

-- whole rows that are taken where the table shows them
pub record RowsTaken (c : Canvas) (names table : List ℕ) (l m : ℕ) (rows : Rows) : Type 0 where
  pub size : length rows.numbers ≡ row_size * rows.count
  pub taken : Shown table rows → TakenTo c names table l m rows.count

module _ (c : Canvas) (names table : List ℕ) (excepted : (k : ℕ) → k < table_rows → RowExcepted names (row_at table k))
    (once : RowsExcepted table) where
  abbrev Taken : ℕ → ℕ → Rows → Type 0
  Taken = RowsTaken c names table

  pub add_channel : {l m : ℕ} (rows : Rows) (y : Fields) (tiles : ℕ) → m < channel_limit
      → ChannelGiven (channel_owner c rows.count) y → Taken l m rows
      → Taken l (m + 1) (add_row rows (channel_row (channel_owner c rows.count) y tiles))
  unfolding add_row
  add_channel rows y tiles few given t =
      let r = channel_row (channel_owner c rows.count) y tiles in
      record {
        size = added_size rows r t.size;
        taken = λ s.
            channel_taken c names table excepted once rows.count (shown_inside rows r t.size table s) y tiles
            (t.taken (shown_before rows r t.size table s)) few (shown_last rows r t.size table s) given;
      }

  pub add_layer : {l : ℕ} (rows : Rows) (x : Layer) (tiles : ℕ) → l < layer_limit → LayerGiven c.base x → x.mask ≡ 0
      → Taken l 0 rows → Taken (l + 1) 0 (add_row rows (layer_row x tiles rows.count))
  unfolding add_row
  add_layer rows x tiles few given none t =
      let r = layer_row x tiles rows.count in
      record {
        size = added_size rows r t.size;
        taken = λ s.
            layer_taken c names table excepted once rows.count (shown_inside rows r t.size table s) x tiles
            (t.taken (shown_before rows r t.size table s)) few (shown_last rows r t.size table s) given (λ _. none);
      }

  -- a mask's row says that its layer has one
  mask_shown : (x : Layer) (y : Fields) (n tiles : ℕ) → n < table_rows
      → Like (row_at table (n + 1)) (channel_row (mask_owner x n) y tiles) → masked table n ≡ true
  unfolding masked channel_row mask_owner
  mask_shown x y n tiles h like = rw (lt-ltb n table_rows h) (eq-eqb _ _ (ap (λ (q : Row). q.kind) like))

  pub add_layer_mask : {l : ℕ} (rows : Rows) (x : Layer) (y : Fields) (tiles others : ℕ) → l < layer_limit → LayerGiven c.base x
      → ChannelGiven (mask_owner x rows.count) y → Taken l 0 rows
      → Taken (l + 1) 0 (add_row (add_row rows (layer_row x others rows.count)) (channel_row (mask_owner x rows.count) y tiles))
  unfolding add_row
  add_layer_mask rows x y tiles others few given below t =
      let n = rows.count in
      let q = layer_row x others n in
      let r = channel_row (mask_owner x n) y tiles in
      let size = added_size rows q t.size in
      record {
        size = added_size (add_row rows q) r size;
        taken = λ s.
            let first = shown_before (add_row rows q) r size table s in
            let last : Like (row_at table (n + 1)) r = shown_last (add_row rows q) r size table s in
            let inside = shown_inside rows q t.size table first in
            let above = shown_last rows q t.size table first in
            mask_taken c names table excepted once n (shown_inside (add_row rows q) r size table s) x y tiles others
            (layer_taken c names table excepted once n inside x others (t.taken (shown_before rows q t.size table first)) few above
            given (λ e. absurd (false≢true (sym e ∙ mask_shown x y n tiles inside last))))
            above last below;
      }
