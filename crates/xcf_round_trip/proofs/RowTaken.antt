-- The rows of a table that is the reader's but for places, taken one after the other: `TakenTo` holds before them, and a layer
-- (`layer_taken`), a mask behind its layer (`mask_taken`) and a channel (`channel_taken`) keep it. And an unused row is
-- usable (`unused_taken`).
-- Assumes nothing.
use Prim.Native.Nat.{ℕ, ◌+◌, ◌≤◌, ◌<◌}
use mathlib.Core.Path.{◌≡◌, refl, ap}
use mathlib.Core.List.{List}
use mathlib.Core.Bool.{true, false, cond}
use mathlib.Core.Logic.{⊎_elim}
use native.Mathlib.Numerals.{add-one}
use native.Mathlib.Omega.{arith}
use Rattle.xcf_numbers.specs.Limit.{layer_limit, channel_limit, table_rows}
use Rattle.xcf_laws.proofs.Cases.{below_or}
use Rattle.xcf_table.specs.declared.Row.{Row}
use Rattle.xcf_table.specs.Table.{unused_row, row_at}
use Rattle.xcf_table.specs.declared.canvas.Canvas.{Canvas}
use Rattle.xcf_parse.specs.declared.drawable.Fields.{Fields}
use Rattle.xcf_parse.specs.declared.drawable.Layer.{Layer}
use Rattle.xcf_row.specs.Row.{layer_row, channel_row, mask_owner, channel_owner}
use Rattle.xcf_usable.specs.Usable.{is_layer, is_channel, is_unused, count_before, row_before, seen_at, masked, usable}
use Rattle.xcf_usable.proofs.Counts.{before_next}
use Rattle.xcf_usable.proofs.RowFacts.{Use, unused, layer, mask, channel}
use Rattle.xcf_round_trip.specs.Taken.{RowExcepted, RowsExcepted}
use Rattle.xcf_round_trip.proofs.StructureGiven.{LayerGiven, ChannelGiven}
use Rattle.xcf_round_trip.proofs.UseTaken.{use_usable}
use Rattle.xcf_round_trip.proofs.NoSecond.{no_seconds}
use Rattle.xcf_round_trip.proofs.RowGiven.{Like, layer_drawn, layer_fits, channel_drawn, channel_fits, mask_fits, canvas_fits, unused_fits}

-- the first n rows are taken: at most l layers and m channels, none unused
pub record TakenTo (c : Canvas) (names table : List ℕ) (l m n : ℕ) : Type 0 where
  pub layers : count_before is_layer table n ≤ l
  pub channels : count_before is_channel table n ≤ m
  pub unused : count_before is_unused table n ≡ 0
  pub rows : (k : ℕ) → k < n → usable c names table k ≡ true

pub taken_none : (c : Canvas) (names table : List ℕ) → TakenTo c names table 0 0 0
unfolding count_before
taken_none c names table = record { layers = omega arith; channels = omega arith; unused = refl; rows = λ k h. absurd (omega arith) }

module _ (c : Canvas) (names table : List ℕ) (excepted : (k : ℕ) → k < table_rows → RowExcepted names (row_at table k))
    (once : RowsExcepted table) where
  use_taken : (n : ℕ) → n < table_rows → Use c names n (seen_at table n) (row_at table n) (masked table n)
      → usable c names table n ≡ true
  unfolding usable
  use_taken n h u = use_usable c names n (seen_at table n) (row_at table n) (masked table n) u (no_seconds table n h once)

  -- one more row
  taken_next : {l m n : ℕ} (l' m' : ℕ) → TakenTo c names table l m n → usable c names table n ≡ true
      → l + cond (is_layer (row_at table n)) 1 0 ≤ l' → m + cond (is_channel (row_at table n)) 1 0 ≤ m'
      → is_unused (row_at table n) ≡ false → TakenTo c names table l' m' (n + 1)
  taken_next {l} {m} {n} l' m' t ok more others used = record {
    layers = rw before_next (omega (arith, t.layers));
    channels = rw before_next (omega (arith, t.channels));
    unused = rw (before_next, used) (omega (arith, t.unused));
    rows = λ k h. ⊎_elim (t.rows k) (λ above. let e : k ≡ n = omega arith in rw e ok) (below_or k n);
  }

  module _ (n : ℕ) (inside : n < table_rows) where
    pub layer_taken : {l : ℕ} (x : Layer) (tiles : ℕ) → TakenTo c names table l 0 n → l < layer_limit → Like (row_at table n) (layer_row x tiles n)
        → LayerGiven c.base x → (masked table n ≡ false → x.mask ≡ 0) → TakenTo c names table (l + 1) 0 (n + 1)
    unfolding seen_at
    layer_taken {l} x tiles t few like given alone =
        let a = excepted n inside in
        let f = layer_fits names (row_at table n) a x tiles n like c given (masked table n) alone in
        taken_next (l + 1) 0 t
        (use_taken n inside (layer (layer_drawn names (row_at table n) a x tiles n like c given) f
        (record { few = omega (arith, t.layers); channels = omega (arith, t.channels); unused = t.unused })))
        (rw f.kind (omega arith)) (rw f.kind (omega arith)) (rw f.kind refl)

    pub channel_taken : {l m : ℕ} (y : Fields) (tiles : ℕ) → TakenTo c names table l m n → m < channel_limit
        → Like (row_at table n) (channel_row (channel_owner c n) y tiles) → ChannelGiven (channel_owner c n) y
        → TakenTo c names table l (m + 1) (n + 1)
    unfolding seen_at
    channel_taken {l} {m} y tiles t few like given =
        let o = channel_owner c n in
        let f = canvas_fits (row_at table n) c n y tiles like in
        taken_next l (m + 1) t
        (use_taken n inside (channel (channel_drawn names (row_at table n) (excepted n inside) o y tiles like given)
        (channel_fits (row_at table n) o y tiles like) f (record { few = omega (arith, t.channels); unused = t.unused })))
        (rw f.kind (omega arith)) (rw f.kind (omega arith)) (rw f.kind refl)

  pub mask_taken : {l m : ℕ} (n : ℕ) → n + 1 < table_rows → (x : Layer) (y : Fields) (tiles others : ℕ) → TakenTo c names table l m (n + 1)
      → Like (row_at table n) (layer_row x others n) → Like (row_at table (n + 1)) (channel_row (mask_owner x n) y tiles)
      → ChannelGiven (mask_owner x n) y → TakenTo c names table l m (n + 1 + 1)
  unfolding seen_at row_before
  mask_taken {l} {m} n inside x y tiles others t above like given =
      let o = mask_owner x n in
      let r = row_at table (n + 1) in
      let f = mask_fits (row_at table n) r x y tiles others n above like in
      let e : row_before table (n + 1) ≡ row_at table n = rw add-one in
      taken_next l m t
      (use_taken (n + 1) inside (mask (channel_drawn names r (excepted (n + 1) inside) o y tiles like given)
      (channel_fits r o y tiles like) (rw e f)))
      (rw f.kind (omega arith)) (rw f.kind (omega arith)) (rw f.kind refl)

  pub unused_taken : (n : ℕ) → n < table_rows → Like (row_at table n) unused_row → (row_at table n).name ≡ 0
      → usable c names table n ≡ true
  unused_taken n inside like unnamed =
      use_taken n inside (unused (ap (λ (q : Row). q.kind) like) (unused_fits names (row_at table n) (excepted n inside) like unnamed))
