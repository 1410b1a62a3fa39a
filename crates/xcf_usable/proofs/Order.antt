-- The order of a table whose rows are all usable: a mask is behind its layer, behind a channel are channels and unused rows, and
-- behind an unused row unused rows; there are at most 48 layers and 32 channels.
-- Assumes nothing.
use Prim.Native.Nat.{ℕ, ◌+◌, ◌≤◌, ◌<◌}
use mathlib.Core.Path.{◌≡◌}
use mathlib.Core.List.{List}
use mathlib.Core.Bool.{true}
use mathlib.Core.Logic.{◌⊎◌, inl, inr}
use native.Mathlib.Numerals.{add-one}
use native.Mathlib.Omega.{arith}
use borrow.Author.Tests.{eq-eqb, eqb-true}
use Rattle.xcf_numbers.specs.Limit.{layer_limit, channel_limit, table_rows}
use Rattle.xcf_numbers.specs.Kind
use Rattle.xcf_table.specs.Table.{row_at}
use Rattle.xcf_table.specs.declared.canvas.Canvas.{Canvas}
use Rattle.xcf_usable.specs.Usable.{is_layer, is_channel, is_unused, count_before, row_before, seen_at, masked, usable}
use Rattle.xcf_usable.proofs.Counts.{counted, few_pass}
use Rattle.xcf_usable.proofs.RowFacts.{MaskFacts, BeforeLayer, Use, unused, layer, mask, channel, row_use, layer_before, mask_facts, channel_before}

module _ (c : Canvas) (names table : List ℕ) (all : (k : ℕ) → k < table_rows → usable c names table k ≡ true) where
  pub first_not_mask : (row_at table 0).kind ≡ Kind.mask → ⊥
  unfolding row_before
  first_not_mask two = omega (arith, (mask_facts c names table 0 (all 0 (omega arith)) two).layer)

  -- a mask and its layer
  pub mask_behind : (k : ℕ) → k + 1 < table_rows → (row_at table (k + 1)).kind ≡ Kind.mask → MaskFacts (k + 1) (row_at table k) (row_at table (k + 1))
  unfolding row_before
  mask_behind k h two = rw row_before_lem at (mask_facts c names table (k + 1) (all (k + 1) h) two)
    where
      row_before_lem : row_before table (k + 1) ≡ row_at table k
      row_before_lem = rw add-one

  pub mask_after_layer : (k : ℕ) → k + 1 < table_rows → (row_at table (k + 1)).kind ≡ Kind.mask → (row_at table k).kind ≡ Kind.layer
  mask_after_layer k h two = (mask_behind k h two).layer

  -- before a layer there are no channels, and before a layer or a channel no unused rows
  channel_stays : (k : ℕ) → BeforeLayer (seen_at table (k + 1)) → (row_at table k).kind ≡ Kind.channel → ⊥
  unfolding seen_at
  channel_stays k b three = omega (arith, counted is_channel table k (eq-eqb _ _ three), b.channels)

  unused_stays : (k : ℕ) → count_before is_unused table (k + 1) ≡ 0 → (row_at table k).kind ≡ Kind.unused → ⊥
  unused_stays k none zero = omega (arith, counted is_unused table k (eq-eqb _ _ zero))

  pub after_channel : (k : ℕ) → k + 1 < table_rows → (row_at table k).kind ≡ Kind.channel
      → ((row_at table (k + 1)).kind ≡ Kind.unused) ⊎ ((row_at table (k + 1)).kind ≡ Kind.channel)
  after_channel k h three = go (row_use c names table (k + 1) (all (k + 1) h))
    where
      go : Use c names (k + 1) (seen_at table (k + 1)) (row_at table (k + 1)) (masked table (k + 1))
          → ((row_at table (k + 1)).kind ≡ Kind.unused) ⊎ ((row_at table (k + 1)).kind ≡ Kind.channel)
      go (unused e z) = inl e
      go (layer d l b) = absurd (channel_stays k b three)
      go (mask d ch m) = absurd (omega (arith, mask_after_layer k h m.kind))
      go (channel d ch v b) = inr v.kind

  pub after_unused : (k : ℕ) → k + 1 < table_rows → (row_at table k).kind ≡ Kind.unused → (row_at table (k + 1)).kind ≡ Kind.unused
  unfolding seen_at
  after_unused k h zero = go (row_use c names table (k + 1) (all (k + 1) h))
    where
      go : Use c names (k + 1) (seen_at table (k + 1)) (row_at table (k + 1)) (masked table (k + 1)) → (row_at table (k + 1)).kind ≡ Kind.unused
      go (unused e z) = e
      go (layer d l b) = absurd (unused_stays k b.unused zero)
      go (mask d ch m) = absurd (omega (arith, mask_after_layer k h m.kind))
      go (channel d ch v b) = absurd (unused_stays k b.unused zero)

  pub few_layers : (n : ℕ) → n ≤ table_rows → count_before is_layer table n ≤ layer_limit
  unfolding seen_at
  few_layers n h = few_pass is_layer table layer_limit n λ k low e. (layer_before c names table k (all k (omega arith)) (eqb-true _ _ e)).few

  pub few_channels : (n : ℕ) → n ≤ table_rows → count_before is_channel table n ≤ channel_limit
  unfolding seen_at
  few_channels n h = few_pass is_channel table channel_limit n λ k low e. (channel_before c names table k (all k (omega arith)) (eqb-true _ _ e)).few
