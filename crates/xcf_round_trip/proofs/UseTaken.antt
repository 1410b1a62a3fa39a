-- A row with the facts of its kind passes the writer's tests, where it is no second active or selection (`use_usable`).
-- Assumes nothing.
use Prim.Native.Nat.{ℕ, ◌<◌}
use mathlib.Core.Path.{◌≡◌, refl}
use mathlib.Core.List.{List}
use mathlib.Core.Bool.{Bool, true, false, ◌||◌, or-true}
use native.Mathlib.Omega.{arith}
use borrow.Author.Tests.{eq-eqb, ne_eqb, le-leb, lt-ltb}
use lib.Dec.{eqb}
use lib.ListN.{length}
use Rattle.xcf_table.specs.declared.Row.{Row}
use Rattle.xcf_table.specs.declared.canvas.Canvas.{Canvas}
use Rattle.xcf_table.specs.Canvas.{side_ok}
use Rattle.xcf_usable.specs.declared.seen.Seen.{Seen}
use Rattle.xcf_usable.specs.Usable.{apply, is_active_layer, is_active_channel, is_selection, no_second, drawable_ok, name_ok, layer_ok, layer_follows, channel_ok, mask_follows, channel_follows, kind_ok, usable_row}
use Rattle.xcf_usable.proofs.RowFacts.{DrawableFacts, LayerFacts, ChannelFacts, MaskFacts, CanvasFacts, BeforeLayer, BeforeChannel, Use, unused, layer, mask, channel}

pub record NoSeconds (s : Seen) (r : Row) : Type 0 where
  pub current : no_second (is_active_layer r) s.current ≡ true
  pub active : no_second (is_active_channel r) s.active ≡ true
  pub selection : no_second (is_selection r) s.selections ≡ true

drawable_passes : {names : List ℕ} {r : Row} → DrawableFacts names r → drawable_ok (length names) r ≡ true
unfolding drawable_ok side_ok
drawable_passes x =
    rw (
      le-leb _ _ x.wide.0,
      le-leb _ _ x.wide.1,
      le-leb _ _ x.high.0,
      le-leb _ _ x.high.1,
      eq-eqb _ _ x.count,
      le-leb _ _ x.opaque,
      le-leb _ _ x.short,
      le-leb _ _ x.named,
      eq-eqb _ _ x.list,
      eq-eqb _ _ x.pointers,
    )

name_passes : {names : List ℕ} {r : Row} → DrawableFacts names r → name_ok names r ≡ true
unfolding name_ok
name_passes x = eq-eqb _ _ x.told

applied_passes : (r : Row) (has_mask : Bool) → (has_mask ≡ false → apply r ≡ 0) → eqb (apply r) 0 || has_mask ≡ true
applied_passes r true h = or-true (eqb (apply r) 0)
applied_passes r false h = rw (eq-eqb _ _ (h refl))

module _ (c : Canvas) (names : List ℕ) (k : ℕ) (s : Seen) (r : Row) (has_mask : Bool) where
  layer_passes : LayerFacts c k r has_mask → layer_ok c k r has_mask ≡ true
  unfolding layer_ok
  layer_passes x =
      rw (
        x.type,
        le-leb _ _ x.form,
        eq-eqb _ _ x.depth,
        le-leb _ _ x.mode,
        eq-eqb _ _ x.owner,
        eq-eqb _ _ x.flags,
        applied_passes r has_mask x.applied,
      )

  layer_follows_lem : BeforeLayer s → NoSeconds s r → layer_follows s r ≡ true
  unfolding layer_follows
  layer_follows_lem b o = rw (lt-ltb _ _ b.few, eq-eqb _ _ b.channels, eq-eqb _ _ b.unused, o.current)

  channel_passes : ChannelFacts r → NoSeconds s r → channel_ok s r ≡ true
  unfolding channel_ok
  channel_passes x o =
      rw (eq-eqb _ _ x.depth, eq-eqb _ _ x.form, eq-eqb _ _ x.mode, eq-eqb _ _ x.flags, o.active, o.selection)

  mask_follows_lem : MaskFacts k s.row r → mask_follows k s r ≡ true
  unfolding mask_follows
  mask_follows_lem x =
      rw (
        eq-eqb _ _ x.layer,
        eq-eqb _ _ x.width,
        eq-eqb _ _ x.height,
        eq-eqb _ _ x.dx,
        eq-eqb _ _ x.dy,
        eq-eqb _ _ x.owner,
      )

  channel_follows_lem : CanvasFacts c k r → BeforeChannel s → channel_follows c k s r ≡ true
  unfolding channel_follows
  channel_follows_lem x b =
      rw (
        eq-eqb _ _ x.width,
        eq-eqb _ _ x.height,
        eq-eqb _ _ x.dx,
        eq-eqb _ _ x.dy,
        eq-eqb _ _ x.owner,
        lt-ltb _ _ b.few,
        eq-eqb _ _ b.unused,
      )

  -- a row of a kind is of no lower one
  other : (n : ℕ) {kind : ℕ} → r.kind ≡ kind → n < kind → eqb r.kind n ≡ false
  other n e h = ne_eqb r.kind n (λ z. omega arith)

  pub use_usable : Use c names k s r has_mask → NoSeconds s r → usable_row c names k s r has_mask ≡ true
  unfolding usable_row kind_ok
  use_usable (unused e z) o = rw (eq-eqb _ _ e, z)
  use_usable (layer d l b) o =
      rw (other 0 l.kind (omega arith), eq-eqb _ _ l.kind, drawable_passes d, name_passes d, layer_passes l, layer_follows_lem b o)
  use_usable (mask d ch m) o =
      rw (
        other 0 m.kind (omega arith),
        other 1 m.kind (omega arith),
        eq-eqb _ _ m.kind,
        drawable_passes d,
        name_passes d,
        channel_passes ch o,
        mask_follows_lem m,
      )
  use_usable (channel d ch v b) o =
      rw (
        other 0 v.kind (omega arith),
        other 1 v.kind (omega arith),
        other 2 v.kind (omega arith),
        eq-eqb _ _ v.kind,
        drawable_passes d,
        name_passes d,
        channel_passes ch o,
        channel_follows_lem v b,
      )
