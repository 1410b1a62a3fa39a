-- What the tests of a usable row say: that its name lies in the lent bytes (`name_inside`), facts by its kind (`row_use`), and then
-- each group of facts from the row's kind.
-- Assumes nothing.
use Prim.Native.Nat.{ℕ, zero, suc, ◌+◌, ◌*◌, ◌≤◌, ◌<◌}
use mathlib.Core.Path.{◌≡◌, refl}
use mathlib.Core.List.{List, [], ◌∷◌}
use mathlib.Core.Bool.{Bool, true, false, ◌||◌}
use native.Mathlib.Omega.{arith}
use borrow.Author.Tests.{ltb-true, leb-true, eqb-true, eq-eqb, ne_eqb}
use lib.Dec.{leb, ltb, eqb}
use lib.ListN.{length, get_or}
use Rattle.xcf_numbers.specs.Limit.{side_limit, depth_limit, written_type_limit, full_opacity, mode_limit, layer_limit, channel_limit, name_limit}
use Rattle.xcf_numbers.specs.Kind
use Rattle.xcf_numbers.specs.Flag
use Rattle.xcf_table.specs.declared.Row.{Row}
use Rattle.xcf_table.specs.Name.{Told}
use Rattle.xcf_table.specs.Table.{row_numbers, row_at}
use Rattle.xcf_grid.specs.Grid.{tile_count}
use Rattle.xcf_range.proofs.Bounds.{within_bounds}
use Rattle.xcf_table.specs.declared.canvas.Canvas.{Canvas}
use Rattle.xcf_table.specs.Canvas.{side_ok, type_ok, depth_of}
use Rattle.xcf_usable.specs.declared.seen.Seen.{Seen}
use Rattle.xcf_usable.specs.Usable.{is_layer, is_channel, visible, apply, selection, active, not_utf8, layer_flags_ok, channel_flags_ok, is_active_layer, is_active_channel, is_selection, row_before, seen_at, masked, no_second, drawable_ok, name_ok, layer_ok, layer_follows, channel_ok, mask_follows, channel_follows, all_zero, kind_ok, usable_row, usable}
use Rattle.xcf_usable.proofs.Each.{each}

-- what every used row has
pub record DrawableFacts (names : List ℕ) (r : Row) : Type 0 where
  pub wide : (1 ≤ r.width) × (r.width ≤ side_limit)
  pub high : (1 ≤ r.height) × (r.height ≤ side_limit)
  pub count : r.count ≡ tile_count r.width r.height
  pub opaque : r.opacity ≤ full_opacity
  pub short : r.namelen ≤ name_limit
  pub named : r.name + r.namelen ≤ length names
  pub told : Told names r
  pub list : r.list ≡ 0
  pub pointers : r.pointers ≡ 0
  pub deep : (1 ≤ r.depth) × (r.depth ≤ depth_limit)

-- a layer's numbers
pub record LayerFacts (c : Canvas) (k : ℕ) (r : Row) (has_mask : Bool) : Type 0 where
  pub kind : r.kind ≡ Kind.layer
  pub type : type_ok c.base r.form ≡ true
  pub form : r.form ≤ written_type_limit
  pub depth : r.depth ≡ depth_of r.form
  pub mode : r.mode ≤ mode_limit
  pub owner : r.owner ≡ k
  pub flags : r.flags ≡ visible r + Flag.apply * apply r + Flag.active * active r + Flag.not_utf8 * not_utf8 r
  pub applied : has_mask ≡ false → apply r ≡ 0

-- a mask's or channel's numbers
pub record ChannelFacts (r : Row) : Type 0 where
  pub depth : r.depth ≡ 1
  pub form : r.form ≡ 2
  pub mode : r.mode ≡ 0
  pub flags : r.flags ≡ visible r + Flag.selection * selection r + Flag.active * active r + Flag.not_utf8 * not_utf8 r

-- a mask behind its layer
pub record MaskFacts (k : ℕ) (o r : Row) : Type 0 where
  pub kind : r.kind ≡ Kind.mask
  pub layer : o.kind ≡ Kind.layer
  pub width : r.width ≡ o.width
  pub height : r.height ≡ o.height
  pub dx : r.dx ≡ o.dx
  pub dy : r.dy ≡ o.dy
  pub owner : r.owner + 1 ≡ k

-- a channel of the canvas
pub record CanvasFacts (c : Canvas) (k : ℕ) (r : Row) : Type 0 where
  pub kind : r.kind ≡ Kind.channel
  pub width : r.width ≡ c.width
  pub height : r.height ≡ c.height
  pub dx : r.dx ≡ 0
  pub dy : r.dy ≡ 0
  pub owner : r.owner ≡ k

-- what comes before a layer, and before a channel
pub record BeforeLayer (s : Seen) : Type 0 where
  pub few : s.layers < layer_limit
  pub channels : s.channels ≡ 0
  pub unused : s.unused ≡ 0

pub record BeforeChannel (s : Seen) : Type 0 where
  pub few : s.channels < channel_limit
  pub unused : s.unused ≡ 0

-- a usable row, by its kind
pub data Use (c : Canvas) (names : List ℕ) (k : ℕ) (s : Seen) (r : Row) (has_mask : Bool) : Type 0 where
  unused : r.kind ≡ Kind.unused → all_zero (row_numbers r) ≡ true → Use c names k s r has_mask
  layer : DrawableFacts names r → LayerFacts c k r has_mask → BeforeLayer s → Use c names k s r has_mask
  mask : DrawableFacts names r → ChannelFacts r → MaskFacts k s.row r → Use c names k s r has_mask
  channel : DrawableFacts names r → ChannelFacts r → CanvasFacts c k r → BeforeChannel s → Use c names k s r has_mask

depth_deep : (t : ℕ) → t ≤ 3 → (1 ≤ depth_of t) × (depth_of t ≤ 4)
unfolding depth_of
depth_deep zero h = omega arith
depth_deep (suc zero) h = omega arith
depth_deep (suc (suc zero)) h = omega arith
depth_deep (suc (suc (suc zero))) h = omega arith
depth_deep (suc (suc (suc (suc t)))) h = absurd (omega arith)

or_first : (a b : Bool) → a || b ≡ true → b ≡ false → a ≡ true
or_first true b e none = refl
or_first false b e none = rw none at e

-- the tests of any used row, where so many bytes are lent for names
abbrev drawable_tests : ℕ → Row → List Bool
drawable_tests names r =
    side_ok r.width ∷ side_ok r.height ∷ eqb r.count (tile_count r.width r.height) ∷ leb r.opacity full_opacity
    ∷ leb r.namelen name_limit ∷ leb (r.name + r.namelen) names ∷ eqb r.list 0 ∷ eqb r.pointers 0 ∷ []

drawable_tests_lem : (names : ℕ) (r : Row) → drawable_ok names r ≡ true → (i : ℕ) → get_or (drawable_tests names r) i true ≡ true
unfolding drawable_ok
drawable_tests_lem names r e = each (drawable_tests names r) e

-- a name lies in the lent bytes
pub name_inside : (names : ℕ) (r : Row) → drawable_ok names r ≡ true → r.name + r.namelen ≤ names
name_inside names r e = leb-true _ _ (drawable_tests_lem names r e 5)

drawable_says : (names : List ℕ) (r : Row)
    → drawable_ok (length names) r ≡ true → name_ok names r ≡ true → (1 ≤ r.depth) × (r.depth ≤ depth_limit) → DrawableFacts names r
unfolding side_ok name_ok
drawable_says names r e told deep =
    let t = drawable_tests_lem (length names) r e in
    record {
      wide = within_bounds 1 side_limit r.width (t 0);
      high = within_bounds 1 side_limit r.height (t 1);
      count = eqb-true _ _ (t 2);
      opaque = leb-true _ _ (t 3);
      short = leb-true _ _ (t 4);
      named = name_inside (length names) r e;
      told = eqb-true _ _ told;
      list = eqb-true _ _ (t 6);
      pointers = eqb-true _ _ (t 7);
      deep = deep;
    }

layer_says : (c : Canvas) (k : ℕ) (r : Row) (has_mask : Bool)
    → r.kind ≡ Kind.layer → layer_ok c k r has_mask ≡ true → LayerFacts c k r has_mask
unfolding layer_ok
layer_says c k r has_mask kind e =
    let t =
    each
    (type_ok c.base r.form ∷ leb r.form written_type_limit ∷ eqb r.depth (depth_of r.form) ∷ leb r.mode mode_limit ∷ eqb r.owner k
    ∷ layer_flags_ok r ∷ (eqb (apply r) 0 || has_mask) ∷ [])
    e in
    record {
      kind = kind;
      type = t 0;
      form = leb-true _ _ (t 1);
      depth = eqb-true _ _ (t 2);
      mode = leb-true _ _ (t 3);
      owner = eqb-true _ _ (t 4);
      flags = eqb-true _ _ (t 5);
      applied = λ none. eqb-true _ _ (or_first (eqb (apply r) 0) has_mask (t 6) none);
    }

before_layer_says : (s : Seen) (r : Row) → layer_follows s r ≡ true → BeforeLayer s
unfolding layer_follows
before_layer_says s r e =
    let t = each (ltb s.layers layer_limit ∷ eqb s.channels 0 ∷ eqb s.unused 0 ∷ no_second (is_active_layer r) s.current ∷ []) e in
    record { few = ltb-true _ _ (t 0); channels = eqb-true _ _ (t 1); unused = eqb-true _ _ (t 2) }

channel_says : (s : Seen) (r : Row) → channel_ok s r ≡ true → ChannelFacts r
unfolding channel_ok
channel_says s r e =
    let t =
    each
    (eqb r.depth 1 ∷ eqb r.form 2 ∷ eqb r.mode 0 ∷ channel_flags_ok r ∷ no_second (is_active_channel r) s.active
    ∷ no_second (is_selection r) s.selections ∷ [])
    e in
    record { depth = eqb-true _ _ (t 0); form = eqb-true _ _ (t 1); mode = eqb-true _ _ (t 2); flags = eqb-true _ _ (t 3) }

mask_says : (k : ℕ) (s : Seen) (r : Row) → r.kind ≡ Kind.mask → mask_follows k s r ≡ true → MaskFacts k s.row r
unfolding mask_follows
mask_says k s r kind e =
    let t =
    each
    (is_layer s.row ∷ eqb r.width s.row.width ∷ eqb r.height s.row.height ∷ eqb r.dx s.row.dx
    ∷ eqb r.dy s.row.dy ∷ eqb (r.owner + 1) k ∷ [])
    e in
    record {
      kind = kind;
      layer = eqb-true _ _ (t 0);
      width = eqb-true _ _ (t 1);
      height = eqb-true _ _ (t 2);
      dx = eqb-true _ _ (t 3);
      dy = eqb-true _ _ (t 4);
      owner = eqb-true _ _ (t 5);
    }

canvas_says : (c : Canvas) (k : ℕ) (s : Seen) (r : Row)
    → r.kind ≡ Kind.channel → channel_follows c k s r ≡ true → CanvasFacts c k r × BeforeChannel s
unfolding channel_follows
canvas_says c k s r kind e =
    let t =
    each
    (eqb r.width c.width ∷ eqb r.height c.height ∷ eqb r.dx 0 ∷ eqb r.dy 0 ∷ eqb r.owner k
    ∷ ltb s.channels channel_limit ∷ eqb s.unused 0 ∷ [])
    e in (
      record {
        kind = kind;
        width = eqb-true _ _ (t 0);
        height = eqb-true _ _ (t 1);
        dx = eqb-true _ _ (t 2);
        dy = eqb-true _ _ (t 3);
        owner = eqb-true _ _ (t 4);
      },
      record { few = ltb-true _ _ (t 5); unused = eqb-true _ _ (t 6) },
    )

-- a usable row
module _ (c : Canvas) (names : List ℕ) (k : ℕ) (s : Seen) (r : Row) (has_mask : Bool) (ok : usable_row c names k s r has_mask ≡ true) where
  -- where it is used, it passes the tests of any, of its name and of its kind
  pub used_tests : (r.kind ≡ Kind.unused → ⊥) → (drawable_ok (length names) r ≡ true) × (name_ok names r ≡ true) × (kind_ok c k s r has_mask ≡ true)
  unfolding usable_row
  used_tests used =
      let t = each (drawable_ok (length names) r ∷ name_ok names r ∷ kind_ok c k s r has_mask ∷ []) (rw (ne_eqb r.kind Kind.unused used) at ok) in
      (t 0, t 1, t 2)

  used_says : (r.kind ≡ Kind.unused → ⊥) → (1 ≤ r.depth) × (r.depth ≤ depth_limit) → DrawableFacts names r
  used_says used deep = let t = used_tests used in drawable_says names r t.0 t.1 deep

  row_says : Use c names k s r has_mask
  unfolding usable_row kind_ok
  row_says = go r.kind refl
    where
      used : {n : ℕ} → r.kind ≡ suc n → r.kind ≡ Kind.unused → ⊥
      used h z = omega arith

      passed : {n : ℕ} → r.kind ≡ suc n → kind_ok c k s r has_mask ≡ true
      passed h = (used_tests (used h)).2

      one_deep : r.depth ≡ 1 → (1 ≤ r.depth) × (r.depth ≤ depth_limit)
      one_deep h = omega arith

      go : (n : ℕ) → r.kind ≡ n → Use c names k s r has_mask
      go zero h = unused h (rw (eq-eqb r.kind Kind.unused h) at ok)
      go (suc zero) h =
          let t = each (layer_ok c k r has_mask ∷ layer_follows s r ∷ []) (rw (eq-eqb r.kind Kind.layer h) at (passed h)) in
          let l = layer_says c k r has_mask h (t 0) in
          layer (used_says (used h) (rw l.depth (depth_deep r.form l.form))) l (before_layer_says s r (t 1))
      go (suc (suc zero)) h =
          let t =
          each
          (channel_ok s r ∷ mask_follows k s r ∷ [])
          (rw (ne_eqb r.kind Kind.layer (λ z. omega arith), eq-eqb r.kind Kind.mask h) at (passed h)) in
          let ch = channel_says s r (t 0) in
          mask (used_says (used h) (one_deep ch.depth)) ch (mask_says k s r h (t 1))
      go (suc (suc (suc n))) h =
          let t =
          each
          (is_channel r ∷ channel_ok s r ∷ channel_follows c k s r ∷ [])
          (rw (ne_eqb r.kind Kind.layer (λ z. omega arith), ne_eqb r.kind Kind.mask (λ z. omega arith)) at (passed h)) in
          let ch = channel_says s r (t 1) in
          let v = canvas_says c k s r (eqb-true _ _ (t 0)) (t 2) in
          channel (used_says (used h) (one_deep ch.depth)) ch v.0 v.1

-- the facts of a kind from the row's kind
module _ {c : Canvas} {names : List ℕ} {k : ℕ} {s : Seen} {r : Row} {has_mask : Bool} where
  use_listed : Use c names k s r has_mask → r.kind ≤ 3
  use_listed (unused h z) = omega arith
  use_listed (layer d l b) = omega arith
  use_listed (mask d ch m) = omega arith
  use_listed (channel d ch v b) = omega arith

  use_drawable : Use c names k s r has_mask → (r.kind ≡ Kind.unused → ⊥) → DrawableFacts names r
  use_drawable (unused h z) used = absurd (used h)
  use_drawable (layer d l b) used = d
  use_drawable (mask d ch m) used = d
  use_drawable (channel d ch v b) used = d

  use_layer : Use c names k s r has_mask → r.kind ≡ Kind.layer → LayerFacts c k r has_mask × BeforeLayer s
  use_layer (unused h z) one = absurd (omega arith)
  use_layer (layer d l b) one = (l, b)
  use_layer (mask d ch m) one = absurd (omega arith)
  use_layer (channel d ch v b) one = absurd (omega arith)

  use_numbers : Use c names k s r has_mask → (r.kind ≡ Kind.unused → ⊥) → (r.kind ≡ Kind.layer → ⊥) → ChannelFacts r
  use_numbers (unused h z) used other = absurd (used h)
  use_numbers (layer d l b) used other = absurd (other l.kind)
  use_numbers (mask d ch m) used other = ch
  use_numbers (channel d ch v b) used other = ch

  use_mask : Use c names k s r has_mask → r.kind ≡ Kind.mask → MaskFacts k s.row r
  use_mask (unused h z) two = absurd (omega arith)
  use_mask (layer d l b) two = absurd (omega arith)
  use_mask (mask d ch m) two = m
  use_mask (channel d ch v b) two = absurd (omega arith)

  use_channel : Use c names k s r has_mask → r.kind ≡ Kind.channel → CanvasFacts c k r × BeforeChannel s
  use_channel (unused h z) three = absurd (omega arith)
  use_channel (layer d l b) three = absurd (omega arith)
  use_channel (mask d ch m) three = absurd (omega arith)
  use_channel (channel d ch v b) three = (v, b)

module _ (c : Canvas) (names table : List ℕ) (k : ℕ) (ok : usable c names table k ≡ true) where
  pub row_use : Use c names k (seen_at table k) (row_at table k) (masked table k)
  unfolding usable
  row_use = row_says c names k (seen_at table k) (row_at table k) (masked table k) ok

  pub kind_listed : (row_at table k).kind ≤ 3
  kind_listed = use_listed row_use

  pub drawable_facts : ((row_at table k).kind ≡ Kind.unused → ⊥) → DrawableFacts names (row_at table k)
  drawable_facts = use_drawable row_use

  pub layer_facts : (row_at table k).kind ≡ Kind.layer → LayerFacts c k (row_at table k) (masked table k)
  layer_facts one = (use_layer row_use one).0

  pub layer_before : (row_at table k).kind ≡ Kind.layer → BeforeLayer (seen_at table k)
  layer_before one = (use_layer row_use one).1

  pub channel_facts : ((row_at table k).kind ≡ Kind.unused → ⊥) → ((row_at table k).kind ≡ Kind.layer → ⊥) → ChannelFacts (row_at table k)
  channel_facts = use_numbers row_use

  pub mask_facts : (row_at table k).kind ≡ Kind.mask → MaskFacts k (row_before table k) (row_at table k)
  unfolding seen_at
  mask_facts = use_mask row_use

  pub canvas_facts : (row_at table k).kind ≡ Kind.channel → CanvasFacts c k (row_at table k)
  canvas_facts three = (use_channel row_use three).0

  pub channel_before : (row_at table k).kind ≡ Kind.channel → BeforeChannel (seen_at table k)
  channel_before three = (use_channel row_use three).1
