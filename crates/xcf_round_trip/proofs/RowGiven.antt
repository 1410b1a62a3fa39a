-- A row that is the reader's but for its places, and has what the writer asks of each row, has the facts of its kind: a layer's row
-- (`layer_drawn`, `layer_fits`), a mask's or channel's (`channel_drawn`, `channel_fits`), a mask's behind its layer's
-- (`mask_fits`), a channel's of the canvas (`canvas_fits`), an unused one (`unused_fits`).
-- Assumes nothing.
use Prim.Native.Nat.{ℕ, ◌+◌}
use mathlib.Core.Path.{◌≡◌, refl, sym, subst, ◌∙◌}
use mathlib.Core.List.{List}
use mathlib.Core.Bool.{Bool, true, false}
use native.Mathlib.Omega.{arith}
use Rattle.xcf_table.specs.declared.Row.{Row}
use Rattle.xcf_table.specs.Table.{row_numbers, unused_row}
use Rattle.xcf_table.specs.declared.canvas.Canvas.{Canvas}
use Rattle.xcf_parse.specs.declared.drawable.Fields.{Fields}
use Rattle.xcf_parse.specs.declared.drawable.Layer.{Layer}
use Rattle.xcf_parse.specs.declared.drawable.Owner.{Owner}
use Rattle.xcf_row.specs.Row.{layer_row, channel_row, mask_owner, channel_owner}
use Rattle.xcf_usable.specs.Usable.{all_zero}
use Rattle.xcf_usable.proofs.RowFacts.{DrawableFacts, LayerFacts, ChannelFacts, MaskFacts, CanvasFacts}
use Rattle.xcf_round_trip.specs.RoundTrip.{with_places}
use Rattle.xcf_round_trip.specs.Taken.{RowExcepted}
use Rattle.xcf_round_trip.proofs.StructureGiven.{LayerGiven, ChannelGiven}
use Rattle.xcf_round_trip.proofs.FlagsGiven.{layer_flags_lem, unmasked_flags, channel_flags_lem}

-- the row r is s but for its places
abbrev pub Like : Row → Row → Type 0
Like r s = r ≡ with_places s r.name r.list r.pointers

like_says : (P : Row → Type 0) {r : Row} (s : Row) → Like r s → P (with_places s r.name r.list r.pointers) → P r
like_says P s e = subst P (sym e)

module _ (names : List ℕ) (r : Row) (excepted : RowExcepted names r) where
  module _ (x : Layer) (tiles k : ℕ) (like : Like r (layer_row x tiles k)) (c : Canvas) (given : LayerGiven c.base x) where
    pub layer_drawn : DrawableFacts names r
    unfolding layer_row
    layer_drawn =
        let a = subst (RowExcepted names) like excepted in
        like_says (DrawableFacts names) (layer_row x tiles k) like (record {
          wide = given.range.width;
          high = given.range.height;
          count = refl;
          opaque = given.opaque;
          short = a.short;
          named = a.named;
          told = a.told;
          list = a.list;
          pointers = a.pointers;
          deep = given.range.depth;
        })

    pub layer_fits : (has_mask : Bool) → (has_mask ≡ false → x.mask ≡ 0) → LayerFacts c k r has_mask
    unfolding layer_row
    layer_fits has_mask alone =
        let a = subst (RowExcepted names) like excepted in
        like_says (λ q. LayerFacts c k q has_mask) (layer_row x tiles k) like (record {
          kind = refl;
          type = given.type;
          form = a.form;
          depth = refl;
          mode = a.mode;
          owner = refl;
          flags = layer_flags_lem x.fields.properties x.fields.name x.mask a.ungrouped;
          applied = λ none. unmasked_flags x.fields.properties x.fields.name x.mask (alone none);
        })

  module _ (o : Owner) (y : Fields) (tiles : ℕ) (like : Like r (channel_row o y tiles)) where
    pub channel_drawn : ChannelGiven o y → DrawableFacts names r
    unfolding channel_row
    channel_drawn given =
        let a = subst (RowExcepted names) like excepted in
        like_says (DrawableFacts names) (channel_row o y tiles) like (record {
          wide = given.width;
          high = given.height;
          count = refl;
          opaque = given.opaque;
          short = a.short;
          named = a.named;
          told = a.told;
          list = a.list;
          pointers = a.pointers;
          deep = omega arith;
        })

pub channel_fits : (r : Row) (o : Owner) (y : Fields) (tiles : ℕ) → Like r (channel_row o y tiles) → ChannelFacts r
unfolding channel_row
channel_fits r o y tiles like =
    like_says ChannelFacts (channel_row o y tiles) like
    (record { depth = refl; form = refl; mode = refl; flags = channel_flags_lem y.properties y.name })

pub mask_fits : (q r : Row) (x : Layer) (y : Fields) (tiles others k : ℕ) → Like q (layer_row x others k)
    → Like r (channel_row (mask_owner x k) y tiles) → MaskFacts (k + 1) q r
unfolding layer_row channel_row mask_owner
mask_fits q r x y tiles others k above like =
    like_says (λ a. MaskFacts (k + 1) a r) (layer_row x others k) above
    (like_says (MaskFacts (k + 1) _) (channel_row (mask_owner x k) y tiles) like
    (record { kind = refl; layer = refl; width = refl; height = refl; dx = refl; dy = refl; owner = refl }))

pub canvas_fits : (r : Row) (c : Canvas) (k : ℕ) (y : Fields) (tiles : ℕ) → Like r (channel_row (channel_owner c k) y tiles)
    → CanvasFacts c k r
unfolding channel_row channel_owner
canvas_fits r c k y tiles like =
    like_says (CanvasFacts c k) (channel_row (channel_owner c k) y tiles) like
    (record { kind = refl; width = refl; height = refl; dx = refl; dy = refl; owner = refl })

pub unused_fits : (names : List ℕ) (r : Row) → RowExcepted names r → Like r unused_row → r.name ≡ 0 → all_zero (row_numbers r) ≡ true
unfolding all_zero
unused_fits names r excepted like unnamed =
    let e : r ≡ unused_row = like ∙ rw (unnamed, excepted.list, excepted.pointers) in
    subst (λ (q : Row). all_zero (row_numbers q) ≡ true) (sym e) refl
