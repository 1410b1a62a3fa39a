-- A drawable as it is written is read back as its row, with its places in the file: a layer (`reads_layer`), a layer with its
-- mask (`reads_masked`), a channel (`reads_channel`). Its level and its tiles stand behind its structure (`level_stands`,
-- `tiles_stand`).
-- Assumes nothing.
use Prim.Native.Nat.{ℕ, zero, suc, ◌+◌, ◌*◌, ◌≤◌, ◌<◌}
use mathlib.Core.Path.{◌≡◌, refl, ap, sym, ◌∙◌}
use mathlib.Core.List.{List, ◌++◌, flatten}
use mathlib.Core.Bool.{Bool, true, false, cond}
use native.Mathlib.Omega.{arith}
use borrow.Author.Tests.{ne_eqb, eq-eqb}
use lib.Dec.{eqb}
use lib.ListN.{length}
use Rattle.std.proofs.lemmas.Bool.{cond_both}
use Rattle.xcf_numbers.specs.Flag
use Rattle.xcf_numbers.specs.Limit.{file_limit}
use Rattle.xcf_numbers.specs.Kind
use Rattle.xcf_store.specs.Pointer.{narrow}
use Rattle.xcf_store.specs.Word.{part}
use Rattle.xcf_table.specs.declared.Row.{Row}
use Rattle.xcf_table.specs.Table.{Rows, add_row}
use Rattle.xcf_table.specs.declared.canvas.Canvas.{Canvas}
use Rattle.xcf_utf8.specs.Utf8.{well_formed}
use Rattle.xcf_walk.specs.declared.cursor.Name.{Name}
use Rattle.xcf_parse.specs.declared.drawable.Layer.{Layer}
use Rattle.xcf_parse.specs.Hierarchy.{hierarchy}
use Rattle.xcf_table.specs.Canvas.{depth_of}
use Rattle.xcf_row.specs.Row.{flag, name_flag, layer_flags, channel_flags, layer_row, channel_row, mask_owner, channel_owner}
use Rattle.xcf_read.specs.Drawable.{channel_rows, mask_rows, layer_rows, canvas_channel_rows}
use Rattle.xcf_usable.specs.Usable.{visible, apply, selection, active, not_utf8}
use Rattle.xcf_usable.proofs.RowFacts.{LayerFacts, ChannelFacts, MaskFacts, CanvasFacts}
use Rattle.xcf_structure.specs.Structure.{structure_bytes}
use Rattle.xcf_drawable.specs.Drawable.{Drawable, tiles_of, drawable_size, drawable_bytes}
use Rattle.xcf_drawable.specs.Parts.{Writable}
use Rattle.xcf_drawable.proofs.DrawableLength.{tiles_counted, starts_length, hierarchy_at, level_at, tiles_at, mask_at, structure_of, hierarchy_of, level_of, structure_size_lem, hierarchy_size_lem, level_size_lem, drawable_length}
use Rattle.xcf_round_trip.proofs.Parts.{Stands, Gives, properties_of, sides_size, read_row}
use Rattle.xcf_round_trip.proofs.Stands.{stands_front, stands_behind}
use Rattle.xcf_round_trip.proofs.Steps.{reads_gives, gives_reads, then, ends, ends_as, reads_jump}
use Rattle.xcf_round_trip.proofs.NameRead.{name_stands}
use Rattle.xcf_round_trip.proofs.PropertiesRead.{Listed}
use Rattle.xcf_round_trip.proofs.HierarchyRead.{reads_hierarchy}
use Rattle.xcf_round_trip.proofs.StructureRead.{sides_length, sides_of, fields_of, layer_of, owner_of, reads_layer_structure, reads_channel_structure}
use Rattle.xcf_round_trip.proofs.TilesRise.{tiles_rise}

-- each stands behind the one before
module _ {f : List ℕ} {p : ℕ} (d : Drawable) (s : Stands f p (drawable_bytes d p)) where
  structure_stands : Stands f p (structure_of d p)
  unfolding drawable_bytes
  structure_stands = stands_front _ _ s

  -- the name's bytes are where the row says
  pub name_at_lem : part f (p + sides_size d.row + 4) (length d.name) ≡ d.name
  unfolding structure_bytes
  name_at_lem = name_stands d.name (stands_front _ _ (rw sides_length at (stands_behind (sides_of d.row) _ structure_stands)))

  behind_structure : Stands f (hierarchy_at d p) (hierarchy_of d p ++ (level_of d p ++ flatten (tiles_of d)))
  unfolding drawable_bytes
  behind_structure = rw structure_size_lem at (stands_behind (structure_of d p) _ s)

  behind_hierarchy : Stands f (level_at d p) (level_of d p ++ flatten (tiles_of d))
  behind_hierarchy = rw hierarchy_size_lem at (stands_behind (hierarchy_of d p) _ behind_structure)

  pub level_stands : Stands f (level_at d p) (level_of d p)
  level_stands = stands_front (level_of d p) _ behind_hierarchy

  pub tiles_stand : Stands f (tiles_at d p) (flatten (tiles_of d))
  tiles_stand = rw level_size_lem at (stands_behind (level_of d p) _ behind_hierarchy)

-- a flag that is 0 or 1; a layer applies no mask where it has none
flag_of_lem : (v bit : ℕ) → v < 2 → flag v bit ≡ v * bit
unfolding flag
flag_of_lem zero bit h = omega arith
flag_of_lem (suc zero) bit h = omega arith
flag_of_lem (suc (suc v)) bit h = absurd (omega arith)

applied : (has_mask : Bool) (place v : ℕ) → 0 < place → (has_mask ≡ false → v ≡ 0)
    → cond (eqb (cond has_mask place 0) 0) 0 (cond has_mask v 1) ≡ v
applied true place v some none = rw (ne_eqb place 0 (λ e. omega arith))
applied false place v some none = sym (none refl)

-- the flag of a name that the row tells
name_flag_lem : (r : Row) (name : Name) → not_utf8 r ≡ cond name.utf8 0 1 → name_flag name ≡ not_utf8 r * Flag.not_utf8
unfolding name_flag
name_flag_lem r name told = rw told (go name.utf8)
  where
    go : (t : Bool) → cond t 0 Flag.not_utf8 ≡ cond t 0 1 * Flag.not_utf8
    go true = refl
    go false = refl

layer_flags_lem : {c : Canvas} {k : ℕ} (r : Row) (has_mask : Bool) (name : Name) (place : ℕ) → LayerFacts c k r has_mask
    → not_utf8 r ≡ cond name.utf8 0 1 → 0 < place
    → layer_flags (properties_of r has_mask) (cond has_mask place 0) name ≡ r.flags
unfolding layer_flags
layer_flags_lem r has_mask name place facts told some =
    let seen = flag_of_lem (visible r) Flag.visible (omega arith) in
    let used = flag_of_lem (apply r) Flag.apply (omega arith) in
    let chosen = flag_of_lem (active r) Flag.active (omega arith) in
    let group = flag_of_lem 0 Flag.group (omega arith) in
    let named = name_flag_lem r name told in
    rw (applied has_mask place (apply r) some facts.applied) (omega (arith, facts.flags))

channel_flags_lem : (r : Row) (has_mask : Bool) (name : Name) → ChannelFacts r → not_utf8 r ≡ cond name.utf8 0 1
    → channel_flags (properties_of r has_mask) name ≡ r.flags
unfolding channel_flags
channel_flags_lem r has_mask name facts told =
    let seen = flag_of_lem (visible r) Flag.visible (omega arith) in
    let selected = flag_of_lem (selection r) Flag.selection (omega arith) in
    let chosen = flag_of_lem (active r) Flag.active (omega arith) in
    let named = name_flag_lem r name told in
    omega (arith, facts.flags)

-- a drawable's name as it is read
abbrev name_at : Drawable → ℕ → Name
name_at d p = (fields_of d (p + sides_size d.row) (hierarchy_at d p)).name

-- a drawable that is a layer
abbrev layer_at : Drawable → ℕ → Layer
layer_at d p = layer_of d p (hierarchy_at d p) (mask_at d p)

-- a drawable that can be written, whose list of properties can be read, and whose flag tells what its name is
pub record Readable (d : Drawable) : Type 0 where
  pub writable : Writable d
  pub listed : Listed d.row
  pub told : not_utf8 d.row ≡ cond (well_formed d.name) 0 1

module _ {f : List ℕ} {p : ℕ} (d : Drawable) (x : Readable d) (small : length f ≤ file_limit) (some : 0 < p)
    (s : Stands f p (drawable_bytes d p)) where
  abbrev w : Writable d
  w = x.writable

  hierarchy_low : hierarchy_at d p < 4294967296
  hierarchy_low = omega (arith, (behind_structure d s).inside)

  mask_low : mask_at d p < 4294967296
  mask_low =
      let room = rw (drawable_length d p) at s.inside in
      cond_both d.has_mask _ _ (λ (n : ℕ). n < 4294967296) (λ _. omega arith) (λ _. omega arith)

  reads_levels : (depth : ℕ) → d.row.depth ≡ depth
      → Gives (hierarchy 4 d.row.width d.row.height depth) f (hierarchy_at d p) (level_at d p + 8)
  reads_levels depth same =
      let rise = tiles_rise d (tiles_at d p) (length f) w (omega arith) (tiles_stand d s).inside in
      let range = w.drawn.range in
      let count = starts_length (tiles_of d) (tiles_at d p) ∙ tiles_counted d ∙ range.count in
      let inside : level_at d p ≤ length f = omega (arith, (level_stands d s).inside) in
      rw (← same)
      (reads_hierarchy d.row (level_at d p) _ small range.wide.1 range.high.1 range.deep.1 count rise (omega arith) inside
      (stands_front (hierarchy_of d p) _ (behind_structure d s)) (level_stands d s))

  -- a mask or channel
  module _ (facts : ChannelFacts d.row) (other : d.row.kind ≡ Kind.layer → ⊥) where
    channel_row_lem : channel_row (owner_of d.row) (fields_of d (p + sides_size d.row) (hierarchy_at d p)) (level_at d p + 8)
        ≡ read_row d p
    unfolding channel_row read_row
    channel_row_lem = rw (channel_flags_lem d.row d.has_mask (name_at d p) facts x.told, facts.depth, facts.form, facts.mode, w.drawn.range.count, w.named)

    reads_owned : (rows : Rows) → Gives (channel_rows narrow (owner_of d.row) rows) f p (add_row rows (read_row d p))
    unfolding channel_rows
    reads_owned rows =
        let isnt = ne_eqb d.row.kind Kind.layer other in
        let structure =
        reads_channel_structure d w x.listed _ (omega arith) hierarchy_low (mask_at d p) (structure_stands d s) isnt in
        reads_gives
        (then _ (gives_reads structure) (then _ (reads_jump (hierarchy_at d p))
        (then _ (gives_reads (reads_levels 1 facts.depth)) (ends_as (ap (add_row rows) channel_row_lem)))))

  -- a layer, and whatever its mask gives
  module _ (c : Canvas) (rows : Rows) (facts : LayerFacts c rows.count d.row d.has_mask) where
    layer_row_lem : layer_row (layer_at d p) (level_at d p + 8) rows.count ≡ read_row d p
    unfolding layer_row read_row
    layer_row_lem =
        let flags = layer_flags_lem d.row d.has_mask (name_at d p) (p + drawable_size d) facts x.told (omega arith) in
        rw (flags, facts.kind, facts.depth, facts.owner, w.drawn.range.count, w.named)

    reads_layered : {all : Rows} → ((q : ℕ) → Gives (mask_rows narrow (layer_at d p) rows.count (add_row rows (read_row d p))) f q all)
        → Gives (layer_rows narrow c rows) f p all
    unfolding layer_rows
    reads_layered mask =
        let structure =
        reads_layer_structure d w x.listed _ (omega arith) hierarchy_low (mask_at d p) (structure_stands d s)
        c.base facts.kind facts.type facts.form mask_low in
        let levels = reads_levels (depth_of d.row.form) facts.depth in
        reads_gives
        (then _ (gives_reads structure) (then _ (reads_jump (hierarchy_at d p)) (then _ (gives_reads levels)
        (gives_reads (rw (← layer_row_lem) at (mask levels.end))))))

-- a layer's mask, or none
no_mask : {f : List ℕ} {q : ℕ} (x : Layer) (k : ℕ) (rows : Rows) → x.mask ≡ 0 → Gives (mask_rows narrow x k rows) f q rows
unfolding mask_rows
no_mask x k rows none = rw (eq-eqb x.mask 0 none) (reads_gives ends)

mask_next : {f : List ℕ} {q place : ℕ} (x : Layer) (k : ℕ) (rows : Rows) {all : Rows} → x.mask ≡ place → 0 < place
    → Gives (channel_rows narrow (mask_owner x k) rows) f place all → Gives (mask_rows narrow x k rows) f q all
unfolding mask_rows
mask_next x k rows at some mask =
    rw (ne_eqb x.mask 0 (λ e. omega arith)) (reads_gives (then _ (reads_jump x.mask) (gives_reads (rw (← at) at mask))))

-- whose a mask is, and a channel
mask_owner_lem : (d m : Drawable) (p k : ℕ) → MaskFacts (k + 1) d.row m.row → mask_owner (layer_at d p) k ≡ owner_of m.row
unfolding mask_owner
mask_owner_lem d m p k facts =
    let owner : m.row.owner ≡ k = omega (arith, facts.owner) in
    rw (facts.kind, facts.width, facts.height, facts.dx, facts.dy, facts.layer, owner)

canvas_owner : (c : Canvas) (k : ℕ) (r : Row) → CanvasFacts c k r → channel_owner c k ≡ owner_of r
unfolding channel_owner
canvas_owner c k r facts = rw (facts.kind, facts.width, facts.height, facts.dx, facts.dy, facts.owner)

module _ {f : List ℕ} {p : ℕ} (small : length f ≤ file_limit) (some : 0 < p) (c : Canvas) (rows : Rows) (d : Drawable)
    (x : Readable d) (s : Stands f p (drawable_bytes d p)) where
  pub reads_layer : LayerFacts c rows.count d.row d.has_mask → d.has_mask ≡ false
      → Gives (layer_rows narrow c rows) f p (add_row rows (read_row d p))
  reads_layer facts unmasked =
      reads_layered d x small some s c rows facts (λ q. no_mask (layer_at d p) rows.count _ (rw unmasked))

  pub reads_masked : LayerFacts c rows.count d.row d.has_mask → d.has_mask ≡ true → (m : Drawable) → Readable m
      → Stands f (p + drawable_size d) (drawable_bytes m (p + drawable_size d)) → ChannelFacts m.row
      → MaskFacts (rows.count + 1) d.row m.row
      → Gives (layer_rows narrow c rows) f p (add_row (add_row rows (read_row d p)) (read_row m (p + drawable_size d)))
  reads_masked facts masked m y t numbers mask =
      let place : mask_at d p ≡ p + drawable_size d = rw masked in
      let owned =
      reads_owned m y small (omega arith) t numbers (λ z. absurd (omega (arith, mask.kind))) (add_row rows (read_row d p)) in
      reads_layered d x small some s c rows facts
      (λ q. mask_next (layer_at d p) rows.count _ place (omega arith) (rw (← mask_owner_lem d m p rows.count mask) at owned))

  pub reads_channel : ChannelFacts d.row → CanvasFacts c rows.count d.row
      → Gives (canvas_channel_rows narrow c rows) f p (add_row rows (read_row d p))
  unfolding canvas_channel_rows
  reads_channel facts canvas =
      rw (canvas_owner c rows.count d.row canvas)
      (reads_owned d x small some s facts (λ z. absurd (omega (arith, canvas.kind))) rows)
