-- The numbers of the reader's refusals (RULES, "Numbers"): structure by structure, from the numbers of its fields.
-- Assumes nothing.
use Prim.Native.Nat.{ℕ, zero, suc, ◌≤◌}
use mathlib.Core.Path.{◌≡◌, refl}
use mathlib.Core.List.{List, [], ◌∷◌}
use mathlib.Core.Bool.{true}
use native.Mathlib.Omega.{arith}
use lib.Dec.{eqb}
use Rattle.xcf_numbers.specs.Limit.{layer_limit, channel_limit}
use Rattle.xcf_numbers.specs.Refusal
use Rattle.xcf_numbers.specs.Version
use Rattle.xcf_numbers.specs.Listed.{listed}
use Rattle.xcf_walk.specs.Walk.{Walk, refused, run}
use Rattle.xcf_walk.specs.Fields.{number, word, string}
use Rattle.xcf_property.specs.declared.Properties.{Properties}
use Rattle.xcf_walk.specs.Property.{payload, colour_map, content, property, property_turn, properties}
use Rattle.xcf_walk.specs.Pointers.{pointers, tiles}
use Rattle.xcf_property.specs.Property.{is_colour_map}
use Rattle.xcf_store.proofs.Sizes.{some_bytes}
use Rattle.xcf_read_laws.proofs.Versions.{version_sized}
use Rattle.xcf_walk.proofs.Advances.{advances_first, advances_number, advances_property_turn}
use Rattle.xcf_walk.proofs.Straight.{straight_done, straight_bind, straight_number}
use Rattle.xcf_walk_laws.proofs.Refusals.{Refuses, refuses_done, refuses_here, refuses_length, refuses_jump, refuses_must, refuses_bytes, refuses_bind, refuses_cond, refuses_loop}
use Rattle.xcf_table.specs.Table.{Rows}
use Rattle.xcf_table.specs.declared.canvas.Canvas.{Canvas}
use Rattle.xcf_parse.specs.declared.drawable.Layer.{Layer}
use Rattle.xcf_parse.specs.declared.drawable.Owner.{Owner}
use Rattle.xcf_parse.specs.Header.{header}
use Rattle.xcf_parse.specs.Hierarchy.{agrees, pointer, rest_turn, rest, hierarchy}
use Rattle.xcf_parse.specs.Drawable.{side, side_like, layer_type, fields, layer, channel}
use Rattle.xcf_read.specs.Drawable.{channel_rows, mask_rows, layer_rows, canvas_channel_rows}
use Rattle.xcf_parse.specs.Image.{base_type, precision, head}
use Rattle.xcf_read.specs.Image.{drawables, all_rows, image}
use Rattle.xcf_read.specs.Answer.{refusals}

abbrev pub Numbered : {A : Type 0} → Walk A → Type 0
Numbered w = Refuses (λ n. listed refusals n ≡ true) w

numbered_number : (size : ℕ) → Numbered (number size)
unfolding number listed
numbered_number size = refuses_bind _ (refuses_bytes size refl) λ b. refuses_done

numbered_word : Numbered word
unfolding word
numbered_word = numbered_number 4

numbered_string : Numbered string
unfolding string listed
numbered_string =
    refuses_bind _ refuses_here λ at. refuses_bind _ numbered_word λ n. refuses_bind _ refuses_here λ place.
    refuses_bind _ (refuses_bytes n refl) λ b. refuses_bind _ (refuses_must _ Refusal.unended_string at refl) λ _. refuses_done

numbered_payload : (size kind at n : ℕ) → Numbered (payload size kind at n)
unfolding payload listed
numbered_payload size kind at n = refuses_bind _ (refuses_must _ Refusal.bad_length at refl) λ _. refuses_bind _ (refuses_bytes n refl) λ b. refuses_done

numbered_colour_map : (at n : ℕ) → Numbered (colour_map at n)
unfolding colour_map listed
numbered_colour_map at n =
    refuses_bind _ (refuses_must _ Refusal.bad_length at refl) λ _. refuses_bind _ refuses_here λ here. refuses_bind _ numbered_word λ count.
    refuses_bind _ (refuses_must _ Refusal.bad_content here refl) λ _. refuses_bind _ (refuses_must _ Refusal.bad_length at refl) λ _. refuses_bind _ (refuses_bytes _ refl) λ b. refuses_done

numbered_property : (size owner : ℕ) → Numbered (property size owner)
unfolding property content
numbered_property size owner =
    refuses_bind _ refuses_here λ start. refuses_bind _ numbered_word λ kind. refuses_bind _ refuses_here λ at. refuses_bind _ numbered_word λ n.
    refuses_bind _ refuses_here λ place. refuses_bind _ (refuses_cond (is_colour_map owner kind) (numbered_colour_map at n) (numbered_payload size kind at n)) λ c. refuses_done

numbered_property_turn : (size owner : ℕ) (p : Properties) → Numbered (property_turn size owner p)
unfolding property_turn listed
numbered_property_turn size owner p =
    refuses_bind _ (numbered_property size owner) λ x. refuses_bind _ (refuses_must _ Refusal.floating _ refl) λ _. refuses_bind _ (refuses_must _ Refusal.bad_content _ refl) λ _.
    refuses_bind _ (refuses_must _ Refusal.bad_content _ refl) λ _. refuses_done

numbered_properties : (size owner unmapped : ℕ) → Numbered (properties size owner unmapped)
unfolding properties
numbered_properties size owner unmapped = refuses_loop (property_turn size owner) (numbered_property_turn size owner) (advances_property_turn size owner) _

numbered_header : Numbered header
unfolding header listed
numbered_header =
    refuses_bind _ refuses_here λ start. refuses_bind _ (refuses_bytes 9 refl) λ m. refuses_bind _ (refuses_must _ Refusal.not_xcf start refl) λ _.
    refuses_bind _ refuses_here λ at. refuses_bind _ (refuses_bytes 5 refl) λ t. refuses_bind _ (refuses_must _ Refusal.bad_version at refl) λ _. refuses_done

numbered_agrees : (v : ℕ) → Numbered (agrees v)
unfolding agrees listed
numbered_agrees v = refuses_bind _ refuses_here λ at. refuses_bind _ numbered_word λ n. refuses_must _ Refusal.disagrees at refl

numbered_pointer : (size : ℕ) → Numbered (pointer size)
unfolding pointer listed
numbered_pointer size =
    refuses_bind _ refuses_here λ at. refuses_bind _ (numbered_number size) λ p. refuses_bind _ (refuses_must _ Refusal.no_pointer at refl) λ _. refuses_done

numbered_rest : (size : ℕ) → 1 ≤ size → Numbered (rest size)
unfolding rest rest_turn
numbered_rest size some =
    refuses_loop (rest_turn size)
    (λ u. refuses_bind _ (numbered_number size) λ p. refuses_done)
    (λ u. advances_first (number size) _ (straight_bind _ (straight_number size) λ p. straight_done) (advances_number size some)) tt

pub numbered_tiles : (size n before : ℕ) → Numbered (tiles size n before)
unfolding tiles listed
numbered_tiles size zero before = refuses_bind _ refuses_here λ at. refuses_bind _ (numbered_number size) λ p. refuses_must _ Refusal.bad_tile_pointer at refl
numbered_tiles size (suc n) before =
    refuses_bind _ refuses_here λ at. refuses_bind _ refuses_length λ end. refuses_bind _ (numbered_number size) λ p.
    refuses_bind _ (refuses_must _ Refusal.bad_tile_pointer at refl) λ _. numbered_tiles size n p

numbered_hierarchy : (size : ℕ) → 1 ≤ size → (width height depth : ℕ) → Numbered (hierarchy size width height depth)
unfolding hierarchy
numbered_hierarchy size some width height depth =
    refuses_bind _ (numbered_agrees width) λ _. refuses_bind _ (numbered_agrees height) λ _. refuses_bind _ (numbered_agrees depth) λ _.
    refuses_bind _ (numbered_pointer size) λ level. refuses_bind _ (numbered_rest size some) λ _. refuses_bind _ (refuses_jump level) λ _.
    refuses_bind _ (numbered_agrees width) λ _. refuses_bind _ (numbered_agrees height) λ _. refuses_bind _ refuses_here λ place.
    refuses_bind _ (numbered_tiles size _ 0) λ _. refuses_done

numbered_side : Numbered side
unfolding side listed
numbered_side = refuses_bind _ refuses_here λ at. refuses_bind _ numbered_word λ n. refuses_bind _ (refuses_must _ Refusal.bad_side at refl) λ _. refuses_done

numbered_side_like : (v : ℕ) → Numbered (side_like v)
unfolding side_like listed
numbered_side_like v = refuses_bind _ refuses_here λ at. refuses_bind _ numbered_side λ n. refuses_must _ Refusal.disagrees at refl

numbered_layer_type : (base : ℕ) → Numbered (layer_type base)
unfolding layer_type listed
numbered_layer_type base =
    refuses_bind _ refuses_here λ at. refuses_bind _ numbered_word λ t. refuses_bind _ (refuses_must _ Refusal.disagrees at refl) λ _. refuses_done

numbered_fields : (size kind : ℕ) → Numbered (fields size kind)
unfolding fields
numbered_fields size kind =
    refuses_bind _ numbered_string λ name. refuses_bind _ refuses_here λ list. refuses_bind _ (numbered_properties size kind 0) λ p.
    refuses_bind _ (numbered_pointer size) λ h. refuses_done

numbered_layer : (size base : ℕ) → Numbered (layer size base)
unfolding layer
numbered_layer size base =
    refuses_bind _ numbered_side λ width. refuses_bind _ numbered_side λ height. refuses_bind _ (numbered_layer_type base) λ form.
    refuses_bind _ (numbered_fields size 1) λ x. refuses_bind _ (numbered_number size) λ mask. refuses_done

numbered_channel_rows : (size : ℕ) → 1 ≤ size → (o : Owner) (rows : Rows) → Numbered (channel_rows size o rows)
unfolding channel_rows channel
numbered_channel_rows size some o rows =
    refuses_bind _ (refuses_bind _ (numbered_side_like _) λ _. refuses_bind _ (numbered_side_like _) λ _. numbered_fields size _) λ x.
    refuses_bind _ (refuses_jump _) λ _. refuses_bind _ (numbered_hierarchy size some _ _ 1) λ tiles. refuses_done

numbered_mask_rows : (size : ℕ) → 1 ≤ size → (x : Layer) (k : ℕ) (rows : Rows) → Numbered (mask_rows size x k rows)
unfolding mask_rows
numbered_mask_rows size some x k rows = refuses_cond (eqb x.mask 0) refuses_done (refuses_bind _ (refuses_jump _) λ _. numbered_channel_rows size some _ rows)

numbered_layer_rows : (size : ℕ) → 1 ≤ size → (c : Canvas) (rows : Rows) → Numbered (layer_rows size c rows)
unfolding layer_rows
numbered_layer_rows size some c rows =
    refuses_bind _ (numbered_layer size _) λ x. refuses_bind _ (refuses_jump _) λ _. refuses_bind _ (numbered_hierarchy size some _ _ _) λ tiles. numbered_mask_rows size some x _ _

numbered_drawables : (one : Rows → Walk Rows) → ((rows : Rows) → Numbered (one rows)) → (ps : List ℕ) (rows : Rows) → Numbered (drawables one ps rows)
unfolding drawables
numbered_drawables one h [] rows = refuses_done
numbered_drawables one h (p ∷ ps) rows =
    refuses_bind _ (refuses_jump p) λ _. refuses_bind _ (h rows) λ next. numbered_drawables one h ps next

numbered_pointers : (size most : ℕ) → Numbered (pointers size most)
unfolding pointers listed
numbered_pointers size zero =
    refuses_bind _ refuses_here λ at. refuses_bind _ (numbered_number size) λ p. refuses_bind _ (refuses_must _ Refusal.too_many at refl) λ _. refuses_done
numbered_pointers size (suc most) =
    refuses_bind _ (numbered_number size) λ p. refuses_cond (eqb p 0) refuses_done (refuses_bind _ (numbered_pointers size most) λ ps. refuses_done)

numbered_base_type : (version : ℕ) → Numbered (base_type version)
unfolding base_type listed
numbered_base_type version =
    refuses_bind _ refuses_here λ at. refuses_bind _ numbered_word λ base. refuses_bind _ (refuses_must _ Refusal.bad_base at refl) λ _. refuses_done

numbered_precision : (version : ℕ) → Numbered (precision version)
unfolding precision listed
numbered_precision version =
    refuses_cond (eqb version Version.wide)
    (refuses_bind _ refuses_here λ at. refuses_bind _ numbered_word λ n. refuses_must _ Refusal.bad_precision at refl) refuses_done

numbered_head : Numbered head
unfolding head
numbered_head =
    refuses_bind _ numbered_header λ version. refuses_bind _ numbered_side λ width. refuses_bind _ numbered_side λ height.
    refuses_bind _ (numbered_base_type version) λ base. refuses_bind _ (numbered_precision version) λ _.
    refuses_bind _ (numbered_properties _ 0 _) λ p. refuses_done

numbered_all_rows : (size : ℕ) → 1 ≤ size → (c : Canvas) → Numbered (all_rows size c)
unfolding all_rows canvas_channel_rows
numbered_all_rows size some c =
    refuses_bind _ (numbered_pointers size layer_limit) λ layers. refuses_bind _ (numbered_pointers size channel_limit) λ channels.
    refuses_bind _ (numbered_drawables _ (numbered_layer_rows size some _) layers _) λ first.
    numbered_drawables _ (λ rows. numbered_channel_rows size some _ rows) channels first

numbered_image : Numbered image
unfolding image
numbered_image =
    refuses_bind _ numbered_head λ h. refuses_bind _ (numbered_all_rows _ (omega (arith, (some_bytes (version_sized h.version)).0)) _) λ rows. refuses_done

pub refusals_listed : (f : List ℕ) (n p : ℕ) → refused n p ≡ run image f 0 → listed refusals n ≡ true
refusals_listed f n p e = numbered_image.number f 0 e
