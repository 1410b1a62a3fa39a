-- Six parts one behind the other, and what each leaves is room for the others: `list_words`.
use Prim.Native.Nat.{ℕ, ◌+◌, ◌≤◌}
use mathlib.Core.Path.{◌≡◌, ◌∙◌}
use mathlib.Core.List.{List, [], ◌∷◌}
use mathlib.Core.Bool.{Bool}
use native.Mathlib.Omega.{arith}
use lib.ListN.{length, length-append}
use Rattle.xcf_numbers.specs.Flag
use Rattle.xcf_numbers.specs.Flag.{flag_set}
use Rattle.xcf_numbers.specs.PropertyType
use Rattle.xcf_property.specs.Property.{active_type}
use Rattle.xcf_table.specs.declared.Row.{Row}
use Rattle.xcf_usable.specs.Usable.{is_layer, visible, apply}
use Rattle.xcf_store.specs.Word.{words, when}
use Rattle.xcf_store.specs.Put.{Put}
use Rattle.xcf_store.proofs.Words.{words_length}
use Rattle.xcf_structure.specs.Structure.{list_bytes, drawable_properties}
use Rattle.xcf_structure.proofs.Lists.{end_on, layer_on, apply_on, shown_on, active_on, selection_on, list_words, active_of}
use Rattle.xcf_structure.proofs.PartsStored.{PartsLeft, parts_first, parts_next}
use Rattle.xcf_structure.proofs.Structure.put_list.Goals as goal

-- what is left of the list, before its first part and behind each
abbrev Left : List ℕ → ℕ → Row → Bool → List ℕ → ℕ → List ℕ → Type 0
Left old to row masked rest next output = PartsLeft old to (list_bytes (drawable_properties row masked)) rest next output

module _ {old : List ℕ} {to : ℕ} (row : Row) (masked : Bool) where
  selection_left : to + length (list_bytes (drawable_properties row masked)) ≤ length old → Left old to row masked (selection_on row masked) to old
  selection_left room = parts_first (list_words row masked) room

  module _ {next behind : ℕ} {output new : List ℕ} where
    active_left : {test : Bool} → test ≡ flag_set row.flags Flag.selection
        → Put output next (words (when test (PropertyType.selection ∷ 0 ∷ []))) behind new
        → Left old to row masked (selection_on row masked) next output → Left old to row masked (active_on row masked) behind new
    active_left e p g = parts_next (rw e at p) g

    shown_left : {test : Bool} {kind : ℕ} → test ≡ flag_set row.flags Flag.active → kind ≡ active_type row.kind
        → Put output next (words (when test (kind ∷ 0 ∷ []))) behind new
        → Left old to row masked (active_on row masked) next output → Left old to row masked (shown_on row masked) behind new
    shown_left e k p g = parts_next (rw (e, k) at p) g

    apply_left : {flag : ℕ} → flag ≡ visible row
        → Put output next (words (PropertyType.opacity ∷ 4 ∷ row.opacity ∷ PropertyType.visible ∷ 4 ∷ flag ∷ [])) behind new
        → Left old to row masked (shown_on row masked) next output → Left old to row masked (apply_on row masked) behind new
    apply_left e p g = parts_next (rw e at p) g

    layer_left : {flag : ℕ} → flag ≡ apply row → Put output next (words (when masked (PropertyType.apply ∷ 4 ∷ flag ∷ []))) behind new
        → Left old to row masked (apply_on row masked) next output → Left old to row masked (layer_on row masked) behind new
    layer_left e p g = parts_next {rest = layer_on row masked} (rw e at p) g

    end_left : Put output next (words (when (is_layer row) (PropertyType.mode ∷ 4 ∷ row.mode ∷ PropertyType.offsets ∷ 8 ∷ row.dx ∷ row.dy ∷ []))) behind new
        → Left old to row masked (layer_on row masked) next output → Left old to row masked (end_on row masked) behind new
    end_left p g = parts_next p g

pub words_when-requires : goal.words_when-requires
words_when-requires c =
    let a = c.args in
    let selection = selection_left a.self.now.row a.self.now.masked c.requires in
    rw c.flag_set-selection.ensures (omega (arith, rw length-append at selection.fits.room))

pub words_when-requires-2 : goal.words_when-requires-2
words_when-requires-2 c =
    let a = c.args in
    let selection = selection_left a.self.now.row a.self.now.masked c.requires in
    let active = active_left a.self.now.row a.self.now.masked c.flag_set-selection.ensures c.words_when.ensures.stores selection in
    rw (c.active_type.ensures, active_of c.from.ensures, c.flag_set-active.ensures) (omega (arith, rw length-append at active.fits.room))

pub words-requires : goal.words-requires
words-requires c =
    let a = c.args in
    let selection = selection_left a.self.now.row a.self.now.masked c.requires in
    let active = active_left a.self.now.row a.self.now.masked c.flag_set-selection.ensures c.words_when.ensures.stores selection in
    let shown = shown_left a.self.now.row a.self.now.masked c.flag_set-active.ensures (c.active_type.ensures ∙ active_of c.from.ensures) c.words_when-2.ensures.stores active in
    omega (arith, rw (length-append, words_length) at shown.fits.room)

pub words_when-requires-3 : goal.words_when-requires-3
words_when-requires-3 c =
    let a = c.args in
    let selection = selection_left a.self.now.row a.self.now.masked c.requires in
    let active = active_left a.self.now.row a.self.now.masked c.flag_set-selection.ensures c.words_when.ensures.stores selection in
    let shown = shown_left a.self.now.row a.self.now.masked c.flag_set-active.ensures (c.active_type.ensures ∙ active_of c.from.ensures) c.words_when-2.ensures.stores active in
    let apply = apply_left a.self.now.row a.self.now.masked c.flag_of.ensures c.words.ensures.stores shown in
    rw c.flag_of-2.ensures (omega (arith, rw length-append at apply.fits.room))

pub words_when-requires-4 : goal.words_when-requires-4
words_when-requires-4 c =
    let a = c.args in
    let selection = selection_left a.self.now.row a.self.now.masked c.requires in
    let active = active_left a.self.now.row a.self.now.masked c.flag_set-selection.ensures c.words_when.ensures.stores selection in
    let shown = shown_left a.self.now.row a.self.now.masked c.flag_set-active.ensures (c.active_type.ensures ∙ active_of c.from.ensures) c.words_when-2.ensures.stores active in
    let apply = apply_left a.self.now.row a.self.now.masked c.flag_of.ensures c.words.ensures.stores shown in
    let layer = layer_left a.self.now.row a.self.now.masked c.flag_of-2.ensures c.words_when-3.ensures.stores apply in
    omega (arith, rw length-append at layer.fits.room)

pub words-requires-2 : goal.words-requires-2
words-requires-2 c =
    let a = c.args in
    let selection = selection_left a.self.now.row a.self.now.masked c.requires in
    let active = active_left a.self.now.row a.self.now.masked c.flag_set-selection.ensures c.words_when.ensures.stores selection in
    let shown = shown_left a.self.now.row a.self.now.masked c.flag_set-active.ensures (c.active_type.ensures ∙ active_of c.from.ensures) c.words_when-2.ensures.stores active in
    let apply = apply_left a.self.now.row a.self.now.masked c.flag_of.ensures c.words.ensures.stores shown in
    let layer = layer_left a.self.now.row a.self.now.masked c.flag_of-2.ensures c.words_when-3.ensures.stores apply in
    let end = end_left a.self.now.row a.self.now.masked c.words_when-4.ensures.stores layer in
    rw words_length at end.fits.room

pub returns-clause-stores : goal.returns-clause-stores
returns-clause-stores c =
    let a = c.args in
    let selection = selection_left a.self.now.row a.self.now.masked c.requires in
    let active = active_left a.self.now.row a.self.now.masked c.flag_set-selection.ensures c.words_when.ensures.stores selection in
    let shown = shown_left a.self.now.row a.self.now.masked c.flag_set-active.ensures (c.active_type.ensures ∙ active_of c.from.ensures) c.words_when-2.ensures.stores active in
    let apply = apply_left a.self.now.row a.self.now.masked c.flag_of.ensures c.words.ensures.stores shown in
    let layer = layer_left a.self.now.row a.self.now.masked c.flag_of-2.ensures c.words_when-3.ensures.stores apply in
    let end = end_left a.self.now.row a.self.now.masked c.words_when-4.ensures.stores layer in
    end.whole _ _ c.words-2.ensures.stores
