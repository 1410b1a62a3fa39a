-- What the steps of the round trip's proof say of a drawable in a file.
use Prim.Native.Nat.{ℕ, ◌+◌, ◌≤◌, ◌<◌}
use mathlib.Core.Path.{◌≡◌}
use mathlib.Core.List.{List, [], ◌∷◌}
use mathlib.Core.Bool.{Bool, cond}
use lib.ListN.{length}
use Rattle.xcf_walk.specs.Walk.{Walk, got, run}
use Rattle.xcf_store.specs.Word.{part}
use Rattle.xcf_property.specs.declared.Properties.{Properties}
use Rattle.xcf_table.specs.declared.Row.{Row}
use Rattle.xcf_table.specs.Table.{Rows, add_row}
use Rattle.xcf_usable.specs.Usable.{is_layer, visible, apply, selection, active}
use Rattle.xcf_structure.specs.Structure.{name_bytes}
use Rattle.xcf_drawable.specs.Drawable.{Drawable, structure_size, hierarchy_size, drawable_size}
use Rattle.xcf_image.specs.Image.{kind_places}
use Rattle.xcf_body.specs.Rows.{places_from}
use Rattle.xcf_write.specs.File.{rows_of}
use Rattle.xcf_round_trip.specs.RoundTrip.{with_places}

-- the bytes bs stand in the file f from the place p on
pub record Stands (f : List ℕ) (p : ℕ) (bs : List ℕ) : Type 0 where
  pub inside : p + length bs ≤ length f
  pub same : part f p (length bs) ≡ bs

-- a walk from the place p on gives the value a
pub record Gives {A : Type 0} (w : Walk A) (f : List ℕ) (p : ℕ) (a : A) : Type 0 where
  pub end : ℕ
  pub gives : run w f p ≡ got a end

-- pointers that rise from before on, all below the file's end
unfoldable pub Rises : ℕ → List ℕ → ℕ → Type 0
Rises before [] end = Unit {0}
Rises before (p ∷ ps) end = (before < p) × ((p < end) × Rises p ps end)

-- the places of the drawables of a kind, where the first is at p
abbrev pub places_of : ℕ → List Drawable → ℕ → List ℕ
places_of kind ds p = kind_places kind (rows_of ds) (places_from ds p)

-- what a drawable's list of properties says
abbrev pub properties_of : Row → Bool → Properties
properties_of r has_mask = record {
  compression = 0;
  unmapped = 0;
  opacity = r.opacity;
  mode = cond (is_layer r) r.mode 0;
  visible = visible r;
  apply = cond has_mask (apply r) 1;
  dx = cond (is_layer r) r.dx 0;
  dy = cond (is_layer r) r.dy 0;
  active = active r;
  selection = selection r;
  group = 0;
}

-- the length of a structure's words before its name
abbrev pub sides_size : Row → ℕ
sides_size r = cond (is_layer r) 12 8

-- the row of a drawable that stands at p, as it is read back
unfoldable pub read_row : Drawable → ℕ → Row
read_row d p =
    with_places d.row (p + sides_size d.row + 4) (p + sides_size d.row + length (name_bytes d.name))
    (p + structure_size d + hierarchy_size + 8)

-- the rows so far, and behind them those of drawables that stand one behind the other from p on
unfoldable pub add_all : Rows → List Drawable → ℕ → Rows
add_all rows [] p = rows
add_all rows (d ∷ ds) p = add_all (add_row rows (read_row d p)) ds (p + drawable_size d)
