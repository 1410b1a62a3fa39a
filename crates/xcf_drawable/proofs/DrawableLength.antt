-- How long the parts of a drawable are, whatever their pointers: as many tiles as its row counts (`tiles_counted`), a pointer for each
-- (`starts_length`), and all of it as long as its size says (`drawable_length`).
-- Assumes nothing.
use Prim.Native.Nat.{ℕ, zero, suc, ◌+◌}
use mathlib.Core.Path.{◌≡◌, refl, ap}
use mathlib.Core.List.{List, [], ◌∷◌}
use mathlib.Core.Bool.{cond}
use native.Mathlib.Omega.{arith}
use lib.ListN.{length, length-append}
use Rattle.xcf_table.specs.declared.Row.{Row}
use Rattle.xcf_structure.specs.Structure.{structure_bytes, hierarchy_bytes, level_bytes}
use Rattle.xcf_drawable.specs.Drawable.{Drawable, encodings, tiles_of, starts, structure_size, hierarchy_size, level_size, drawable_size, drawable_bytes}
use Rattle.xcf_store.proofs.Words.{words_length}
use Rattle.xcf_structure.proofs.StructureLength.{structure_length}

pub encodings_count : (n t : ℕ) (r : Row) (pixels : List ℕ) → length (encodings n t r pixels) ≡ n
unfolding encodings
encodings_count zero t r pixels = refl
encodings_count (suc n) t r pixels = ap suc (encodings_count n (t + 1) r pixels)

pub tiles_counted : (d : Drawable) → length (tiles_of d) ≡ d.row.count
tiles_counted d = encodings_count _ 0 _ _

pub starts_length : (xss : List (List ℕ)) (p : ℕ) → length (starts xss p) ≡ length xss
unfolding starts
starts_length [] p = refl
starts_length (xs ∷ xss) p = ap suc (starts_length xss (p + length xs))

-- a drawable's places: where its hierarchy, its level and its tiles stand, and what is written as its mask's pointer
abbrev pub hierarchy_at : Drawable → ℕ → ℕ
hierarchy_at d p = p + structure_size d

abbrev pub level_at : Drawable → ℕ → ℕ
level_at d p = hierarchy_at d p + hierarchy_size

abbrev pub tiles_at : Drawable → ℕ → ℕ
tiles_at d p = level_at d p + level_size d.row.count

abbrev pub mask_at : Drawable → ℕ → ℕ
mask_at d p = cond d.has_mask (p + drawable_size d) 0

-- its parts
abbrev pub structure_of : Drawable → ℕ → List ℕ
structure_of d p = structure_bytes d.row d.has_mask d.name (hierarchy_at d p) (mask_at d p)

abbrev pub hierarchy_of : Drawable → ℕ → List ℕ
hierarchy_of d p = hierarchy_bytes d.row (level_at d p)

abbrev pub level_of : Drawable → ℕ → List ℕ
level_of d p = level_bytes d.row (starts (tiles_of d) (tiles_at d p))

-- their lengths
pub structure_size_lem : (d : Drawable) (p : ℕ) → length (structure_of d p) ≡ structure_size d
unfolding structure_size
structure_size_lem d p = structure_length d.row d.has_mask d.name (hierarchy_at d p) (mask_at d p)

pub hierarchy_size_lem : (d : Drawable) (p : ℕ) → length (hierarchy_of d p) ≡ hierarchy_size
unfolding hierarchy_bytes
hierarchy_size_lem d p = words_length _

pub level_size_lem : (d : Drawable) (p : ℕ) → length (level_of d p) ≡ level_size d.row.count
unfolding level_bytes
level_size_lem d p = rw (words_length, length-append, starts_length, tiles_counted) (omega arith)

pub drawable_length : (d : Drawable) (p : ℕ) → length (drawable_bytes d p) ≡ drawable_size d
unfolding drawable_bytes drawable_size
drawable_length d p = simp (length-append, structure_size_lem, hierarchy_size_lem, level_size_lem)
