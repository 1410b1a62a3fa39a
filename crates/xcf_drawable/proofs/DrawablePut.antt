-- A drawable stored: its structure, hierarchy and level, each behind the one before (`drawable_put`), since the structure's length
-- does not depend on its pointers. There is room for each (`structure_room`, `hierarchy_room`, `level_space`), its length is its
-- parts' (`drawable_size_lem`), and the pointer to its mask is small (`mask_low`).
-- Assumes nothing.
use Prim.Native.Nat.{ℕ, ◌+◌, ◌≤◌}
use mathlib.Core.Path.{◌≡◌, refl}
use mathlib.Core.List.{List, [], ◌∷◌, ◌++◌, flatten}
use mathlib.Core.Bool.{Bool, true, false, cond}
use native.Mathlib.Omega.{arith}
use lib.ListN.{length}
use Rattle.xcf_numbers.specs.Limit.{file_limit}
use Rattle.xcf_table.specs.declared.Row.{Row}
use Rattle.xcf_store.specs.Put.{Put}
use Rattle.xcf_store.proofs.Stores.{put_append, put_length}
use Rattle.xcf_store.specs.Word.{words}
use Rattle.xcf_structure.specs.Structure.{structure_bytes, hierarchy_bytes, level_bytes}
use Rattle.xcf_drawable.specs.Drawable.{row_tiles, starts, level_size, structure_size, drawable_size, drawable_bytes, hierarchy_size}
use Rattle.xcf_drawable.specs.Parts.{Space, drawn}
use Rattle.xcf_store.proofs.Words.{words_length}
use Rattle.xcf_structure.proofs.StructureLength.{structure_length}

cond_most : (test : Bool) (n most : ℕ) → n ≤ most → cond test n 0 ≤ most
cond_most true n most h = h
cond_most false n most h = omega arith

-- a row's level where the tiles begin at p, and its tiles
abbrev level_at : Row → List ℕ → ℕ → List ℕ
level_at r pixels p = level_bytes r (starts (row_tiles r pixels) p) ++ flatten (row_tiles r pixels)

module _ (r : Row) (has_mask : Bool) (name pixels : List ℕ) where
  pub drawable_size_lem : drawable_size (drawn r has_mask name pixels)
      ≡ length (structure_bytes r has_mask name 0 0) + (hierarchy_size + (level_size r.count + length (flatten (row_tiles r pixels))))
  unfolding drawable_size structure_size
  drawable_size_lem = refl

  module _ {old : List ℕ} {to : ℕ} (s : Space old to (drawable_size (drawn r has_mask name pixels))) where
    pub mask_low : {mask : ℕ} → mask ≡ cond has_mask (to + drawable_size (drawn r has_mask name pixels)) 0 → mask ≤ file_limit
    mask_low e = rw e (cond_most has_mask _ file_limit s.low)

    pub structure_room : (hierarchy mask : ℕ) → to + length (structure_bytes r has_mask name hierarchy mask) ≤ length old
    structure_room hierarchy mask = omega (arith, structure_length r has_mask name hierarchy mask, drawable_size_lem, s.room)

    module _ {size : ℕ} (mask : ℕ) {hierarchy : ℕ} {mid : List ℕ} (e : size ≡ length (structure_bytes r has_mask name 0 0)) (p : Put old to (structure_bytes r has_mask name (to + size) mask) hierarchy mid) where
      hierarchy_place : hierarchy ≡ to + size
      hierarchy_place = omega (arith, p.behind, structure_length r has_mask name (to + size) mask, e)

      pub hierarchy_room : hierarchy + hierarchy_size ≤ length mid
      hierarchy_room = omega (arith, hierarchy_place, e, put_length p, drawable_size_lem, s.room)

      module _ {level : ℕ} {out : List ℕ} (q : Put mid hierarchy (words (r.width ∷ r.height ∷ r.depth ∷ (to + size + hierarchy_size) ∷ 0 ∷ [])) level out) where
        level_place : level ≡ to + size + hierarchy_size
        level_place = omega (arith, q.behind, hierarchy_place, words_length (r.width ∷ r.height ∷ r.depth ∷ (to + size + hierarchy_size) ∷ 0 ∷ []))

        pub level_space : Space out level (level_size r.count + length (flatten (row_tiles r pixels)))
        level_space = record {
          room = omega (arith, level_place, e, put_length q, put_length p, drawable_size_lem, s.room);
          low = omega (arith, level_place, e, drawable_size_lem, s.low);
        }

        pub drawable_put : {end : ℕ} {new : List ℕ} → mask ≡ cond has_mask (to + drawable_size (drawn r has_mask name pixels)) 0
            → Put out level (level_at r pixels (level + level_size r.count)) end new
            → Put old to (drawable_bytes (drawn r has_mask name pixels) to) end new
        unfolding drawable_bytes hierarchy_bytes structure_size
        drawable_put {end} {new} m l =
            let tiles = level + level_size r.count in
            let third : Put out level (level_at r pixels (to + size + hierarchy_size + level_size r.count)) end new = rw (← level_place) l in
            rw (← e, ← m) (put_append p (put_append q third))
