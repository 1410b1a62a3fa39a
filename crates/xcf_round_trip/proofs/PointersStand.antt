-- The tile pointers of a drawable that stands in a file: they stand at the place that its row is read back with
-- (`pointers_stand`), are its tiles' starts (`pointed`), and the walk over them is taken (`walked`).
-- Assumes nothing.
use Prim.Native.Nat.{ℕ, ◌+◌, ◌≤◌, ◌<◌}
use mathlib.Core.Path.{◌≡◌, ◌∙◌}
use mathlib.Core.List.{List, [], ◌∷◌, ◌++◌}
use native.Mathlib.Omega.{arith}
use lib.ListN.{length}
use Rattle.xcf_numbers.specs.Limit.{file_limit}
use Rattle.xcf_walk.specs.Pointers.{tiles}
use Rattle.xcf_store.specs.Pointer.{narrow}
use Rattle.xcf_window.specs.Window.{pointer_at}
use Rattle.xcf_store.specs.Word.{words}
use Rattle.xcf_structure.specs.Structure.{level_bytes}
use Rattle.xcf_drawable.specs.Drawable.{Drawable, tiles_of, starts, drawable_bytes}
use Rattle.xcf_drawable.specs.Parts.{Writable}
use Rattle.xcf_drawable.proofs.DrawableLength.{tiles_counted, starts_length, level_at, tiles_at}
use Rattle.xcf_round_trip.proofs.Parts.{Stands, Gives, Rises, read_row}
use Rattle.xcf_round_trip.proofs.WordsRead.{words_rest}
use Rattle.xcf_round_trip.proofs.HierarchyRead.{reads_tiles}
use Rattle.xcf_round_trip.proofs.TilesRise.{tiles_rise}
use Rattle.xcf_round_trip.proofs.DrawableRead.{level_stands, tiles_stand}
use Rattle.xcf_round_trip.proofs.WindowRead.{Pointed, pointer_read}

-- where each tile of a drawable at p stands
abbrev starts_of : Drawable → ℕ → List ℕ
starts_of d p = starts (tiles_of d) (tiles_at d p)

starts_counted : (d : Drawable) (p : ℕ) → length (starts_of d p) ≡ d.row.count
starts_counted d p = starts_length (tiles_of d) _ ∙ tiles_counted d

module _ {f : List ℕ} {p : ℕ} (d : Drawable) (s : Stands f p (drawable_bytes d p)) where
  pointers_stand : Stands f (read_row d p).pointers (words (starts_of d p ++ (0 ∷ [])))
  unfolding level_bytes read_row
  pointers_stand =
      let ps = starts_of d p ++ (0 ∷ []) in
      let e : level_at d p + 4 + 4 ≡ level_at d p + 8 = omega arith in
      rw e at (words_rest d.row.height ps (words_rest d.row.width (d.row.height ∷ ps) (level_stands d s)))

  module _ (fine : Writable d) (small : length f ≤ file_limit) (some : 0 < p) where
    starts_rise : Rises 0 (starts_of d p) (length f)
    starts_rise = tiles_rise d (tiles_at d p) (length f) fine (omega arith) (tiles_stand d s).inside

    pub pointed : Pointed narrow f (read_row d p) (tiles_of d) (tiles_at d p)
    unfolding pointer_at read_row
    pointed = record {
      all = tiles_counted d;
      pointers = λ t below. pointer_read 0 _ small starts_rise pointers_stand t (rw starts_counted below);
      stands = tiles_stand d s;
    }

    pub walked : Gives (tiles narrow (read_row d p).count 0) f (read_row d p).pointers tt
    unfolding read_row
    walked = rw starts_counted at (reads_tiles 0 (starts_of d p) small starts_rise pointers_stand)
