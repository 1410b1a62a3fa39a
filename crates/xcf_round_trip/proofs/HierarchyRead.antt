-- A hierarchy and its level as they are written are read back: the walk gives the place of the first tile pointer
-- (`reads_hierarchy`).
-- Assumes nothing.
use Prim.Native.Nat.{ℕ, ◌+◌, ◌≤◌, ◌<◌}
use mathlib.Core.Path.{◌≡◌, refl}
use mathlib.Core.List.{List, [], ◌∷◌, ◌++◌}
use native.Mathlib.Omega.{arith}
use borrow.Author.Tests.{lt-ltb, eq-eqb, ne_eqb}
use lib.Dec.{eqb}
use lib.ListN.{length}
use Rattle.xcf_numbers.specs.Limit.{file_limit, side_limit, depth_limit}
use Rattle.xcf_numbers.specs.Refusal
use Rattle.xcf_store.specs.Pointer.{narrow}
use Rattle.xcf_walk.specs.Walk.{turns, loop}
use Rattle.xcf_walk.specs.Fields.{word}
use Rattle.xcf_table.specs.declared.Row.{Row}
use Rattle.xcf_grid.specs.Grid.{tile_count}
use Rattle.xcf_parse.specs.Hierarchy.{agrees, pointer, rest_turn, rest, hierarchy}
use Rattle.xcf_walk.specs.Pointers.{tiles}
use Rattle.xcf_store.specs.Word.{words}
use Rattle.xcf_structure.specs.Structure.{hierarchy_bytes, level_bytes}
use Rattle.xcf_round_trip.proofs.Parts.{Stands, Gives, Rises}
use Rattle.xcf_round_trip.proofs.Steps.{ReadsTo, reads_gives, gives_reads, then, then_here, then_length, ends, reads_must, reads_jump}
use Rattle.xcf_round_trip.proofs.WordsRead.{words_rest, reads_number}

-- the first of some words: one that has to be n, and a pointer
module _ {f : List ℕ} {p : ℕ} (n : ℕ) (ns : List ℕ) (low : n < 4294967296) (s : Stands f p (words (n ∷ ns))) where
  pub reads_agrees : ReadsTo (agrees n) f p tt (p + 4)
  unfolding agrees word
  reads_agrees = then_here _ (then _ (reads_number n ns s low) (reads_must (eqb n n) Refusal.disagrees p (eq-eqb n n refl)))

  pub reads_pointer : 0 < n → ReadsTo (pointer narrow) f p n (p + 4)
  unfolding pointer
  reads_pointer some =
      then_here _ (then _ (reads_number n ns s low) (then _ (reads_must _ Refusal.no_pointer p (rw (ne_eqb n 0 (λ e. omega arith)))) ends))

-- a 0 where further pointers could stand
reads_rest : {f : List ℕ} {p : ℕ} → Stands f p (words (0 ∷ [])) → ReadsTo (rest narrow) f p tt (p + 4)
unfolding rest loop turns rest_turn
reads_rest s = then_length _ (then _ (then _ (reads_number 0 [] s (omega arith)) ends) ends)

-- tile pointers that rise
pub reads_tiles : {f : List ℕ} {p : ℕ} (before : ℕ) (ps : List ℕ) → length f ≤ file_limit → Rises before ps (length f)
    → Stands f p (words (ps ++ (0 ∷ []))) → Gives (tiles narrow (length ps) before) f p tt
unfolding tiles Rises
reads_tiles before [] small rise s =
    reads_gives (then_here _ (then _ (reads_number 0 [] s (omega arith)) (reads_must _ Refusal.bad_tile_pointer _ refl)))
reads_tiles {f} {p} before (q ∷ ps) small rise s =
    let low : q < 4294967296 = omega (arith, rise.1.0) in
    let next = reads_tiles {p = p + 4} q ps small rise.1.1 (words_rest q (ps ++ (0 ∷ [])) s) in
    reads_gives
    (then_here _ (then_length _ (then _ (reads_number q (ps ++ (0 ∷ [])) s low)
    (then _ (reads_must _ Refusal.bad_tile_pointer p (rw (lt-ltb before q rise.0, lt-ltb q (length f) rise.1.0))) (gives_reads next)))))

-- a hierarchy at p and its level
pub reads_hierarchy : {f : List ℕ} {p : ℕ} (r : Row) (level : ℕ) (ps : List ℕ) → length f ≤ file_limit
    → r.width ≤ side_limit → r.height ≤ side_limit → r.depth ≤ depth_limit → length ps ≡ tile_count r.width r.height → Rises 0 ps (length f)
    → 0 < level → level ≤ length f → Stands f p (hierarchy_bytes r level) → Stands f level (level_bytes r ps)
    → Gives (hierarchy 4 r.width r.height r.depth) f p (level + 8)
unfolding hierarchy hierarchy_bytes level_bytes
reads_hierarchy r level ps small wide high deep count rise some inside s t =
    let s₁ = words_rest _ _ s in
    let s₂ = words_rest _ _ s₁ in
    let s₃ = words_rest _ _ s₂ in
    let t₁ = words_rest _ _ t in
    let pointers = rw count at (reads_tiles 0 ps small rise (words_rest _ _ t₁)) in
    let at : level + 4 + 4 ≡ level + 8 = omega arith in
    rw (← at)
    (reads_gives
    (then _ (reads_agrees _ _ (omega arith) s) (then _ (reads_agrees _ _ (omega arith) s₁)
    (then _ (reads_agrees _ _ (omega arith) s₂) (then _ (reads_pointer _ _ (omega arith) s₃ some)
    (then _ (reads_rest (words_rest _ _ s₃)) (then _ (reads_jump level)
    (then _ (reads_agrees _ _ (omega arith) t) (then _ (reads_agrees _ _ (omega arith) t₁)
    (then_here _ (then _ (gives_reads pointers) ends)))))))))))
