-- The pointers to drawables: those of a kind rise and lie in the file (`places_rise`), and a list of pointers that rise, closed
-- by a zero, is read back (`reads_pointers`).
-- Assumes nothing.
use Prim.Native.Nat.{ℕ, zero, suc, ◌+◌, ◌≤◌, ◌<◌}
use mathlib.Core.Path.{◌≡◌, refl}
use mathlib.Core.List.{List, [], ◌∷◌, ◌++◌, flat_map}
use mathlib.Core.Bool.{Bool, true, false}
use native.Mathlib.Omega.{arith}
use borrow.Author.Tests.{ne_eqb}
use lib.Dec.{eqb}
use lib.ListN.{length, length-append}
use Rattle.xcf_numbers.specs.Refusal
use Rattle.xcf_store.specs.Pointer.{narrow}
use Rattle.xcf_walk.specs.Pointers.{pointers}
use Rattle.xcf_store.specs.Word.{word_bytes, words, when}
use Rattle.xcf_drawable.specs.Drawable.{Drawable, drawable_size, drawable_bytes}
use Rattle.xcf_body.specs.Rows.{drawables_bytes, places_from}
use Rattle.xcf_image.specs.Image.{kind_places}
use Rattle.xcf_drawable.proofs.DrawableLength.{drawable_length}
use Rattle.xcf_round_trip.proofs.Parts.{Stands, Rises, places_of}
use Rattle.xcf_round_trip.proofs.Steps.{ReadsTo, then, then_here, ends, reads_must}
use Rattle.xcf_round_trip.proofs.WordsRead.{words_rest, reads_number}

-- pointers as they are written, closed by a zero
abbrev pub closed : List ℕ → List ℕ
closed ps = words (ps ++ (0 ∷ []))

pub reads_pointers : {f : List ℕ} {p : ℕ} (most before end : ℕ) (ps : List ℕ) → end ≤ 4294967296 → Rises before ps end
    → length ps ≤ most → Stands f p (closed ps) → ReadsTo (pointers narrow most) f p ps (p + length (closed ps))
unfolding pointers flat_map word_bytes Rises
reads_pointers zero before end [] low rise few s =
    then_here _ (then _ (reads_number 0 [] s (omega arith)) (then _ (reads_must _ Refusal.too_many _ refl) ends))
reads_pointers zero before end (q ∷ ps) low rise few s = absurd (omega arith)
reads_pointers (suc most) before end [] low rise few s = then _ (reads_number 0 [] s (omega arith)) ends
reads_pointers {f} {p} (suc most) before end (q ∷ ps) low rise few s =
    let place : p + 4 + length (closed ps) ≡ p + length (closed (q ∷ ps)) = omega arith in
    let rest = reads_pointers {p = p + 4} most q end ps low rise.1.1 (omega arith) (words_rest q (ps ++ (0 ∷ [])) s) in
    rw (← place)
    (then _ (reads_number q (ps ++ (0 ∷ [])) s (omega arith))
    (rw (ne_eqb q 0 (λ z. absurd (omega arith))) (then _ rest ends)))

drawable_some : (d : Drawable) → 0 < drawable_size d
unfolding drawable_size
drawable_some d = omega arith

-- a place in front of pointers that rise, or not
rise_when : (t : Bool) (before p end : ℕ) (ps : List ℕ) → before < p → p < end → Rises p ps end → Rises before ps end
    → Rises before (when t (p ∷ []) ++ ps) end
unfolding Rises
rise_when true before p end ps h low here behind = (h, (low, here))
rise_when false before p end ps h low here behind = behind

pub places_rise : (kind : ℕ) (ds : List Drawable) (before p end : ℕ) → before < p
    → p + length (drawables_bytes ds p) ≤ end → Rises before (places_of kind ds p) end
unfolding Rises kind_places places_from drawables_bytes
places_rise kind [] before p end h low = tt
places_rise kind (d ∷ ds) before p end h low =
    let next = p + drawable_size d in
    let some = drawable_some d in
    let whole = length-append (drawable_bytes d p) (drawables_bytes ds next) in
    let inside : next + length (drawables_bytes ds next) ≤ end = omega (arith, drawable_length d p) in
    rise_when (eqb d.row.kind kind) before p end _ h (omega arith)
    (places_rise kind ds p next end (omega arith) inside)
    (places_rise kind ds before next end (omega arith) inside)
