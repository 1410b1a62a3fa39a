-- A name that stands in a file is read as its place, its length and whether it is well-formed, and its bytes stand at that place.
-- Assumes nothing.
use Prim.Native.Nat.{ℕ, suc, ◌+◌, ◌-◌, ◌<◌}
use mathlib.Core.Path.{◌≡◌, refl}
use mathlib.Core.List.{List, [], ◌∷◌, ◌++◌}
use native.Mathlib.Omega.{arith}
use borrow.Author.Tests.{ne_eqb}
use lib.ListN.{length, get_or, take, length-append}
use lib.Seq.{get_or-append_seam, take-append_seam}
use Rattle.xcf_numbers.specs.Refusal
use Rattle.xcf_store.specs.Word.{part, word_bytes}
use Rattle.xcf_utf8.specs.Utf8.{well_formed}
use Rattle.xcf_walk.specs.Fields.{word, string}
use Rattle.xcf_structure.specs.Structure.{name_bytes}
use Rattle.xcf_round_trip.proofs.Parts.{Stands}
use Rattle.xcf_round_trip.proofs.Stands.{stands_front, stands_behind}
use Rattle.xcf_round_trip.proofs.Steps.{ReadsTo, then, then_here, ends, reads_bytes, reads_must}
use Rattle.xcf_round_trip.proofs.WordsRead.{reads_word}

-- a length word and so many bytes, the last of them zero
reads_string : {f : List ℕ} {p : ℕ} (bs : List ℕ) → length bs < 4294967296 → get_or bs (length bs - 1) 0 ≡ 0
    → Stands f p (word_bytes (length bs) ++ bs)
    → ReadsTo string f p (record { place = p + 4; length = length bs - 1; utf8 = well_formed (take (length bs - 1) bs) })
    (p + length (word_bytes (length bs) ++ bs))
unfolding word string word_bytes
reads_string {f} {p} bs small zero s =
    let end : p + 4 + length bs ≡ p + length (word_bytes (length bs) ++ bs) = omega arith in
    rw (← end)
    (then_here _ (then _ (reads_word (length bs) small (stands_front (word_bytes (length bs)) bs s))
    (then_here _ (then _ (reads_bytes bs (stands_behind (word_bytes (length bs)) bs s))
    (then _ (reads_must _ Refusal.unended_string p (rw zero)) ends)))))

-- a name that is not empty: its length is counted with the zero behind it
name_bytes_lem : (b : ℕ) (bs : List ℕ) → name_bytes (b ∷ bs) ≡ word_bytes (length (b ∷ bs ++ (0 ∷ []))) ++ (b ∷ bs ++ (0 ∷ []))
unfolding name_bytes
name_bytes_lem b bs = rw (ne_eqb (suc (length bs)) 0 (omega arith), length-append)

pub reads_name : {f : List ℕ} {p : ℕ} (name : List ℕ) → length name < 4294967295 → Stands f p (name_bytes name)
    → ReadsTo string f p (record { place = p + 4; length = length name; utf8 = well_formed name }) (p + length (name_bytes name))
unfolding name_bytes word_bytes
reads_name [] small s = reads_string [] (omega arith) refl s
reads_name (b ∷ bs) small s =
    let long = length-append bs (0 ∷ []) in
    let size : length (b ∷ bs ++ (0 ∷ [])) - 1 ≡ suc (length bs) = omega arith in
    let front : take (length (b ∷ bs ++ (0 ∷ [])) - 1) (b ∷ bs ++ (0 ∷ [])) ≡ b ∷ bs = rw size (take-append_seam (b ∷ bs) (0 ∷ [])) in
    rw (name_bytes_lem, ← size, ← front)
    (reads_string (b ∷ bs ++ (0 ∷ [])) (omega arith) (rw size (get_or-append_seam bs 0 [] 0)) (rw name_bytes_lem at s))

pub name_stands : {f : List ℕ} {p : ℕ} (name : List ℕ) → Stands f p (name_bytes name) → part f (p + 4) (length name) ≡ name
unfolding word_bytes
name_stands [] s = refl
name_stands (b ∷ bs) s = (stands_front (b ∷ bs) (0 ∷ []) (stands_behind (word_bytes _) _ (rw name_bytes_lem at s))).same
