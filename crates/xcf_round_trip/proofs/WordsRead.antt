-- Words that stand in a file are read as the numbers that they were written from.
-- Assumes nothing.
use Prim.Native.Nat.{ℕ, ◌+◌, ◌/◌, ◌<◌}
use mathlib.Core.Path.{◌≡◌}
use mathlib.Core.List.{List, ◌∷◌, flat_map}
use native.Mathlib.Nat.{zero-add, mod-eq_of_lt, div-add-mod', div-div-eq-div-mul}
use native.Mathlib.Omega.{arith}
use Rattle.xcf_store.specs.Word.{big_endian, word_bytes, words}
use Rattle.xcf_walk.specs.Fields.{number}
use Rattle.xcf_round_trip.proofs.Parts.{Stands}
use Rattle.xcf_round_trip.proofs.Stands.{stands_front, stands_behind}
use Rattle.xcf_round_trip.proofs.Steps.{ReadsTo, then, ends_as, reads_bytes}

pub word_value : (n : ℕ) → n < 4294967296 → big_endian 0 (word_bytes n) ≡ n
unfolding big_endian word_bytes
word_value n small =
    let high : n / 16777216 < 256 = omega arith in
    rw (
      mod-eq_of_lt high,
      zero-add,
      ← div-div-eq-div-mul n 65536 256,
      div-add-mod' (n / 65536) 256,
      ← div-div-eq-div-mul n 256 256,
      div-add-mod' (n / 256) 256,
      div-add-mod' n 256,
    )

pub reads_word : {f : List ℕ} {p : ℕ} (n : ℕ) → n < 4294967296 → Stands f p (word_bytes n) → ReadsTo (number 4) f p n (p + 4)
unfolding number word_bytes
reads_word n small s = then _ (reads_bytes (word_bytes n) s) (ends_as (word_value n small))

module _ {f : List ℕ} {p : ℕ} (n : ℕ) (ns : List ℕ) (s : Stands f p (words (n ∷ ns))) where
  pub words_first : Stands f p (word_bytes n)
  unfolding flat_map
  words_first = stands_front (word_bytes n) (words ns) s

  pub words_rest : Stands f (p + 4) (words ns)
  unfolding flat_map word_bytes
  words_rest = stands_behind (word_bytes n) (words ns) s

  pub reads_number : n < 4294967296 → ReadsTo (number 4) f p n (p + 4)
  reads_number small = reads_word n small words_first
