-- Words as bytes: their lengths.
-- Assumes nothing.
use mathlib.Core.Path.{◌≡◌, refl}
use mathlib.Core.List.{List, [], flat_map}
use mathlib.Core.Bool.{Bool, true, false, cond}
use Prim.Native.Nat.{ℕ, ◌*◌}
use lib.ListN.{length}
use Rattle.xcf_laws.proofs.FlatMaps.{flat_map-length}
use Rattle.xcf_store.specs.Put.{Put}
use Rattle.xcf_store.proofs.Stores.{put_nothing}
use Rattle.xcf_store.specs.Word.{word_bytes, words, when}

pub word_length : (n : ℕ) → length (word_bytes n) ≡ 4
unfolding word_bytes
word_length n = refl

pub words_length : (ns : List ℕ) → length (words ns) ≡ 4 * length ns
words_length = flat_map-length word_bytes 4 word_length

-- by a test
pub when_length : (test : Bool) (ns : List ℕ) → length (words (when test ns)) ≡ cond test (4 * length ns) 0
when_length true ns = words_length ns
when_length false ns = words_length []

-- no words are no store
pub put_none : (l : List ℕ) (to : ℕ) → Put l to (words []) to l
unfolding flat_map
put_none l to = put_nothing l to
