-- Bytes of a file at a place, and the words that they spell; words and lists of words as bytes.
use Rattle.std.specs.Prelude.{ℕ, ◌+◌, ◌*◌, ◌/◌, ◌%◌, take, drop, length, cond, Bool, leb}
use mathlib.Core.List.{List, [], ◌∷◌, flat_map}

-- the n bytes from a place on
abbrev pub part : List ℕ → ℕ → ℕ → List ℕ
part f at n = take n (drop at f)

-- the number that bytes spell behind a number n, the high byte first
unfoldable pub big_endian : ℕ → List ℕ → ℕ
big_endian n [] = n
big_endian n (b ∷ bs) = big_endian (n * 256 + b) bs

-- the word at a place of some bytes; 0 where it does not lie in them
unfoldable pub word_of : List ℕ → ℕ → ℕ
word_of b i = cond (leb (i + 4) (length b)) (big_endian 0 (part b i 4)) 0

-- a word: 32 bits, high byte first
unfoldable pub word_bytes : ℕ → List ℕ
word_bytes n = n / 16777216 % 256 ∷ n / 65536 % 256 ∷ n / 256 % 256 ∷ n % 256 ∷ []

-- words one behind the other
abbrev pub words : List ℕ → List ℕ
words = flat_map word_bytes

-- these where a test holds, and none elsewhere
abbrev pub when : {A : Type 0} → Bool → List A → List A
when test xs = cond test xs []
