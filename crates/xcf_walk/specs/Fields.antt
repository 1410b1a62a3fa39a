-- The fields that every structure is made of.
use Rattle.std.specs.Prelude.{ℕ, ◌-◌, get_or, take, eqb}
use Rattle.xcf_numbers.specs.Refusal
use Rattle.xcf_walk.specs.declared.cursor.Name.{Name}
use Rattle.xcf_walk.specs.Walk.{Walk, done, bytes, here, must, ◌>>=◌, ◌>>◌}
use Rattle.xcf_store.specs.Word.{big_endian}
use Rattle.xcf_utf8.specs.Utf8.{well_formed}

-- a number of so many bytes
unfoldable pub number : ℕ → Walk ℕ
number size = do
  b ← bytes size
  done (big_endian 0 b)

-- words are 32 bits
unfoldable pub word : Walk ℕ
word = number 4

-- a length word and so many bytes: the name and a zero that closes it; of no bytes the last counts as zero. The name is well-formed UTF-8
-- or not, and taken either way
unfoldable pub string : Walk Name
string = do
  length_at ← here
  n ← word
  place ← here
  b ← bytes n
  must (eqb (get_or b (n - 1) 0) 0) Refusal.unended_string length_at
  done (record { place = place; length = n - 1; utf8 = well_formed (take (n - 1) b) })
