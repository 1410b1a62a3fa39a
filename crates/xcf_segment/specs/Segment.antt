-- How a stream is written (RULES, "Encoding"): its segments are runs and copies, each one operation.
use Rattle.std.specs.Prelude.{ℕ, zero, suc, ◌-◌, ◌/◌, ◌%◌, cond, length, get_or, take, drop, leb, eqb}
use mathlib.Core.List.{List, [], ◌∷◌, ◌++◌, flat_map}

-- how many bytes v come first
unfoldable pub leading : ℕ → List ℕ → ℕ
leading v [] = 0
leading v (x ∷ xs) = cond (eqb x v) (suc (leading v xs)) 0

-- how many equal bytes start here
unfoldable pub equal_bytes : List ℕ → ℕ
equal_bytes [] = 0
equal_bytes (x ∷ xs) = suc (leading x xs)

-- how many bytes come before the next run of at least three, or the end
unfoldable pub copied_bytes : List ℕ → ℕ
copied_bytes [] = 0
copied_bytes (x ∷ xs) = cond (leb 3 (equal_bytes (x ∷ xs))) 0 (suc (copied_bytes xs))

-- a run of `count` bytes `value`, or bytes copied
pub data Segment : Type 0 where
  run_of : (count value : ℕ) → Segment
  copy_of : (bytes : List ℕ) → Segment

abbrev pub size_of : Segment → ℕ
size_of (run_of count value) = count
size_of (copy_of bytes) = length bytes

-- the first segment of a stream that is not empty
unfoldable pub first_segment : List ℕ → Segment
first_segment xs = cond (leb 3 (equal_bytes xs)) (run_of (equal_bytes xs) (get_or xs 0 0)) (copy_of (take (copied_bytes xs) xs))

-- each segment takes a byte of the stream at least, so `fuel`, the stream's length, is enough
unfoldable pub segments_within : ℕ → List ℕ → List Segment
segments_within zero xs = []
segments_within (suc fuel) [] = []
segments_within (suc fuel) (x ∷ xs) = first_segment (x ∷ xs) ∷ segments_within fuel (drop (size_of (first_segment (x ∷ xs))) (x ∷ xs))

unfoldable pub segments : List ℕ → List Segment
segments xs = segments_within (length xs) xs

-- opcode and length bytes of an operation for `count` bytes, whose opcode is `short` or `long`
abbrev pub head_bytes : ℕ → ℕ → ℕ → List ℕ
head_bytes count short long = cond (leb count 127) (short ∷ []) (long ∷ count / 256 ∷ count % 256 ∷ [])

-- a segment as an operation: opcode, length bytes, data
unfoldable pub segment_bytes : Segment → List ℕ
segment_bytes (run_of count value) = head_bytes count (count - 1) 127 ++ (value ∷ [])
segment_bytes (copy_of bytes) = head_bytes (length bytes) (256 - length bytes) 128 ++ bytes

unfoldable pub encode_stream : List ℕ → List ℕ
encode_stream xs = flat_map segment_bytes (segments xs)
