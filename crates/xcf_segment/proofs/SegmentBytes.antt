-- How long an operation is, its bytes where its count is short and where it is long, and that a head with the bytes copied
-- behind it is a copy: the definitions, by the test of the count.
-- Assumes nothing.
use mathlib.Core.Path.{◌≡◌, refl, ap}
use mathlib.Core.List.{List, [], ◌∷◌, ◌++◌, append_assoc}
use mathlib.Core.Bool.{Bool, true, false, cond}
use Prim.Native.Nat.{ℕ, ◌+◌, ◌-◌, ◌/◌, ◌%◌, ◌≤◌, ◌<◌}
use native.Mathlib.Omega.{arith}
use borrow.Author.Tests.{le-leb, lt-leb}
use lib.ListN.{length, take, drop, length-append, length-take, length-drop}
use lib.Seq.{sets-eq, drop-drop}
use lib.Dec.{leb}
use Rattle.std.proofs.lemmas.Bool.{cond_both}
use Rattle.xcf_segment.specs.Segment.{head_bytes, run_of, copy_of, segment_bytes}
use Rattle.xcf_segment.specs.Parts.{head_size}
use Rattle.xcf_store.specs.Put.{Put}
use borrow.Rule.Slice.PartMut.{put_mid}
use Rattle.xcf_store.proofs.Stores.{put_append, put_length}

by_test : (b : Bool) (short long a z : ℕ) → length (cond b (short ∷ []) (long ∷ a ∷ z ∷ [])) ≡ cond b 1 3
by_test true short long a z = refl
by_test false short long a z = refl

-- the lengths
pub head_length : (count short long : ℕ) → length (head_bytes count short long) ≡ head_size count
head_length count short long = by_test (leb count 127) short long (count / 256) (count % 256)

pub head_small : (count : ℕ) → head_size count ≤ 3
head_small count = cond_both (leb count 127) 1 3 (λ n. n ≤ 3) (λ _. omega arith) (λ _. omega arith)

pub run_length : (count value : ℕ) → length (segment_bytes (run_of count value)) ≡ head_size count + 1
unfolding segment_bytes
run_length count value = rw (length-append, head_length)

pub copy_length : (bytes : List ℕ) → length (segment_bytes (copy_of bytes)) ≡ head_size (length bytes) + length bytes
unfolding segment_bytes
copy_length bytes = rw (length-append, head_length)

pub taken_length : (n at : ℕ) (stream : List ℕ) → at + n ≤ length stream → length (take n (drop at stream)) ≡ n
taken_length n at stream h = rw (length-take, length-drop) (omega arith)

-- the bytes
pub run_short : (count value : ℕ) → count ≤ 127 → segment_bytes (run_of count value) ≡ (count - 1) ∷ value ∷ []
unfolding segment_bytes
run_short count value h = rw (le-leb _ _ h)

pub run_long : (count value : ℕ) → 127 < count → segment_bytes (run_of count value) ≡ (127 ∷ count / 256 ∷ count % 256 ∷ []) ++ (value ∷ [])
unfolding segment_bytes
run_long count value h = rw (lt-leb _ _ h)

pub copy_bytes : (bytes : List ℕ) → segment_bytes (copy_of bytes) ≡ head_bytes (length bytes) (256 - length bytes) 128 ++ bytes
unfolding segment_bytes
copy_bytes bytes = refl

-- n bytes written over the part of n bytes from `to` on
put_at : (l : List ℕ) (to k n : ℕ) (bs part : List ℕ) → to + n ≤ length l → length bs ≡ n → k ≡ n → part ≡ bs → Put l to bs (to + n) (put_mid to k l part)
put_at l to k n bs part h m e q = record { behind = omega arith; output = rw (q, e, sets-eq bs l to (omega arith), m, drop-drop, append_assoc) refl }

-- a copy's bytes behind its head: there is room for them, and they are the operation
module _ {old : List ℕ} {to n body : ℕ} {mid : List ℕ} (p : Put old to (head_bytes n (256 - n) 128) body mid) (bs : List ℕ) (l : length bs ≡ n) (h : to + length (segment_bytes (copy_of bs)) ≤ length old) where
  pub copy_room : body + n ≤ length mid
  copy_room =
      omega (arith, p.behind, head_length n (256 - n) 128, put_length p, copy_length bs, l, ap head_size l)

  pub copy_put : (k : ℕ) (part : List ℕ) → k ≡ n → part ≡ bs → Put old to (segment_bytes (copy_of bs)) (body + n) (put_mid body k mid part)
  copy_put k part e q =
      let room : body + n ≤ length mid = copy_room in
      rw (copy_bytes bs, l) (put_append p (put_at mid body k n bs part room l e q))
