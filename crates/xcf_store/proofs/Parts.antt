-- The bytes of a part, the word that four of them spell, and the number that eight do.
-- Assumes nothing.
use Prim.Native.Nat.{ℕ, suc, ◌+◌, ◌*◌, ◌≤◌, ◌<◌}
use mathlib.Core.Path.{◌≡◌, refl}
use mathlib.Core.List.{List, [], ◌∷◌, ◌++◌}
use native.Mathlib.Nat.{add_assoc}
use native.Mathlib.Omega.{arith}
use lib.ListN.{length, drop, get_or, length-take, length-drop}
use lib.Seq.{get_or-take, get_or-drop, drop-cons, drop-drop, take-add, ext_get_or}
use Rattle.xcf_store.specs.Word.{part, big_endian}

pub part_at : (f : List ℕ) (at n i : ℕ) → i < n → get_or (part f at n) i 0 ≡ get_or f (at + i) 0
part_at f at n i h = rw (get_or-take, get_or-drop)

pub part_length : (f : List ℕ) (at n : ℕ) → at + n ≤ length f → length (part f at n) ≡ n
part_length f at n h = simp (length-take, length-drop) (omega arith)

-- a part of a part
pub part_part : (f : List ℕ) (at n i m : ℕ) → i + m ≤ n → part (part f at n) i m ≡ part f (at + i) m
part_part f at n i m h =
    ext_get_or 0 _ _ (simp (length-take, length-drop) (omega arith)) (λ k below.
    let lt : k < m = omega (arith, length-take m (drop i (part f at n)), below) in
    rw (get_or-take, get_or-drop, part_at f at n (i + k) (omega arith), part_at f (at + i) m k lt, add_assoc))

-- a part is its first byte and the part behind it
pub part_cons : (f : List ℕ) (at n : ℕ) → at < length f → part f at (suc n) ≡ get_or f at 0 ∷ part f (at + 1) n
part_cons f at n h = rw (drop-cons f at 0 h, ← (let e : suc at ≡ at + 1 = omega arith in e))

-- a word behind a number n
pub big_endian_part : (n : ℕ) (f : List ℕ) (at : ℕ) → at + 4 ≤ length f
    → big_endian n (part f at 4) ≡ n * 4294967296 + get_or f at 0 * 16777216 + get_or f (at + 1) 0 * 65536 + get_or f (at + 2) 0 * 256 + get_or f (at + 3) 0
unfolding big_endian
big_endian_part n f at h =
    rw (
      part_cons f at 3 (omega arith),
      part_cons f (at + 1) 2 (omega arith),
      part_cons f (at + 1 + 1) 1 (omega arith),
      part_cons f (at + 1 + 1 + 1) 0 (omega arith),
      (let e : at + 1 + 1 ≡ at + 2 = omega arith in e),
      (let e : at + 2 + 1 ≡ at + 3 = omega arith in e),
    ) (omega arith)

-- bytes in two goes
big_endian_append : (n : ℕ) (xs ys : List ℕ) → big_endian n (xs ++ ys) ≡ big_endian (big_endian n xs) ys
unfolding big_endian
big_endian_append n [] ys = refl
big_endian_append n (x ∷ xs) ys = big_endian_append (n * 256 + x) xs ys

-- eight bytes are two words
pub two_words : (f : List ℕ) (at : ℕ) → at + 8 ≤ length f
    → big_endian 0 (part f at 8) ≡ big_endian 0 (part f at 4) * 4294967296 + big_endian 0 (part f (at + 4) 4)
two_words f at h =
    let high = big_endian 0 (part f at 4) in
    let low = big_endian_part 0 f (at + 4) (omega arith) in
    let split : part f at 8 ≡ part f at 4 ++ part f (at + 4) 4 = rw (take-add 4 4 (drop at f), drop-drop) in
    rw (split, big_endian_append) (omega (arith, low, big_endian_part high f (at + 4) (omega arith)))
