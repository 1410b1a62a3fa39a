-- The size of a pointer: its test says what it is, and it is not 0, so that the pointers of a file are at most as many as its bytes.
-- Where n numbers lie in a file, so does each of them (`one_of`).
-- Assumes nothing.
use Prim.Native.Nat.{ℕ, ◌+◌, ◌*◌, ◌≤◌, ◌<◌}
use mathlib.Core.Path.{◌≡◌, refl}
use mathlib.Core.Bool.{Bool, true, false, ◌||◌}
use mathlib.Core.Logic.{inl, inr, ⊎_elim}
use native.Mathlib.Nat.{mul-le-mul_left}
use native.Mathlib.Omega.{arith}
use borrow.Author.Tests.{eqb-true, ne_eqb}
use lib.Dec.{eqb}
use Rattle.xcf_store.specs.declared.pointer.Width.{Width}
use Rattle.xcf_store.specs.declared.pointer.Width.TheVariants as Variant
use Rattle.xcf_store.specs.Pointer.{narrow, wide, pointer_size_ok, PointerSize}
use Rattle.xcf_store.specs.Width.{bytes_of}

-- the test holds of the sizes, and of no other number
pub size_of : {size : ℕ} → pointer_size_ok size ≡ true → PointerSize size
unfolding pointer_size_ok
size_of {size} e = go (eqb size narrow) refl e
  where
    go : (t : Bool) → eqb size narrow ≡ t → (t || eqb size wide) ≡ true → PointerSize size
    go true is e = inl (eqb-true size narrow is)
    go false is e = inr (eqb-true size wide e)

pub size_ok : {size : ℕ} → PointerSize size → pointer_size_ok size ≡ true
unfolding pointer_size_ok
size_ok {size} = ⊎_elim (λ e. rw e) (λ e. rw e)

-- the test of any other number fails
pub no_size : {size : ℕ} → (size ≡ narrow → ⊥) → (size ≡ wide → ⊥) → pointer_size_ok size ≡ false
unfolding pointer_size_ok
no_size {size} n w = rw (ne_eqb size narrow n, ne_eqb size wide w)

-- a width is such a size
pub sized : (width : Width) → PointerSize (bytes_of width)
sized Variant.Narrow = inl refl
sized Variant.Wide = inr refl

-- a size is four bytes at least, and eight at most
pub some_bytes : {size : ℕ} → PointerSize size → (4 ≤ size) × (size ≤ 8)
some_bytes = ⊎_elim (λ e. (omega (arith, e), omega (arith, e))) (λ e. (omega (arith, e), omega (arith, e)))

-- of n numbers from a place on that lie before an end, the one behind i others does
pub one_of : (size at n i : ℕ) {end : ℕ} → (1 ≤ n → at + size * n ≤ end) → i < n → at + size * i + size ≤ end
one_of size at n i whole h =
    let more : size * (i + 1) ≤ size * n = mul-le-mul_left size (omega (arith, h)) in
    omega (arith, more, whole (omega (arith, h)))
