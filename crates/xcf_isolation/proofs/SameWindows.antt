-- Two files of one length that agree on the bytes of a row's tile pointers have the same pointers, so that each window stands at the
-- same place in both (`pointer_same`, `length_same`); where they agree on a window's bytes too, the window is the same
-- (`window_same`), and with it the tile (`tile_same`).
-- Assumes nothing.
use Prim.Native.Nat.{ℕ, ◌+◌, ◌*◌, ◌≤◌, ◌<◌}
use mathlib.Core.Path.{◌≡◌, refl, sym, ap}
use mathlib.Core.List.{List}
use mathlib.Core.Bool.{Bool, true, false, cond}
use native.Mathlib.Nat.{mul-le-mul_left}
use native.Mathlib.Omega.{arith}
use borrow.Author.Tests.{ltb-true}
use lib.Dec.{ltb}
use lib.ListN.{length, get_or}
use Rattle.xcf_store.specs.Word.{big_endian}
use Rattle.xcf_walk_laws.proofs.Depends.{part_same}
use Rattle.xcf_table.specs.declared.Row.{Row}
use Rattle.xcf_window.specs.Window.{pointer_at, window_end, window_length, window, InWindow, tile}

module _ (size : ℕ) (f g : List ℕ) (r : Row) (same : length f ≡ length g)
    (pointers : (i : ℕ) → r.pointers ≤ i → i < r.pointers + size * r.count → get_or f i 0 ≡ get_or g i 0) where
  pub pointer_same : (t : ℕ) → t < r.count → pointer_at size g r t ≡ pointer_at size f r t
  unfolding pointer_at
  pointer_same t below =
      let room : size * (t + 1) ≤ size * r.count = mul-le-mul_left size (omega arith) in
      ap (big_endian 0) (sym (part_same f g (r.pointers + size * t) size same (λ i lo hi. pointers i (omega arith) (omega arith))))

  end_same : (t : ℕ) → window_end size g r t ≡ window_end size f r t
  unfolding window_end
  end_same t = go (ltb (t + 1) r.count) refl
    where
      go : (b : Bool) → ltb (t + 1) r.count ≡ b → cond b (pointer_at size g r (t + 1)) (length g) ≡ cond b (pointer_at size f r (t + 1)) (length f)
      go true more = pointer_same (t + 1) (ltb-true _ _ more)
      go false last = sym same

  pub length_same : (t : ℕ) → t < r.count → window_length size g r t ≡ window_length size f r t
  unfolding window_length
  length_same t below = rw (pointer_same t below, end_same t)

  window_same : (t : ℕ) → t < r.count → ((i : ℕ) → InWindow size f r t i → get_or f i 0 ≡ get_or g i 0) → window size g r t ≡ window size f r t
  unfolding window InWindow
  window_same t below agree = rw (pointer_same t below, length_same t below) (sym (part_same f g _ _ same (λ i lo hi. agree i (lo, hi))))

  pub tile_same : (compression t : ℕ) → t < r.count → ((i : ℕ) → InWindow size f r t i → get_or f i 0 ≡ get_or g i 0)
      → tile size g r compression t ≡ tile size f r compression t
  unfolding tile
  tile_same compression t below agree = rw (window_same t below agree)
