-- The bytes that a tile consumed lie in its window (`consumed_in_window`). Two files of one length that agree on the bytes of a row's
-- tile pointers, and on those that a good tile consumed, have the same tile (`tile_kept`): its window is as long in both and stands at
-- the same place, the consumed bytes are the window's first (`first_same`), and these decide a good tile.
-- Assumes nothing.
use Prim.Native.Nat.{ℕ, ◌+◌, ◌*◌, ◌≤◌, ◌<◌}
use mathlib.Core.Path.{◌≡◌, sym, ◌∙◌}
use mathlib.Core.List.{List}
use native.Mathlib.Omega.{arith}
use lib.ListN.{length, get_or, take, drop, length-take, length-drop}
use lib.Seq.{take-take}
use Rattle.xcf_walk_laws.proofs.Depends.{part_same}
use Rattle.xcf_table.specs.declared.Row.{Row}
use Rattle.xcf_tile_laws.proofs.Consumed.{consumed_inside, consumed_decides}
use Rattle.xcf_read.specs.Answer.{Reading, row_of}
use Rattle.xcf_window.specs.Window.{pointer_at, window_length, window, InWindow, tile}
use Rattle.xcf_isolation.specs.Kept.{Consumed}
use Rattle.xcf_isolation.proofs.SameWindows.{pointer_same, length_same}

module _ (size : ℕ) (f : List ℕ) (r : Row) (compression t : ℕ) where
  consumed_long : (tile size f r compression t).consumed ≤ length (window size f r t)
  unfolding tile
  consumed_long = consumed_inside (window size f r t) _ _ _ compression

  consumed_short : (tile size f r compression t).consumed ≤ window_length size f r t
  unfolding window
  consumed_short = omega (arith, consumed_long, length-take (window_length size f r t) (drop (pointer_at size f r t) f))

pub consumed_in_window : (f : List ℕ) (x : Reading) (k t i : ℕ) → Consumed f x k t i → InWindow x.answer.size f (row_of x k) t i
unfolding Consumed InWindow
consumed_in_window f x k t i c = (c.0, omega (arith, c.1, consumed_short x.answer.size f (row_of x k) x.answer.compression t))

-- two files of one length with the same tile pointers of a row
module _ (size : ℕ) (f g : List ℕ) (r : Row) (long : length f ≡ length g)
    (pointers : (i : ℕ) → r.pointers ≤ i → i < r.pointers + size * r.count → get_or f i 0 ≡ get_or g i 0)
    (compression t : ℕ) (below : t < r.count) where
  window_long : length (window size g r t) ≡ length (window size f r t)
  unfolding window
  window_long = rw (pointer_same size f g r long pointers t below, length_same size f g r long pointers t below) (simp (length-take, length-drop, long))

  -- the first bytes of a window
  first_same : (n : ℕ) → n ≤ window_length size f r t
      → ((i : ℕ) → pointer_at size f r t ≤ i → i < pointer_at size f r t + n → get_or f i 0 ≡ get_or g i 0)
      → take n (window size f r t) ≡ take n (window size g r t)
  unfolding window
  first_same n inside agree =
      rw (pointer_same size f g r long pointers t below, length_same size f g r long pointers t below)
      (take-take n _ _ inside ∙ part_same f g _ n long agree ∙ sym (take-take n _ _ inside))

  pub tile_kept : (tile size f r compression t).mark ≡ 0
      → ((i : ℕ) → pointer_at size f r t ≤ i → i < pointer_at size f r t + (tile size f r compression t).consumed → get_or f i 0 ≡ get_or g i 0)
      → tile size g r compression t ≡ tile size f r compression t
  unfolding tile
  tile_kept good agree =
      consumed_decides (window size f r t) (window size g r t) _ _ _ compression good (rw window_long (consumed_long size f r compression t))
      (first_same _ (consumed_short size f r compression t) agree)
