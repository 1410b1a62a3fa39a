-- A row among numbers: it stands behind those in front of it (`row_added`), stays what it is before those behind it
-- (`row_in_front`), and is the table's where the table has it (`row_there`).
-- Assumes nothing.
use Prim.Native.Nat.{ℕ, ◌+◌, ◌*◌, ◌≤◌, ◌<◌}
use native.Mathlib.Nat.{add-zero, zero-add}
use mathlib.Core.Path.{◌≡◌}
use mathlib.Core.List.{List, ◌++◌}
use mathlib.Core.Bool.{true}
use native.Mathlib.Omega.{arith}
use borrow.Author.Tests.{le-leb, ltb-true}
use lib.Dec.{ltb}
use lib.ListN.{length, take, drop, get_or, get_or-append}
use lib.Seq.{get_or-append_seam, get_or-append-add, get_or-take, get_or-drop}
use Rattle.xcf_numbers.specs.Limit.{row_size}
use Rattle.xcf_table.specs.declared.Row.{Row}
use Rattle.xcf_table.specs.Table.{row_numbers, row_in, row_at}

pub row_added : (a : List ℕ) (r : Row) → row_in (a ++ row_numbers r) (length a) ≡ r
row_added a r = simp (get_or-append-add, get_or-append_seam)

pub row_in_front : (a b : List ℕ) (at : ℕ) → at + row_size ≤ length a → row_in (a ++ b) at ≡ row_in a at
row_in_front a b at h = simp (get_or-append a b 0 at (omega arith), others)
  where
    others : (i : ℕ) → ltb i row_size ≡ true → get_or (a ++ b) (at + i) 0 ≡ get_or a (at + i) 0
    others i e = get_or-append a b 0 (at + i) (omega (arith, ltb-true i row_size e))

-- the numbers from a place on, cut out of the table
pub row_cut : (table : List ℕ) (at n : ℕ) → n ≡ row_size → row_in (take n (drop at table)) 0 ≡ row_in table at
row_cut table at n e = rw e (simp (zeroth, others))
  where
    zeroth : get_or (take row_size (drop at table)) 0 0 ≡ get_or table at 0
    zeroth = let below : 0 < row_size = omega arith in rw (get_or-take, get_or-drop, add-zero)

    others : (i : ℕ) → ltb i row_size ≡ true → get_or (take row_size (drop at table)) (0 + i) 0 ≡ get_or table (at + i) 0
    others i e = let below : i < row_size = ltb-true i row_size e in rw (zero-add, get_or-take, get_or-drop)

pub row_there : (table : List ℕ) (k : ℕ) → row_size * (k + 1) ≤ length table → row_at table k ≡ row_in table (row_size * k)
unfolding row_at
row_there table k within = rw (le-leb _ _ within)
