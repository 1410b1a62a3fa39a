-- A copy of bytes to the start of a list's tail puts them in their place: what lies before the tail and behind the bytes stays.
-- Assumes nothing.
use mathlib.Core.Path.{◌≡◌, sym}
use mathlib.Core.List.{List, [], ◌++◌, append_assoc, append-nil}
use Prim.Native.Nat.{ℕ, ◌+◌, ◌-◌}
use native.Mathlib.Omega.{arith}
use lib.ListN.{length, take, drop, length-drop, drop_of_length-le}
use lib.Seq.{paste, take_all, drop-drop}

-- the tail from a place on as the code lends it, up to the list's end, and behind it nothing
pub tail_copied : (l : List ℕ) (at : ℕ) (bs : List ℕ)
    → take at l ++ ((take (length bs) bs ++ drop (length bs) (take (length l - at) (drop at l))) ++ drop (length l - at) (drop at l))
    ≡ paste l at bs (length bs)
tail_copied l at bs =
    let whole : take (length l - at) (drop at l) ≡ drop at l = take_all (length l - at) (drop at l) (rw length-drop (omega arith)) in
    let none : drop (length l - at) (drop at l) ≡ [] = rw drop-drop (drop_of_length-le l {i = at + (length l - at)} (omega arith)) in
    rw (whole, none, drop-drop, append-nil) (sym (append_assoc (take at l) (take (length bs) bs) _))
