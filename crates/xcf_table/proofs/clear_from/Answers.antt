-- `clear_from` meets its contract, by whether the table has numbers from row k on.
use Prim.Native.Nat.{ℕ, ◌*◌, ◌-◌}
use mathlib.Core.Path.{◌≡◌}
use mathlib.Core.List.{List, ◌++◌, append-nil}
use native.Mathlib.Omega.{arith}
use borrow.Rule.Slice.PartMut.{put_mid}
use Rattle.std.proofs.lemmas.List.{drop_all}
use lib.ListN.{length, take, drop, replicate, length-drop, length-take}
use lib.Seq.{take_all}
use Rattle.xcf_numbers.specs.Limit.{row_size}
use Rattle.xcf_table.specs.Table.{clear_from}
use Rattle.xcf_table.proofs.clear_from.Goals as goal

-- the part from a place on filled with zeros
zeros_behind : (t : List ℕ) (at : ℕ) → put_mid at (length t - at) t (replicate (length (take (length t - at) (drop at t))) 0) ≡ take at t ++ replicate (length t - at) 0
zeros_behind t at =
    let size : length (take (length t - at) (drop at t)) ≡ length t - at = simp (length-take, length-drop) (omega arith) in
    rw (size, drop_all (length t - at) (drop at t) (rw length-drop (omega arith)), append-nil)

pub returns-then-first-table : goal.returns-then-first-table
unfolding clear_from
returns-then-first-table c =
    rw (c.fill.ensures.after (λ y e. e)) (zeros_behind c.args.table.now (row_size * c.args.k))

pub returns-else-first-table : goal.returns-else-first-table
unfolding clear_from
returns-else-first-table c =
    let a = c.args in
    let none : length a.table.now - row_size * a.k ≡ 0 = omega arith in
    rw (take_all (row_size * a.k) a.table.now (omega arith), none, append-nil)
