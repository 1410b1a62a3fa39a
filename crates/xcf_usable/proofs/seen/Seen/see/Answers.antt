-- `see` meets its contract: each count is one more where row k passes its test; counts of at most 128 rows fit.
use Prim.Native.Nat.{ℕ, ◌<◌}
use mathlib.Core.Path.{◌≡◌}
use mathlib.Core.List.{List}
use native.Mathlib.Omega.{arith}
use Rattle.xcf_numbers.specs.Limit.{table_rows}
use Rattle.xcf_usable.specs.declared.seen.Seen.{Seen}
use Rattle.xcf_usable.specs.Usable.{seen_at}
use Rattle.xcf_usable.proofs.Counts.{seen_behind, byte_most, CountsMost, seen_most}
use Rattle.xcf_usable.proofs.seen.Seen.see.Goals as goal

most : (table : List ℕ) (k : ℕ) {s : Seen} → (k < table_rows) × (s ≡ seen_at table k) → CountsMost s k
most table k h = rw h.1 (seen_most table k)

pub overflow_add-result : goal.overflow_add-result
overflow_add-result c = let seen = most c.args.table.now c.args.k c.requires in omega (arith, byte_most)

pub overflow_add-result-2 : goal.overflow_add-result-2
overflow_add-result-2 c = let seen = most c.args.table.now c.args.k c.requires in omega (arith, byte_most)

pub overflow_add-result-3 : goal.overflow_add-result-3
overflow_add-result-3 c = let seen = most c.args.table.now c.args.k c.requires in omega (arith, byte_most)

pub overflow_add-result-4 : goal.overflow_add-result-4
overflow_add-result-4 c = let seen = most c.args.table.now c.args.k c.requires in omega (arith, byte_most)

pub overflow_add-result-5 : goal.overflow_add-result-5
overflow_add-result-5 c = let seen = most c.args.table.now c.args.k c.requires in omega (arith, byte_most)

pub overflow_add-result-6 : goal.overflow_add-result-6
overflow_add-result-6 c = let seen = most c.args.table.now c.args.k c.requires in omega (arith, byte_most)

pub returns : goal.returns
returns c =
    seen_behind c.args.table.now c.args.k c.requires.1 c.row_at-row.ensures
    c.from.ensures c.from-2.ensures c.from-3.ensures
    c.is_active_layer.ensures c.from-4.ensures
    c.is_active_channel.ensures c.from-5.ensures
    c.is_selection.ensures c.from-6.ensures
