-- The search for the lowest bad row: `Left` holds at the loop's head, a usable row keeps it (`left_next`), and it gives the answer
-- at a bad row (`left_bad`) and behind the last row (`left_over`).
-- Assumes nothing.
use Prim.Native.Nat.{ℕ, suc, ◌+◌, ◌-◌, ◌≤◌, ◌<◌}
use mathlib.Core.Path.{◌≡◌, refl, sym, ◌∙◌}
use mathlib.Core.List.{List}
use mathlib.Core.Bool.{Bool, true, false, cond}
use native.Mathlib.Omega.{arith}
use borrow.Author.Tests.{ne_eqb}
use Rattle.std.specs.Prelude.{Some, None}
use Rattle.xcf_numbers.specs.Limit.{table_rows}
use Rattle.xcf_table.specs.Table.{row_at}
use Rattle.xcf_table.specs.declared.canvas.Canvas.{Canvas}
use Rattle.xcf_usable.specs.declared.seen.Seen.{Seen}
use Rattle.xcf_usable.specs.Usable.{seen_at, masked, usable_row, usable, bad_from, bad_row, row_found}

pub bad_next : (c : Canvas) (names table : List ℕ) (k : ℕ) → k < table_rows
    → bad_from c names table (table_rows - k) k ≡ cond (usable c names table k) (bad_from c names table (table_rows - (k + 1)) (k + 1)) k
unfolding bad_from
bad_next c names table k h =
    let e : table_rows - k ≡ suc (table_rows - (k + 1)) = omega arith in
    rw e

-- the rows before row k are those seen, and the search from row k on gives what the whole search gives
pub record Left (c : Canvas) (names table : List ℕ) (k : ℕ) (s : Seen) : Type 0 where
  pub few : k ≤ table_rows
  pub seen : s ≡ seen_at table k
  pub rest : bad_from c names table (table_rows - k) k ≡ bad_row c names table

pub left_first : (c : Canvas) (names table : List ℕ) (s : Seen) → s ≡ seen_at table 0 → Left c names table 0 s
unfolding bad_row
left_first c names table s e = record { few = omega arith; seen = e; rest = refl }

module _ {c : Canvas} {names table : List ℕ} {k : ℕ} {s : Seen} (g : Left c names table k s) (h : k < table_rows) where
  -- the test of row k behind what is seen, and what is left to search
  tested : (b : Bool) → b ≡ usable_row c names k s (row_at table k) (masked table k)
      → bad_row c names table ≡ cond b (bad_from c names table (table_rows - (k + 1)) (k + 1)) k
  unfolding usable
  tested b e = sym g.rest ∙ bad_next c names table k h ∙ rw (e, g.seen)

  pub left_next : {b : Bool} {next : Seen}
      → b ≡ usable_row c names k s (row_at table k) (masked table k) → b ≡ true → next ≡ seen_at table (k + 1) → Left c names table (k + 1) next
  left_next {b} e ok next = record { few = omega arith; seen = next; rest = sym (rw ok at (tested b e)) }

  pub left_bad : {b : Bool} → b ≡ usable_row c names k s (row_at table k) (masked table k) → b ≡ false → Some k ≡ row_found (bad_row c names table)
  left_bad {b} e bad =
      let there : bad_row c names table ≡ k = rw bad at (tested b e) in
      rw (there, ne_eqb k table_rows (λ e. omega arith))

pub left_over : {c : Canvas} {names table : List ℕ} {k : ℕ} {s : Seen}
    → Left c names table k s → table_rows ≤ k → None ≡ row_found (bad_row c names table)
unfolding bad_from
left_over {c} {names} {table} {k} g h =
    let none : table_rows - k ≡ 0 = omega arith in
    let end : bad_row c names table ≡ table_rows = sym (rw none at g.rest) ∙ omega arith in
    rw end
