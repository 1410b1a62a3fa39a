-- The used rows of a table: they are at most 128, and none of them is of kind 0 (`used_most`, `used_kind`); where no row is bad,
-- they are in range and ready to be written (`used_range`, `ready`). By the search for the first unused row, and from the facts of
-- usable rows.
-- Assumes nothing.
use Prim.Native.Nat.{ℕ, zero, suc, ◌+◌, ◌≤◌, ◌<◌}
use mathlib.Core.Path.{◌≡◌, refl}
use mathlib.Core.List.{List}
use mathlib.Core.Bool.{Bool, true, false, cond}
use native.Mathlib.Nat.{add-zero, zero-add}
use native.Mathlib.Omega.{arith}
use borrow.Author.Tests.{eqb-false}
use lib.ListN.{length}
use Rattle.xcf_numbers.specs.Limit.{table_rows}
use Rattle.xcf_numbers.specs.Kind
use Rattle.xcf_table.specs.Table.{row_at}
use Rattle.xcf_table.specs.declared.canvas.Canvas.{Canvas}
use Rattle.xcf_usable.specs.Usable.{is_unused, bad_row}
use Rattle.xcf_usable.proofs.AllUsable.{all_usable}
use Rattle.xcf_usable.proofs.RowFacts.{DrawableFacts, drawable_facts}
use Rattle.xcf_body.specs.Rows.{used_from, pixels_size, used_rows}
use Rattle.xcf_body.specs.Parts.{RowsInRange, RowsReady}

module _ (table : List ℕ) where
  most_from : (n j : ℕ) → used_from table n j ≤ n
  unfolding used_from
  most_from zero j = omega arith
  most_from (suc n) j = go (is_unused (row_at table j)) (most_from n (j + 1))
    where
      go : (b : Bool) {m : ℕ} → m ≤ n → cond b 0 (suc m) ≤ suc n
      go true h = omega arith
      go false h = omega arith

  pub used_most : used_rows table ≤ table_rows
  used_most = most_from table_rows 0

  kind_from : (n j i : ℕ) → i < used_from table n j → (row_at table (j + i)).kind ≡ Kind.unused → ⊥
  unfolding used_from
  kind_from zero j i h = absurd (omega arith)
  kind_from (suc n) j i h = go (is_unused (row_at table j)) refl i (kind_from n (j + 1)) h
    where
      go : (b : Bool) → is_unused (row_at table j) ≡ b → (i : ℕ) {m : ℕ} → ((i : ℕ) → i < m → (row_at table (j + 1 + i)).kind ≡ Kind.unused → ⊥)
          → i < cond b 0 (suc m) → (row_at table (j + i)).kind ≡ Kind.unused → ⊥
      go true u i behind h = absurd (omega arith)
      go false u zero behind h = rw add-zero (eqb-false _ _ u)
      go false u (suc i) behind h =
          let e : j + suc i ≡ j + 1 + i = omega arith in
          rw e (behind i (omega arith))

  pub used_kind : (k : ℕ) → k < used_rows table → (row_at table k).kind ≡ Kind.unused → ⊥
  used_kind k h = rw zero-add at (kind_from table_rows 0 k h)

-- a table without a bad row
module _ (c : Canvas) (names table : List ℕ) (good : bad_row c names table ≡ table_rows) where
  pub used_facts : (k : ℕ) → k < used_rows table → DrawableFacts names (row_at table k)
  used_facts k h =
      drawable_facts c names table k (all_usable c names table good k (omega (arith, used_most table))) (used_kind table k h)

  pub used_range : RowsInRange table (used_rows table)
  used_range k h =
      let d = used_facts k h in
      record { wide = d.wide; high = d.high; deep = d.deep; count = d.count }

pub ready : (c : Canvas) (table names pixels : List ℕ) → bad_row c names table ≡ table_rows
    → length pixels ≡ pixels_size table (used_rows table) 0 → RowsReady table names pixels (used_rows table)
ready c table names pixels good whole = record {
  few = used_most table;
  range = used_range c names table good;
  named = λ k h. (used_facts c names table good k h).named;
  short = λ k h. (used_facts c names table good k h).short;
  whole = whole;
}
