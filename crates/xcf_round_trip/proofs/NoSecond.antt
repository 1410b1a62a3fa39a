-- Where at most one row of the table passes a test, none that passes it comes behind another (`no_second_lem`): so of the writer's three
-- such tests (`no_seconds`).
-- Assumes nothing.
use Prim.Native.Nat.{ℕ, zero, suc, ◌+◌, ◌-◌, ◌≤◌, ◌<◌}
use mathlib.Core.Path.{◌≡◌, refl}
use mathlib.Core.List.{List}
use mathlib.Core.Bool.{Bool, true, false}
use native.Mathlib.Nat.{add-zero, add-suc}
use native.Mathlib.Omega.{arith}
use borrow.Author.Tests.{eq-eqb}
use Rattle.xcf_numbers.specs.Limit.{table_rows}
use Rattle.xcf_table.specs.declared.Row.{Row}
use Rattle.xcf_table.specs.Table.{row_at}
use Rattle.xcf_usable.specs.Usable.{is_active_layer, is_active_channel, is_selection, count_before, seen_at, no_second}
use Rattle.xcf_usable.proofs.Counts.{before_next}
use Rattle.xcf_round_trip.specs.Taken.{RowsExcepted}
use Rattle.xcf_round_trip.proofs.UseTaken.{NoSeconds}

before_grows : (test : Row → Bool) (table : List ℕ) (k d : ℕ) → count_before test table k ≤ count_before test table (k + d)
unfolding count_before
before_grows test table k zero = rw add-zero (omega arith)
before_grows test table k (suc d) = rw add-suc (omega (arith, before_grows test table k d))

module _ (table : List ℕ) (k : ℕ) (inside : k < table_rows) where
  no_second_lem : (test : Row → Bool) → count_before test table table_rows ≤ 1
      → no_second (test (row_at table k)) (count_before test table k) ≡ true
  no_second_lem test once = go (test (row_at table k)) refl
    where
      all : count_before test table (k + 1) ≤ count_before test table table_rows
      all =
          let e : k + 1 + (table_rows - (k + 1)) ≡ table_rows = omega arith in
          rw e at (before_grows test table (k + 1) (table_rows - (k + 1)))

      go : (t : Bool) → test (row_at table k) ≡ t → no_second t (count_before test table k) ≡ true
      go true e = eq-eqb (count_before test table k) 0 (omega (arith, all, once, (rw e at (before_next test table k))))
      go false e = refl

  pub no_seconds : RowsExcepted table → NoSeconds (seen_at table k) (row_at table k)
  unfolding seen_at
  no_seconds once = record {
    current = no_second_lem is_active_layer once.layer;
    active = no_second_lem is_active_channel once.channel;
    selection = no_second_lem is_selection once.selection;
  }
