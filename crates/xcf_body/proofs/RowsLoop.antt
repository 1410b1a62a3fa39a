-- The loops over the rows of a table that count the used ones and their pixels: what is left from row k on, with what was found
-- before it, gives the whole. Each step unfolds one row.
-- Assumes nothing.
use Prim.Native.Nat.{ℕ, suc, ◌+◌, ◌-◌, ◌*◌, ◌≤◌, ◌<◌}
use mathlib.Core.Path.{◌≡◌}
use mathlib.Core.List.{List}
use mathlib.Core.Bool.{cond}
use native.Mathlib.Nat.{sub-zero, zero-add}
use native.Mathlib.Omega.{arith}
use borrow.Author.Tests.{eq-eqb, ne_eqb}
use lib.Dec.{eqb}
use Rattle.xcf_body.specs.Parts.{pixel_limit}
use Rattle.xcf_numbers.specs.Limit.{table_rows}
use Rattle.xcf_numbers.specs.Kind
use Rattle.xcf_table.specs.declared.Row.{Row}
use Rattle.xcf_table.specs.Table.{row_at}
use Rattle.xcf_body.specs.Rows.{used_from, pixels_size, used_rows}
use Rattle.xcf_grid.specs.Drawn.{pixel_size}
use Rattle.xcf_laws.proofs.Steps.{rest_begins, rest_empty}

-- the rows before row k are used
pub record UsedLeft (table : List ℕ) (k : ℕ) : Type 0 where
  pub few : k ≤ table_rows
  pub rest : k + used_from table (table_rows - k) k ≡ used_rows table

pub used_first : (table : List ℕ) → UsedLeft table 0
used_first table = record { few = omega arith; rest = omega arith }

module _ {table : List ℕ} {k : ℕ} {r : Row} (g : UsedLeft table k) (h : k < table_rows) (e : r ≡ row_at table k) where
  used_step : k + cond (eqb r.kind Kind.unused) 0 (suc (used_from table (table_rows - (k + 1)) (k + 1))) ≡ used_rows table
  unfolding used_from
  used_step = rw e (rw (rest_begins table_rows k h) at g.rest)

  pub used_next : (r.kind ≡ Kind.unused → ⊥) → UsedLeft table (k + 1)
  used_next used = record { few = omega arith; rest = omega (arith, rw (ne_eqb r.kind Kind.unused used) at used_step) }

  pub used_end : r.kind ≡ Kind.unused → k ≡ used_rows table
  used_end unused = omega (arith, rw (eq-eqb r.kind Kind.unused unused) at used_step)

pub used_all : {table : List ℕ} {k : ℕ} → UsedLeft table k → table_rows ≤ k → table_rows ≡ used_rows table
unfolding used_from
used_all {k} g h = omega (arith, g.few, rw (rest_empty table_rows k h) at g.rest)

-- the pixels of the rows before row k end at a place
pub record PixelsLeft (table : List ℕ) (n k at : ℕ) : Type 0 where
  pub few : k ≤ n
  pub most : at ≤ pixel_limit * k
  pub rest : at + pixels_size table (n - k) k ≡ pixels_size table n 0

pub pixels_first : (table : List ℕ) (n : ℕ) → PixelsLeft table n 0 0
pixels_first table n = record { few = omega arith; most = omega arith; rest = rw (sub-zero, zero-add) }

-- and with row k's at another
module _ {table : List ℕ} {n k at end : ℕ} (g : PixelsLeft table n k at) (h : k < n) (e : end ≡ at + pixel_size (row_at table k)) where
  pixels_step : end + pixels_size table (n - (k + 1)) (k + 1) ≡ pixels_size table n 0
  unfolding pixels_size
  pixels_step = omega (arith, rw (rest_begins n k h) at g.rest, e)

  pub pixels_inside : end ≤ pixels_size table n 0
  pixels_inside = omega (arith, pixels_step)

  pub pixels_next : end ≤ pixel_limit * (k + 1) → PixelsLeft table n (k + 1) end
  pixels_next l = record { few = omega arith; most = l; rest = pixels_step }

pub pixels_over : {table : List ℕ} {n k at : ℕ} → PixelsLeft table n k at → n ≤ k → at ≡ pixels_size table n 0
unfolding pixels_size
pixels_over {n} {k} g h = omega (arith, rw (rest_empty n k h) at g.rest)
