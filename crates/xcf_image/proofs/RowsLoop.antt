-- The loops over the rows of a table that count a kind and look for a new mode: what is left from row k on, with what was found
-- before it, gives the whole. Each step unfolds one row.
-- Assumes nothing.
use Prim.Native.Nat.{ℕ, zero, suc, ◌+◌, ◌-◌, ◌≤◌, ◌<◌}
use mathlib.Core.Path.{◌≡◌, refl, sym}
use mathlib.Core.List.{List, [], ◌∷◌}
use mathlib.Core.Bool.{Bool, true, false, cond}
use mir.Val.{bool_byte}
use native.Mathlib.Nat.{sub-zero, zero-add}
use native.Mathlib.Omega.{arith}
use borrow.Author.Tests.{le-leb, lt-leb}
use lib.ListN.{length, length-append}
use lib.Dec.{eqb}
use Rattle.std.specs.Bool.{MatchBool}
use Rattle.std.specs.List.{AllWithin, HoldsAt, range_with_len}
use Rattle.xcf_numbers.specs.Limit.{new_mode}
use Rattle.xcf_table.specs.declared.Row.{Row}
use Rattle.xcf_table.specs.Table.{row_at}
use Rattle.xcf_store.specs.Word.{when}
use Rattle.xcf_image.specs.Image.{is_new_mode, version_of, kind_places}
use Rattle.xcf_image.specs.Parts.{rows_from}
use Rattle.xcf_laws.proofs.Steps.{rest_begins, rest_empty}

-- how many of the rows before row k are of a kind
pub record KindLeft (table : List ℕ) (n kind k count : ℕ) : Type 0 where
  pub few : k ≤ n
  pub most : count ≤ k
  pub rest : count + length (kind_places kind (rows_from table (n - k) k) []) ≡ length (kind_places kind (rows_from table n 0) [])

pub kind_first : (table : List ℕ) (n kind : ℕ) → KindLeft table n kind 0 0
kind_first table n kind = record { few = omega arith; most = omega arith; rest = rw (sub-zero, zero-add) }

pub byte_most : (b : Bool) → bool_byte b ≤ 1
byte_most true = omega arith
byte_most false = omega arith

byte_one : (b : Bool) → bool_byte b ≡ cond b 1 0
byte_one true = refl
byte_one false = refl

pub one_when : (b : Bool) (p : ℕ) → length (when b (p ∷ [])) ≡ cond b 1 0
one_when true p = refl
one_when false p = refl

module _ {table : List ℕ} {n kind k count : ℕ} {r : Row} (g : KindLeft table n kind k count) (h : k < n) (e : r ≡ row_at table k) where
  kind_step : count + (cond (eqb r.kind kind) 1 0 + length (kind_places kind (rows_from table (n - (k + 1)) (k + 1)) []))
      ≡ length (kind_places kind (rows_from table n 0) [])
  unfolding kind_places rows_from
  kind_step = rw e (rw (rest_begins n k h, length-append, one_when) at g.rest)

  pub kind_next : {one : ℕ} → one ≡ bool_byte (eqb r.kind kind) → KindLeft table n kind (k + 1) (count + one)
  kind_next is = record {
    few = omega arith;
    most = omega (arith, g.most, byte_most);
    rest = omega (arith, is, byte_one (eqb r.kind kind), kind_step);
  }

pub kind_over : {table : List ℕ} {n kind k count : ℕ} → KindLeft table n kind k count → n ≤ k
    → count ≡ length (kind_places kind (rows_from table n 0) [])
unfolding kind_places rows_from
kind_over {n} {k} g h = omega (arith, rw (rest_empty n k h) at g.rest)

either : (b : Bool) (n : ℕ) → cond b n n ≡ n
either true n = refl
either false n = refl

-- the version by the search for a row with a new mode, from row k on
new_found : (table : List ℕ) (n k i : ℕ) → i < length (range_with_len k n) → HoldsAt (λ j. new_mode ≤ (row_at table j).mode) (range_with_len k n) i
    → version_of (rows_from table n k) ≡ 2
unfolding version_of rows_from
new_found table zero k i few h = absurd (omega arith)
new_found table (suc n) k zero few h = rw (le-leb new_mode (row_at table k).mode (h 0))
new_found table (suc n) k (suc i) few h = rw (new_found table n (k + 1) i (omega arith) (λ d. h d)) (either (is_new_mode (row_at table k)) 2)

none_found : (table : List ℕ) (n k : ℕ) → AllWithin (λ j. (row_at table j).mode < new_mode) (range_with_len k n) 0 (length (range_with_len k n))
    → version_of (rows_from table n k) ≡ 0
unfolding version_of rows_from
none_found table zero k h = refl
none_found table (suc n) k h =
    let old : (row_at table k).mode < new_mode = h 0 0 (omega arith) (omega arith) in
    rw (lt-leb new_mode _ old) (none_found table n (k + 1) (λ i d low few. h (suc i) d (omega arith) (omega arith)))

pub version_told : (table : List ℕ) (n : ℕ) (r : Bool)
    → MatchBool r ((i : ℕ) × (i < length (range_with_len 0 n)) × HoldsAt (λ j. new_mode ≤ (row_at table j).mode) (range_with_len 0 n) i)
    (AllWithin (λ j. (row_at table j).mode < new_mode) (range_with_len 0 n) 0 (length (range_with_len 0 n)))
    → cond r 2 0 ≡ version_of (rows_from table n 0)
version_told table n true h = sym (new_found table n 0 h.0 h.1 h.2)
version_told table n false h = sym (none_found table n 0 h)
