-- What the rows before a row are: one row more counts what it is (`before_next`, `seen_next`, `seen_behind`, `counted`); a count
-- of the rows before row k is at most k (`before_most`), and at most m where no row that passes has m before it (`few_pass`).
-- Assumes nothing.
use Prim.Native.Nat.{ℕ, zero, suc, ◌+◌, ◌≤◌, ◌<◌}
use mathlib.Core.Path.{◌≡◌, refl}
use mathlib.Core.List.{List}
use mathlib.Core.Bool.{Bool, true, false, cond}
use mir.Val.{bool_byte}
use native.Mathlib.Numerals.{add-one}
use native.Mathlib.Omega.{arith}
use Rattle.xcf_table.specs.declared.Row.{Row}
use Rattle.xcf_table.specs.Table.{unused_row, row_at}
use Rattle.xcf_usable.specs.declared.seen.Seen.{Seen}
use Rattle.xcf_usable.specs.Usable.{is_layer, is_channel, is_unused, is_active_layer, is_active_channel, is_selection, count_before, row_before, seen_at}

pub before_next : (test : Row → Bool) (table : List ℕ) (k : ℕ)
    → count_before test table (k + 1) ≡ count_before test table k + cond (test (row_at table k)) 1 0
unfolding count_before
before_next test table k = rw add-one

-- nothing is seen before row 0
pub seen_none : (table : List ℕ) (s : Seen)
    → (s.layers ≡ 0) × ((s.channels ≡ 0) × ((s.unused ≡ 0) × ((s.current ≡ 0) × ((s.active ≡ 0) × ((s.selections ≡ 0) × (s.row ≡ unused_row))))))
    → s ≡ seen_at table 0
unfolding seen_at count_before row_before
seen_none table s (layers, (channels, (unused, (current, (active, (selections, row)))))) =
    rw (layers, channels, unused, current, active, selections, row)

-- what is seen behind a row
abbrev seeing : Seen → Row → Seen
seeing s r = record {
  layers = s.layers + cond (is_layer r) 1 0;
  channels = s.channels + cond (is_channel r) 1 0;
  unused = s.unused + cond (is_unused r) 1 0;
  current = s.current + cond (is_active_layer r) 1 0;
  active = s.active + cond (is_active_channel r) 1 0;
  selections = s.selections + cond (is_selection r) 1 0;
  row = r;
}

seen_next : (table : List ℕ) (k : ℕ) → seen_at table (k + 1) ≡ seeing (seen_at table k) (row_at table k)
unfolding seen_at count_before row_before
seen_next table k = rw add-one

-- the counts made one by one
pub byte_one : (b : Bool) → bool_byte b ≡ cond b 1 0
byte_one true = refl
byte_one false = refl

pub seen_behind : (table : List ℕ) (k : ℕ) {s : Seen} {r : Row} {l c u n m o : ℕ} {layer channel selection : Bool}
    → s ≡ seen_at table k → r ≡ row_at table k
    → l ≡ bool_byte (is_layer r) → c ≡ bool_byte (is_channel r) → u ≡ bool_byte (is_unused r)
    → layer ≡ is_active_layer r → n ≡ bool_byte layer
    → channel ≡ is_active_channel r → m ≡ bool_byte channel
    → selection ≡ is_selection r → o ≡ bool_byte selection
    → ◌≡◌ {A = Seen} (record {
      layers = s.layers + l;
      channels = s.channels + c;
      unused = s.unused + u;
      current = s.current + n;
      active = s.active + m;
      selections = s.selections + o;
      row = r;
    }) (seen_at table (k + 1))
seen_behind table k es er el ec eu ela en ech em ese eo = simp (el, ec, eu, en, em, eo, ela, ech, ese, byte_one, seen_next, ← es, er)

pub one_most : (b : Bool) → cond b 1 0 ≤ 1
one_most true = omega arith
one_most false = omega arith

pub before_most : (test : Row → Bool) (table : List ℕ) (k : ℕ) → count_before test table k ≤ k
unfolding count_before
before_most test table zero = omega arith
before_most test table (suc k) = omega (arith, before_most test table k, one_most (test (row_at table k)))

pub byte_most : (b : Bool) → bool_byte b ≤ 1
byte_most true = omega arith
byte_most false = omega arith

-- a row that passes is counted behind it
pub counted : (test : Row → Bool) (table : List ℕ) (k : ℕ) → test (row_at table k) ≡ true → 1 ≤ count_before test table (k + 1)
counted test table k e = rw (before_next, e) (omega arith)

one_more : (b : Bool) {n m : ℕ} → n ≤ m → (b ≡ true → n < m) → n + cond b 1 0 ≤ m
one_more true low below = omega (arith, below refl)
one_more false low below = omega arith

-- where fewer than m rows come before each row that passes, m pass at most
pub few_pass : (test : Row → Bool) (table : List ℕ) (m n : ℕ)
    → ((k : ℕ) → k < n → test (row_at table k) ≡ true → count_before test table k < m) → count_before test table n ≤ m
unfolding count_before
few_pass test table m zero few = omega arith
few_pass test table m (suc n) few =
    one_more (test (row_at table n)) (few_pass test table m n (λ k h. few k (omega arith))) (few n (omega arith))

-- no count is above n
pub record CountsMost (s : Seen) (n : ℕ) : Type 0 where
  pub layers : s.layers ≤ n
  pub channels : s.channels ≤ n
  pub unused : s.unused ≤ n
  pub current : s.current ≤ n
  pub active : s.active ≤ n
  pub selections : s.selections ≤ n

pub seen_most : (table : List ℕ) (k : ℕ) → CountsMost (seen_at table k) k
unfolding seen_at
seen_most table k = record {
  layers = before_most is_layer table k;
  channels = before_most is_channel table k;
  unused = before_most is_unused table k;
  current = before_most is_active_layer table k;
  active = before_most is_active_channel table k;
  selections = before_most is_selection table k;
}
