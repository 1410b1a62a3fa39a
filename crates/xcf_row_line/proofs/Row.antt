-- A row's line from the table's numbers, as the code takes them; its parts, put one behind the other, are the line, and fewer bytes
-- than its room, by `within_append`.
-- Assumes nothing.
use mathlib.Core.Path.{◌≡◌}
use mathlib.Core.Bool.{Bool, true, false, cond}
use mathlib.Core.List.{List, ◌++◌, flat_map}
use Prim.Native.Nat.{ℕ, ◌+◌, ◌-◌, ◌*◌, ◌≤◌}
use native.Mathlib.Omega.{arith}
use lib.Dec.{eqb}
use lib.ListN.{length, take, drop, get_or, length-take}
use Rattle.xcf_numbers.specs.Kind
use Rattle.xcf_numbers.specs.Limit.{row_size}
use Rattle.xcf_store.specs.Put.{Put, PutWithin}
use Rattle.xcf_store.proofs.Room.{within_room}
use Rattle.xcf_store.proofs.Stores.{put_within, within_append, within_more}
use Rattle.xcf_table.proofs.Rows.{row_there}
use Rattle.xcf_text.specs.Text.{newline, decimal, spaced, labelled, line_size}
use Rattle.xcf_text.specs.Words.{layer, mask, channel, bad}
use Rattle.xcf_row_line.specs.RowLine.{kind_name, kind_size, row_line}

-- a kind's word is short
by_tests : (b c : Bool) → length (cond b layer (cond c mask channel)) ≤ kind_size
by_tests true c = omega arith
by_tests false true = omega arith
by_tests false false = omega arith

kind_few : (kind : ℕ) → length (kind_name kind) ≤ kind_size
unfolding kind_name
kind_few kind = by_tests (eqb kind Kind.layer) (eqb kind Kind.mask)

-- a row's fields, as the code takes them
abbrev fields : List ℕ → ℕ → List ℕ
fields table k = take (row_size * k + row_size - (row_size * k + 1)) (drop (row_size * k + 1) table)

-- the line of a row that the table has
row_line_lem : (table : List ℕ) (k marked : ℕ) → row_size * (k + 1) ≤ length table → row_line table k marked
    ≡ decimal k ++ (kind_name (get_or table (row_size * k) 0) ++ (flat_map spaced (fields table k) ++ (labelled bad marked ++ newline)))
unfolding row_line
row_line_lem table k marked within =
    let count : row_size * k + row_size - (row_size * k + 1) ≡ row_size - 1 = omega arith in
    rw (row_there table k within, count)

-- its parts, put one behind the other, each within its bound
pub line_put : (table : List ℕ) (k marked : ℕ) {old t₁ t₂ t₃ new : List ℕ} {at r₁ r₂ r₃ r : ℕ} → row_size * (k + 1) ≤ length table
    → PutWithin old at (decimal k) 20 r₁ t₁ → PutWithin t₁ r₁ (kind_name (get_or table (row_size * k) 0)) 8 r₂ t₂
    → PutWithin t₂ r₂ (flat_map spaced (fields table k)) (21 * length (fields table k)) r₃ t₃
    → PutWithin t₃ r₃ (labelled bad marked ++ newline) 26 r new → PutWithin old at (row_line table k marked) line_size r new
line_put table k marked within a b c d =
    rw (row_line_lem table k marked within)
    (within_more line_size (simp length-take (omega arith)) (within_append a (within_append b (within_append c d))))

-- the number is put, the kind behind it, the fields behind both
module _ (table : List ℕ) (k : ℕ) {old t₁ : List ℕ} {at r₁ : ℕ} (room : at + line_size ≤ length old) (a : PutWithin old at (decimal k) 20 r₁ t₁) where
  room_1 : r₁ + 380 ≤ length t₁
  room_1 = within_room 380 a room

  pub kind_room : (kind : ℕ) (word : List ℕ) → word ≡ kind_name kind → r₁ + length word ≤ length t₁
  kind_room kind word e = rw e (omega (arith, room_1, kind_few kind))

  module _ (kind : ℕ) {word t₂ : List ℕ} {r₂ : ℕ} (e : word ≡ kind_name kind) (p : Put t₁ r₁ word r₂ t₂) where
    kind_put : PutWithin t₁ r₁ (kind_name kind) kind_size r₂ t₂
    kind_put = within_more kind_size (kind_few kind) (put_within (rw e at p))

    room_2 : r₂ + 372 ≤ length t₂
    room_2 = within_room 372 kind_put room_1

    pub fields_room : (numbers : List ℕ) → length numbers ≤ row_size → r₂ + 21 * length numbers ≤ length t₂
    fields_room numbers few = omega (arith, room_2)

    pub last_room : (numbers : List ℕ) {t₃ : List ℕ} {r₃ : ℕ} → PutWithin t₂ r₂ (flat_map spaced numbers) (21 * length numbers) r₃ t₃ → length numbers ≤ row_size → r₃ + 4 + 22 ≤ length t₃
    last_room numbers c few = omega (arith, within_room 26 c (omega (arith, room_2)))

    module _ {t₃ : List ℕ} {r₃ : ℕ} (c : PutWithin t₂ r₂ (flat_map spaced (fields table k)) (21 * length (fields table k)) r₃ t₃) where
      pub row_put : (marked : ℕ) {new : List ℕ} {r : ℕ} → kind ≡ get_or table (row_size * k) 0 → row_size * (k + 1) ≤ length table
          → PutWithin t₃ r₃ (labelled bad marked ++ newline) 26 r new → PutWithin old at (row_line table k marked) line_size r new
      row_put marked here within d =
          rw (row_line_lem table k marked within, ← here)
          (within_more line_size (simp length-take (omega arith)) (within_append a (within_append kind_put (within_append c d))))
