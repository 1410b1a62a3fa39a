-- A walk over tile pointers that was taken: where it ends (`tiles_end`), so that the file has them and the closing one
-- (`tiles_inside`); that each pointer is below the file's length (`tiles_below`) and the next pointer (`tiles_rise`), so that every
-- window lies in the file (`window_inside`). By induction over the tiles.
-- Assumes nothing.
use Prim.Native.Nat.{ℕ, zero, suc, ◌+◌, ◌*◌, ◌≤◌, ◌<◌}
use mathlib.Core.Path.{◌≡◌, ◌∙◌}
use mathlib.Core.List.{List}
use mathlib.Core.Bool.{and-eq-true_iff}
use native.Mathlib.Omega.{arith}
use borrow.Author.Tests.{ltb-true}
use lib.Dec.{ltb}
use lib.ListN.{length}
use Rattle.std.proofs.lemmas.Bool.{cond_both}
use Rattle.xcf_numbers.specs.Refusal
use Rattle.xcf_walk.specs.Walk.{got, run, must}
use Rattle.xcf_store.specs.Pointer.{number_at}
use Rattle.xcf_walk.specs.Fields.{number}
use Rattle.xcf_walk.proofs.Walks.{parted, run_here, run_length, got_must}
use Rattle.xcf_walk.proofs.Within.{got_number}
use Rattle.xcf_table.specs.declared.Row.{Row}
use Rattle.xcf_walk.specs.Pointers.{tiles}
use Rattle.xcf_window.specs.Window.{pointer_at, window_end}

-- a pointer passed over, with n more behind it
record Passed (size n before : ℕ) (f : List ℕ) (at q : ℕ) : Type 0 where
  above : before < number_at size f at
  below : number_at size f at < length f
  rest : got tt q ≡ run (tiles size n (number_at size f at)) f (at + size)

passed : (size n before : ℕ) (f : List ℕ) (at : ℕ) {q : ℕ} → got tt q ≡ run (tiles size (suc n) before) f at → Passed size n before f at q
unfolding tiles
passed size n before f at e =
    let p = parted (number size) _ f at (e ∙ run_here f at _ ∙ run_length f at _) in
    let w = got_number size f at p.first in
    let m = parted (must _ Refusal.bad_tile_pointer _) _ f _ p.rest in
    let t = got_must f p.place _ Refusal.bad_tile_pointer _ m.first in
    let rise = (and-eq-true_iff (ltb before p.value) (ltb p.value (length f))).0 t.1 in
    record {
      above = omega (arith, ltb-true before p.value rise.0, w.2);
      below = omega (arith, ltb-true p.value (length f) rise.1, w.2);
      rest = rw (t.0, w.0, w.2) at m.rest;
    }

pub tiles_end : (size n before : ℕ) (f : List ℕ) (at : ℕ) {q : ℕ} → got tt q ≡ run (tiles size n before) f at
    → (q ≡ at + size * (n + 1)) × (q ≤ length f)
unfolding tiles
tiles_end size zero before f at e =
    let p = parted (number size) _ f at (e ∙ run_here f at _) in
    let w = got_number size f at p.first in
    let m = got_must f p.place _ Refusal.bad_tile_pointer _ p.rest in
    (omega (arith, w.0, m.0), omega (arith, w.0, w.1, m.0))
tiles_end size (suc n) before f at e =
    let r = tiles_end size n _ f (at + size) (passed size n before f at e).rest in
    (omega (arith, r.0), r.1)

pub tiles_inside : (size n before : ℕ) (f : List ℕ) (at : ℕ) {q : ℕ} → got tt q ≡ run (tiles size n before) f at → at + size * (n + 1) ≤ length f
tiles_inside size n before f at e = let end = tiles_end size n before f at e in omega (arith, end.0, end.1)

tiles_below : (size n before : ℕ) (f : List ℕ) (at : ℕ) {q : ℕ} → got tt q ≡ run (tiles size n before) f at
    → (t : ℕ) → t < n → number_at size f (at + size * t) < length f
tiles_below size zero before f at e t below = absurd (omega arith)
tiles_below size (suc n) before f at e zero below =
    let first : at + size * 0 ≡ at = omega arith in
    rw first (passed size n before f at e).below
tiles_below size (suc n) before f at e (suc t) below =
    let next : at + size * suc t ≡ at + size + size * t = omega arith in
    rw next (tiles_below size n _ f (at + size) (passed size n before f at e).rest t (omega arith))

tiles_rise : (size n before : ℕ) (f : List ℕ) (at : ℕ) {q : ℕ} → got tt q ≡ run (tiles size n before) f at
    → (t : ℕ) → t + 1 < n → number_at size f (at + size * t) < number_at size f (at + size * (t + 1))
tiles_rise size zero before f at e t below = absurd (omega arith)
tiles_rise size (suc zero) before f at e zero below = absurd (omega arith)
tiles_rise size (suc (suc n)) before f at e zero below =
    let first : at + size * 0 ≡ at = omega arith in
    let second : at + size * (0 + 1) ≡ at + size = omega arith in
    rw (first, second) (passed size n _ f (at + size) (passed size (suc n) before f at e).rest).above
tiles_rise size (suc n) before f at e (suc t) below =
    let next : at + size * suc t ≡ at + size + size * t = omega arith in
    let after : at + size * (suc t + 1) ≡ at + size + size * (t + 1) = omega arith in
    rw (next, after) (tiles_rise size n _ f (at + size) (passed size n before f at e).rest t (omega arith))

pub window_inside : (size : ℕ) (f : List ℕ) (r : Row) {q : ℕ} → got tt q ≡ run (tiles size r.count 0) f r.pointers
    → (t : ℕ) → t < r.count → (pointer_at size f r t < window_end size f r t) × (window_end size f r t ≤ length f)
unfolding pointer_at window_end
window_inside size f r e t below =
    cond_both (ltb (t + 1) r.count) _ _ (λ (end : ℕ). (number_at size f (r.pointers + size * t) < end) × (end ≤ length f))
    (λ more.
    let h = ltb-true (t + 1) r.count more in
    (tiles_rise size r.count 0 f r.pointers e t h, omega (arith, tiles_below size r.count 0 f r.pointers e (t + 1) h)))
    (λ _. (tiles_below size r.count 0 f r.pointers e t below, omega arith))
