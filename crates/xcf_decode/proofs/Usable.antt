-- A row that is not refused has its numbers in range, with a size of pointers and a compression that are taken (`row_usable`); where
-- nothing of the drawable is refused, it is ready and the buffers fit (`drawable_ready`), since no walk is refused with 0. Buffers that
-- fit have the row's lengths (`fit_lengths`).
-- Assumes nothing.
use Prim.Native.Nat.{ℕ, zero, suc, ◌*◌, ◌≤◌, ◌<◌}
use mathlib.Core.Path.{◌≡◌, refl, sym}
use mathlib.Core.List.{List}
use mathlib.Core.Bool.{Bool, true, false, cond, and-eq-true_iff}
use native.Mathlib.Omega.{arith}
use borrow.Author.Tests.{leb-true, eqb-true, ne_eqb}
use lib.Dec.{leb, eqb}
use lib.ListN.{length}
use Rattle.xcf_numbers.specs.Limit.{file_limit, table_size}
use Rattle.xcf_numbers.specs.Refusal
use Rattle.xcf_walk.specs.Walk.{Outcome, got, refused, run}
use Rattle.xcf_table.specs.declared.Row.{Row}
use Rattle.xcf_walk.specs.Pointers.{tiles}
use Rattle.xcf_store.proofs.Sizes.{size_of}
use Rattle.xcf_store.specs.Pointer.{pointer_size_ok, PointerSize}
use Rattle.xcf_walk.specs.Fields.{number}
use Rattle.xcf_walk_laws.proofs.Refusals.{Refuses, refuses_done, refuses_here, refuses_length, refuses_must, refuses_bytes, refuses_bind}
use Rattle.xcf_window.proofs.Ranges.{range_of}
use Rattle.xcf_window.specs.Usable.{in_range, in_file, decodable_row, fits, row_refusal}
use Rattle.std.specs.Prelude.{Result, Ok, Err, OnOk}
use Rattle.std.specs.Result.{IsErrAnd}
use Rattle.xcf_numbers.specs.Reason.{number_of}
use Rattle.xcf_numbers.specs.declared.reason.Refusal.{Refusal as Refusals}
use Rattle.xcf_store.specs.Width.{bytes_of}
use Rattle.xcf_walk.specs.Cursor.{outcome}
use Rattle.xcf_window.specs.declared.drawable.Drawable.{Drawable}
use Rattle.xcf_decode.specs.Parts.{decoding_of, marked_of, verdict_answer}
use Rattle.xcf_decode.specs.Answer.{refusal, pointers_refusal, drawable_refusal, nonzero, marks_of, row_decoding}
use Rattle.xcf_window.specs.Parts.{Ready, DrawableOf, IsReady}
use Rattle.xcf_grid.specs.Drawn.{InRange}

-- a choice that is 0 where its other branch is not
cond_zero : (b : Bool) (x y : ℕ) → (y ≡ 0 → ⊥) → cond b x y ≡ 0 → (b ≡ true) × (x ≡ 0)
cond_zero true x y other e = (refl, e)
cond_zero false x y other e = absurd (other e)

pub row_usable : (size file_length n : ℕ) (r : Row) (compression : ℕ) → row_refusal size file_length n r compression ≡ 0 → PointerSize size × InRange r × (compression ≤ 1)
unfolding row_refusal decodable_row
row_usable size file_length n r compression e =
    let table = cond_zero (eqb n table_size) _ 11 (λ z. omega (arith, z)) e in
    let file = cond_zero (leb file_length file_limit) _ 15 (λ z. omega (arith, z)) table.1 in
    let usable = (and-eq-true_iff (pointer_size_ok size) _).0 (cond_zero (decodable_row size file_length r compression) _ 14 (λ z. omega (arith, z)) file.1).0 in
    let row = (and-eq-true_iff (in_range r) _).0 usable.1 in
    let inside = (and-eq-true_iff (in_file size file_length r) _).0 row.1 in
    (size_of usable.0, range_of size file_length r row.0 inside.0, leb-true compression 1 inside.1)

-- a walk over tile pointers is not refused with 0
refuses_number : (size : ℕ) → Refuses (λ n. 0 < n) (number size)
unfolding number
refuses_number size = refuses_bind _ (refuses_bytes size (omega arith)) λ b. refuses_done

refuses_tiles : (size n before : ℕ) → Refuses (λ n. 0 < n) (tiles size n before)
unfolding tiles
refuses_tiles size zero before = refuses_bind _ refuses_here λ at. refuses_bind _ (refuses_number size) λ p. refuses_must _ Refusal.bad_tile_pointer at (omega arith)
refuses_tiles size (suc n) before =
    refuses_bind _ refuses_here λ at. refuses_bind _ refuses_length λ end. refuses_bind _ (refuses_number size) λ p.
    refuses_bind _ (refuses_must _ Refusal.bad_tile_pointer at (omega arith)) λ _. refuses_tiles size n p

pointers_taken : (x : Outcome (Unit {0})) → ((n p : ℕ) → refused n p ≡ x → 0 < n) → (pointers_refusal x).number ≡ 0 → (q : ℕ) × (got tt q ≡ x)
pointers_taken (got u q) number z = (q, refl)
pointers_taken (refused n p) number z = absurd (omega (arith, z, number n p refl))

pub drawable_ready : (size : ℕ) (f : List ℕ) (n : ℕ) (r : Row) (compression : ℕ) (fit : Bool)
    → (drawable_refusal size f n r compression fit).number ≡ 0 → PointerSize size × Ready size f r × (compression ≤ 1) × (fit ≡ true)
unfolding drawable_refusal
drawable_ready size f n r compression fit = go (row_refusal size (length f) n r compression) refl fit
  where
    go : (m : ℕ) → row_refusal size (length f) n r compression ≡ m → (b : Bool)
        → (cond (eqb m 0) (cond b (pointers_refusal (run (tiles size r.count 0) f r.pointers)) (refusal Refusal.wrong_buffer 0)) (refusal m 0)).number ≡ 0
        → PointerSize size × Ready size f r × (compression ≤ 1) × (b ≡ true)
    go (suc m) e b z = absurd (let h : suc m ≡ 0 = rw (ne_eqb (suc m) 0 (λ h. omega (arith, h))) at z in omega (arith, h))
    go zero e false z = absurd (omega (arith, z))
    go zero e true z =
        let usable = row_usable size (length f) n r compression e in
        let end = pointers_taken (run (tiles size r.count 0) f r.pointers) (λ n p e. (refuses_tiles size r.count 0).number f r.pointers e) z in
        (usable.0, record { range = usable.1; end = end.0; pointers = end.1 }, usable.2, refl)

pub fit_lengths : (r : Row) (pixels marks : ℕ) → fits r pixels marks ≡ true → (pixels ≡ r.width * r.height * r.depth) × (marks ≡ r.count)
unfolding fits
fit_lengths r pixels marks e =
    let b = (and-eq-true_iff (eqb pixels (r.width * r.height * r.depth)) (eqb marks r.count)).0 e in
    (eqb-true pixels _ b.0, eqb-true marks r.count b.1)

-- a walk over the pointers of a drawable in range that is taken makes it ready
pub pointers_ready : (d : Drawable) → InRange d.row → (r : Result (Unit {0}) Refusals) (at : ℕ)
    → run (tiles (bytes_of d.width) d.row.count 0) d.file.now d.row.pointers ≡ outcome (λ (x : Unit {0}). x) r at → OnOk r (IsReady d)
pointers_ready d range (Ok u) at e = record { range = range; end = at; pointers = sym e }
pointers_ready d range (Err x) at e = tt

-- where the row is not refused and the buffers fit, its pointers decide
pub pointers_decide : {size : ℕ} {f : List ℕ} (n : ℕ) {r : Row} {compression : ℕ} {fit : Bool} {d : Drawable} → DrawableOf size f r compression d
    → 0 ≡ row_refusal size (length f) n r compression → fit ≡ true
    → pointers_refusal (run (tiles (bytes_of d.width) d.row.count 0) d.file.now d.row.pointers) ≡ drawable_refusal size f n r compression fit
unfolding drawable_refusal
pointers_decide n o z e = rw (o.file, o.row, ← o.sized, ← z, e) refl

-- what is decoded of a row's drawable is the row's
pub same_decoding : {size : ℕ} {f : List ℕ} {r : Row} {compression : ℕ} {d : Drawable} → DrawableOf size f r compression d → decoding_of d ≡ row_decoding size f r compression
same_decoding o = rw (o.file, o.row, ← o.sized, ← o.way) refl

pub same_marked : {size : ℕ} {f : List ℕ} {r : Row} {compression : ℕ} {d : Drawable} → DrawableOf size f r compression d → marked_of d ≡ nonzero (marks_of size f r compression)
same_marked o = rw (o.file, o.row, ← o.sized, ← o.way) refl

-- a refusal handed on is answered the same
pub same_refusal : {A : Type 0} (r : Result A Refusals) (e : Refusals) → IsErrAnd r (λ x. x ≡ e) → verdict_answer r ≡ refusal (number_of e.reason) e.place
same_refusal (Ok a) e h = absurd h
same_refusal (Err x) e h = rw h refl
