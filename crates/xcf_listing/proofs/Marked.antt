-- How many tiles are marked: of a row at most 65,536, since a refusal counts none and a usable row has no more tiles (`marked_few`), and
-- so of n rows at most n times as many (`tiles_few`). A loop adds a row's to those of the rows before it (`tiles_turn`).
-- Assumes nothing.
use Prim.Native.Nat.{ℕ, zero, suc, ◌+◌, ◌*◌, ◌≤◌}
use mathlib.Core.Path.{◌≡◌, refl, ap}
use mathlib.Core.List.{List}
use mathlib.Core.Bool.{true}
use native.Mathlib.Nat.{add-zero, zero-add}
use native.Mathlib.Numerals.{add-one}
use native.Mathlib.Omega.{arith}
use borrow.Author.Tests.{eqb-true}
use lib.Dec.{eqb}
use lib.ListN.{length}
use Rattle.std.proofs.lemmas.Bool.{cond_both}
use Rattle.xcf_walk.specs.Walk.{Outcome, got, refused, run}
use Rattle.xcf_table.specs.declared.Row.{Row}
use Rattle.xcf_table.specs.Table.{row_at}
use Rattle.xcf_walk.specs.Pointers.{tiles}
use Rattle.xcf_grid.proofs.FewTiles.{few_tiles}
use Rattle.xcf_decode.specs.declared.DecodeAnswer.{DecodeAnswer}
use Rattle.xcf_window.specs.Window.{tile}
use Rattle.xcf_decode.specs.Answer.{refusal, pointers_refusal, drawable_refusal, nonzero, marks_of, counted, counting}
use Rattle.xcf_window.specs.Usable.{row_refusal}
use Rattle.xcf_grid.specs.Drawn.{InRange}
use Rattle.xcf_decode.proofs.Marked.{nonzero_below}
use Rattle.xcf_decode.proofs.Usable.{drawable_ready}
use Rattle.xcf_listing.specs.Listing.{marked_tiles}

-- the marks of a row in range
range_few : (size : ℕ) {r : Row} (compression : ℕ) (file : List ℕ) → InRange r → nonzero (marks_of size file r compression) ≤ 65536
unfolding marks_of
range_few size {r} compression file range =
    omega (
      arith,
      nonzero_below r.count (λ t. (tile size file r compression t).mark),
      range.count,
      few_tiles r.width r.height range.wide.1 range.high.1,
    )

-- a refusal of a row or of its tile pointers counts none
outcome_none : (x : Outcome (Unit {0})) → (pointers_refusal x).marked ≡ 0
outcome_none (got u q) = refl
outcome_none (refused n p) = refl

refusal_none : (size : ℕ) (file : List ℕ) (n : ℕ) (r : Row) (compression : ℕ) → (drawable_refusal size file n r compression true).marked ≡ 0
unfolding drawable_refusal
refusal_none size file n r compression =
    let row = row_refusal size (length file) n r compression in
    cond_both (eqb row 0) (pointers_refusal (run (tiles size r.count 0) file r.pointers)) (refusal row 0) (λ (a : DecodeAnswer). a.marked ≡ 0)
    (λ _. outcome_none (run (tiles size r.count 0) file r.pointers)) (λ _. refl)

pub marked_few : (size : ℕ) (file table : List ℕ) (k compression : ℕ) → (counting size file table k compression).marked ≤ 65536
unfolding counting
marked_few size file table k compression =
    let r = row_at table k in
    let n = length table in
    let answer = drawable_refusal size file n r compression true in
    cond_both (eqb answer.number 0) (counted (marks_of size file r compression)) answer (λ (a : DecodeAnswer). a.marked ≤ 65536)
    (λ e. range_few size compression file (drawable_ready size file n r compression true (eqb-true _ 0 e)).1.range)
    (λ _. omega (arith, refusal_none size file n r compression))

module _ (size : ℕ) (file table : List ℕ) (compression : ℕ) where
  pub tiles_few : (k n : ℕ) → marked_tiles size file table compression k n ≤ 65536 * n
  unfolding marked_tiles
  tiles_few k zero = omega arith
  tiles_few k (suc n) = omega (arith, marked_few size file table k compression, tiles_few (k + 1) n)

  -- n + 1 rows: the last one's beside those of the first n
  tiles_next : (k n : ℕ) → marked_tiles size file table compression k (suc n)
      ≡ marked_tiles size file table compression k n + (counting size file table (k + n) compression).marked
  unfolding marked_tiles
  tiles_next k zero = omega (arith, ap (λ (j : ℕ). (counting size file table j compression).marked) (add-zero k))
  tiles_next k (suc n) =
      let last : k + 1 + n ≡ k + suc n = omega arith in
      omega (arith, tiles_next (k + 1) n, ap (λ (j : ℕ). (counting size file table j compression).marked) last)

  -- before the first turn
  pub tiles_start : 0 ≡ marked_tiles size file table compression 0 0
  unfolding marked_tiles
  tiles_start = refl

  -- a turn
  pub tiles_turn : (k : ℕ) {m n : ℕ} → m ≡ marked_tiles size file table compression 0 k → n ≡ (counting size file table k compression).marked
      → m + n ≡ marked_tiles size file table compression 0 (k + 1)
  tiles_turn k d e = rw (add-one, tiles_next 0 k, zero-add, d, e)
