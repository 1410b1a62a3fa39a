-- A file that was measured: where it fits and is stored, and where it does not fit, the answer and the output are the definition's.
-- Assumes nothing.
use Prim.Native.Nat.{ℕ, ◌≤◌, ◌<◌}
use mathlib.Core.Path.{◌≡◌, sym, ap, ◌∙◌}
use mathlib.Core.List.{List, ◌++◌}
use mathlib.Core.Bool.{true, false, ◌&&◌, and-eq-true_iff}
use mathlib.Core.Logic.{◌⊎◌, inl, inr}
use native.Mathlib.Nat.{zero-add}
use native.Mathlib.Omega.{arith}
use borrow.Author.Tests.{leb-true, le-leb, lt-leb}
use lib.ListN.{length, drop}
use lib.Seq.{sets-eq}
use lib.Dec.{leb}
use Rattle.xcf_numbers.specs.Limit.{file_limit}
use Rattle.xcf_numbers.specs.Refusal
use Rattle.xcf_store.specs.Put.{Put}
use Rattle.xcf_table.specs.declared.canvas.Canvas.{Canvas}
use Rattle.xcf_write.specs.File.{image_size, file_bytes}
use Rattle.xcf_body.specs.Rows.{drawables_from, used_rows}
use Rattle.xcf_write.specs.Answer.{answered, file_of}
use Rattle.xcf_body.specs.Parts.{end_of}
use Rattle.xcf_write.specs.Parts.{Fitted}
use Rattle.xcf_write.proofs.FileLaws.{file_length_lem}
use Rattle.xcf_write.proofs.Accepted.{fitted, not_fitted}

-- a size that fits
pub fits_room : (size room : ℕ) → (leb size room && leb size file_limit) ≡ true → (size ≤ room) × (size ≤ file_limit)
fits_room size room e =
    let both = (and-eq-true_iff (leb size room) (leb size file_limit)).0 e in
    (leb-true _ _ both.0, leb-true _ _ both.1)

-- the test of a size that fits, and of one that does not
size_fits : (size room : ℕ) → size ≤ room → size ≤ file_limit → (leb size room && leb size file_limit) ≡ true
size_fits size room within low = rw (le-leb size room within, le-leb size file_limit low)

size_fails : (size room : ℕ) → (room < size) ⊎ ((size ≤ room) × (file_limit < size)) → (leb size room && leb size file_limit) ≡ false
size_fails size room (inl long) = rw (lt-leb size room long)
size_fails size room (inr (within, long)) = rw (le-leb size room within, lt-leb size file_limit long)

-- what is stored at the start of a list that has room for it
stored : {old bs new : List ℕ} {end : ℕ} → length bs ≤ length old → Put old 0 bs end new → new ≡ bs ++ drop (length bs) old
stored {old} {bs} h p = p.output ∙ rw (sets-eq bs old 0 (omega arith), zero-add)

module _ (c : Canvas) (table names pixels old : List ℕ) (n : ℕ) (e : n ≡ used_rows table) {start size : ℕ}
    (s : start ≡ image_size c (drawables_from table n 0 names pixels)) (m : size ≡ end_of (drawables_from table n 0 names pixels) start) where
  file_is : file_bytes c (drawables_from table n 0 names pixels) ≡ file_of c table names pixels
  unfolding file_of
  file_is = rw e

  size_is : size ≡ length (file_of c table names pixels)
  size_is = m ∙ sym (file_length_lem c (drawables_from table n 0 names pixels) s) ∙ ap length file_is

  pub fits : {end : ℕ} {stored_in new : List ℕ} → size ≤ length old → size ≤ file_limit
      → Put old 0 (file_bytes c (drawables_from table n 0 names pixels)) end stored_in → new ≡ stored_in
      → Fitted c table names pixels old (answered Refusal.accepted 0 size) new
  fits within low p z =
      let tested = size_fits size (length old) within low in
      rw (z, size_is)
      (fitted c table names pixels old (rw size_is at tested) (stored (omega (arith, size_is)) (rw file_is at p)))

  pub fits_not : (length old < size) ⊎ ((size ≤ length old) × (file_limit < size)) → Fitted c table names pixels old (answered Refusal.no_room 0 0) old
  fits_not long = not_fitted c table names pixels old (rw size_is at (size_fails size (length old) long))
