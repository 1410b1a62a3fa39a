-- The lister answers 0 or 11, and its verdict on a file is 0, 15 or a number of the reader's walk (`lister_listed`); it is the reader's
-- own, since at the file limit it is the reader that finds a file too long (`lister_as_reader`). By the tests of their lengths.
-- Assumes nothing.
use Prim.Native.Nat.{ℕ}
use mathlib.Core.Path.{◌≡◌, refl}
use mathlib.Core.List.{List}
use mathlib.Core.Bool.{true, and-eq-true_iff}
use borrow.Author.Tests.{eq-eqb, eqb-true}
use lib.Dec.{leb, eqb}
use lib.ListN.{length}
use Rattle.std.proofs.lemmas.Bool.{cond_both}
use Rattle.xcf_numbers.specs.Limit.{file_limit, table_size}
use Rattle.xcf_numbers.specs.Listed.{listed}
use Rattle.xcf_read.specs.Answer.{verdict_numbers, Reading, reading}
use Rattle.xcf_read_laws.proofs.ReaderNumbers.{verdict_listed}
use Rattle.xcf_listing.specs.Listing.{reading_within, lent_fits, Listing, answer_of, listing, lister_numbers, ListsAsTheReader}

within_listed : (limit : ℕ) (file table : List ℕ) → length table ≡ table_size
    → listed verdict_numbers (reading_within limit file table).answer.number ≡ true
unfolding reading_within listed
within_listed limit file table fit =
    cond_both (leb (length file) limit) _ _ (λ (x : Reading). listed verdict_numbers x.answer.number ≡ true)
    (λ _. verdict_listed file table fit) (λ _. refl)

-- a table that fits has the right length
table_fits : (table text : ℕ) → lent_fits table text ≡ true → table ≡ table_size
unfolding lent_fits
table_fits table text fit = eqb-true _ _ ((and-eq-true_iff (eqb table table_size) _).0 fit).0

pub lister_listed : (limit : ℕ) (file table text : List ℕ) →
    let a = (listing limit file table text).answer in (listed lister_numbers a.number ≡ true) × (listed verdict_numbers a.refused ≡ true)
unfolding listing answer_of listed
lister_listed limit file table text =
    cond_both (lent_fits (length table) (length text))
    _ _ (λ (x : Listing). (listed lister_numbers x.answer.number ≡ true) × (listed verdict_numbers x.answer.refused ≡ true))
    (λ fit. (refl, within_listed limit file table (table_fits _ _ fit)))
    (λ _. (refl, refl))

-- at the file limit it is the reader that finds a file too long
pub within_all : (file table : List ℕ) → length table ≡ table_size → reading_within file_limit file table ≡ reading file table
unfolding reading_within reading
within_all file table fit =
    cond_both (leb (length file) file_limit) _ _ (λ (x : Reading). x ≡ reading file table) (λ _. refl) (λ long. rw (eq-eqb _ _ fit, long))

pub lister_as_reader : (file table text : List ℕ) → ListsAsTheReader file table text
unfolding listing answer_of
lister_as_reader file table text = record {
  verdict = λ fit. rw (fit, within_all file table (table_fits _ _ fit)) (refl, refl, refl);
  table = λ fit. rw (fit, within_all file table (table_fits _ _ fit));
  text = λ fit. rw (fit, within_all file table (table_fits _ _ fit));
  unfit = λ unfit. rw unfit;
}
