-- The reader answers a listed number (`reader_listed`): the 11 of a table, or a verdict on the file, 0, 15 or a number of its walk
-- (`verdict_listed`); by the tests of their lengths.
-- Assumes nothing.
use Prim.Native.Nat.{ℕ}
use mathlib.Core.Path.{◌≡◌, refl}
use mathlib.Core.List.{List}
use mathlib.Core.Bool.{true, cond, or-true}
use lib.Dec.{leb, eqb}
use lib.ListN.{length}
use borrow.Author.Tests.{eq-eqb}
use Rattle.std.proofs.lemmas.Bool.{cond_both}
use Rattle.xcf_numbers.specs.Limit.{file_limit, table_size}
use Rattle.xcf_numbers.specs.Refusal
use Rattle.xcf_numbers.specs.Listed.{listed}
use Rattle.xcf_walk.specs.Walk.{Outcome, got, refused, run}
use Rattle.xcf_read.specs.Image.{Image, image}
use Rattle.xcf_read.specs.Answer.{refusal, refusals, verdict_numbers, reader_numbers, Reading, reading_of, reading}
use Rattle.xcf_read_laws.proofs.Numbers.{refusals_listed}

-- a reading whose number is a verdict's, and one whose number is the reader's
abbrev Verdict : Reading → Type 0
Verdict x = listed verdict_numbers x.answer.number ≡ true

abbrev Listed : Reading → Type 0
Listed x = listed reader_numbers x.answer.number ≡ true

walk_listed : (x : Outcome Image) → ((n p : ℕ) → refused n p ≡ x → listed refusals n ≡ true) → Verdict (reading_of x)
unfolding listed
walk_listed (got x q) h = refl
walk_listed (refused n p) h = rw (h n p refl, or-true, or-true)

-- what the reader says of a file once the table fits
abbrev verdict : List ℕ → List ℕ → Reading
verdict file table =
    cond (leb (length file) file_limit) (reading_of (run image file 0)) (record { answer = refusal Refusal.too_long 0; table = table })

file_listed : (file table : List ℕ) → Verdict (verdict file table)
unfolding listed
file_listed file table =
    cond_both (leb (length file) file_limit) _ _ Verdict
    (λ _. walk_listed (run image file 0) (refusals_listed file)) (λ _. refl)

pub verdict_listed : (file table : List ℕ) → length table ≡ table_size → listed verdict_numbers (reading file table).answer.number ≡ true
unfolding reading
verdict_listed file table fit = rw (eq-eqb _ _ fit) (file_listed file table)

-- a verdict is one of the reader's answers
verdict_answered : (n : ℕ) → listed verdict_numbers n ≡ true → listed reader_numbers n ≡ true
unfolding listed
verdict_answered n e = rw (e, or-true)

pub reader_listed : (file table : List ℕ) → listed reader_numbers (reading file table).answer.number ≡ true
unfolding reading listed
reader_listed file table =
    cond_both (eqb (length table) table_size) _ _ Listed
    (λ _. verdict_answered (verdict file table).answer.number (file_listed file table)) (λ _. refl)
