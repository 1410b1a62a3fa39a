-- What the code puts is the listing, and what it answers is the listing's: by the tests of the text's and the file's length and of the
-- reader's number. An accepted file has at most 128 rows, since its table has no more, and each of its rows has a kind; a refused one
-- has none, and so no marked tile.
-- Assumes nothing.
use mathlib.Core.Path.{◌≡◌, refl, sym, ap, ◌∙◌}
use mathlib.Core.List.{List, ◌++◌}
use mathlib.Core.Bool.{true, false, and-eq-true_iff}
use mathlib.Core.Logic.{◌⊎◌, inl, inr, ⊎_elim}
use Prim.Native.Nat.{ℕ, ◌≤◌, ◌<◌}
use native.Mathlib.Nat.{zero-add}
use native.Mathlib.Omega.{arith}
use borrow.Author.Tests.{le-leb, lt-leb, eq-eqb, ne_eqb, leb-true}
use lib.Dec.{leb, eqb}
use lib.ListN.{length, drop, length-append}
use lib.Seq.{sets-eq, length-take-le}
use Rattle.std.proofs.lemmas.Bool.{cond_both}
use Rattle.xcf_numbers.specs.Limit.{file_limit, table_rows, table_size}
use Rattle.xcf_numbers.specs.Kind
use Rattle.xcf_numbers.specs.Refusal
use Rattle.io.specs.Counts.{IsPrefixLen}
use Rattle.xcf_store.specs.Put.{PutWithin}
use Rattle.xcf_walk.specs.Walk.{Outcome, got, refused, run}
use Rattle.xcf_laws.proofs.Cases.{below_or}
use Rattle.xcf_table.specs.Table.{row_at}
use Rattle.xcf_read.specs.declared.ReadAnswer.{ReadAnswer}
use Rattle.xcf_read.specs.Image.{Image, image}
use Rattle.xcf_read.specs.Answer.{refusal, Reading, reading_of, reading, Read}
use Rattle.xcf_read_laws.proofs.Accepted.{accepted_sized, read_walked, accepted_exactly}
use Rattle.xcf_read_laws.proofs.Accepts.{Accepts, accepts}
use Rattle.xcf_listing.specs.declared.ListAnswer.{ListAnswer}
use Rattle.xcf_listing.specs.Listing.{text_size, row_lines, lines_of, marked_tiles, list_limit, reading_within, lent_fits, Listing, list_answer, answer_of, not_listed, listing, Lists, Prints}
use Rattle.xcf_line.specs.Line.{canvas_line, refused_line}

-- row 128 would be an unused row, of kind 0
no_row : (table : List ℕ) → length table ≡ table_size → (row_at table table_rows).kind ≡ Kind.unused
unfolding row_at
no_row table size = rw size

few_rows : {f : List ℕ} {x : Reading} → Accepts f x → x.answer.rows ≤ table_rows
few_rows {x = x} a =
    ⊎_elim
    (λ below. omega arith)
    (λ above. absurd (omega (arith, (a.row table_rows (omega arith)).kind.0, no_row x.table a.long)))
    (below_or x.answer.rows 129)

-- what the code needs to know of an accepted reading
pub record Listable (a : ReadAnswer) (table : List ℕ) : Type 0 where
  pub way : a.compression ≤ 1
  pub few : a.rows ≤ table_rows
  pub size : length table ≡ table_size

pub listable : (file table : List ℕ) {a : ReadAnswer} {after : List ℕ} → Read file table a after → a.number ≡ 0 → Listable a after
listable file table read n =
    let x = accepts file table (rw read.answer at n) in
    rw (read.answer, read.table) (record { way = x.way; few = few_rows x; size = x.long })

-- a refused file has no rows, by the reader's definition; an accepted one has place 0
no_rows : (file table : List ℕ) → ((reading file table).answer.number ≡ 0 → ⊥) → (reading file table).answer.rows ≡ 0
unfolding reading
no_rows file table =
    cond_both (eqb (length table) table_size) _ _ Says
    (λ _. cond_both (leb (length file) file_limit) _ _ Says (λ _. walked (run image file 0)) (λ _ _. refl))
    (λ _ _. refl)
  where
    Says : Reading → Type 0
    Says x = (x.answer.number ≡ 0 → ⊥) → x.answer.rows ≡ 0

    walked : (x : Outcome Image) → ((reading_of x).answer.number ≡ 0 → ⊥) → (reading_of x).answer.rows ≡ 0
    walked (got x q) n = absurd (n refl)
    walked (refused m p) n = refl

no_place : (file table : List ℕ) → (reading file table).answer.number ≡ 0 → (reading file table).answer.place ≡ 0
no_place file table n =
    let s = accepted_sized file table n in
    let a = (accepted_exactly file table s.0 s.1).0 n in
    ap (λ (x : Reading). x.answer.place) (read_walked file table s.0 s.1 (sym a.2))

-- a file within the limit is read
within : (limit : ℕ) (file table : List ℕ) → length file ≤ limit → reading_within limit file table ≡ reading file table
unfolding reading_within
within limit file table short = rw (le-leb _ _ short)

module _ (limit : ℕ) (file table text : List ℕ) where
  -- a table of another length, or too short a text
  pub lists_none : {r : ListAnswer} → lent_fits (length table) (length text) ≡ false → r ≡ not_listed → Lists limit file table text r table text
  unfolding listing
  lists_none unfit e = record { answer = rw unfit e; table = rw unfit; text = rw unfit }

  -- the lines of a reading, put at the text's start
  module _ (fit : lent_fits (length table) (length text) ≡ true) {new : List ℕ} {r : ListAnswer} where
    lists_put : {x : Reading} → reading_within limit file table ≡ x
        → r ≡ list_answer x.answer.number x.answer.place (marked_tiles x.answer.size file x.table x.answer.compression 0 x.answer.rows) r.length
        → PutWithin text 0 (lines_of file x) text_size r.length new → Lists limit file table text r x.table new
    unfolding listing answer_of lent_fits
    lists_put {x} e a p =
        let lines = lines_of file x in
        let room : text_size ≤ length text = leb-true _ _ ((and-eq-true_iff (eqb (length table) table_size) _).0 fit).1 in
        record {
          answer = rw (fit, e) (rw (← zero-add (length lines), ← p.put.behind) a);
          table = rw (fit, e);
          text = rw (fit, e) (p.put.output ∙ sets-eq lines text 0 (omega (arith, p.few, room)) ∙ ap (λ (k : ℕ). lines ++ drop k text) (zero-add (length lines)));
        }

    -- too long a file
    pub lists_long : limit < length file → r ≡ list_answer Refusal.too_long 0 0 r.length
        → PutWithin text 0 (refused_line Refusal.too_long 0) text_size r.length new → Lists limit file table text r table new
    unfolding reading_within marked_tiles lines_of
    lists_long long a p = lists_put {x = record { answer = refusal Refusal.too_long 0; table = table }} (rw (lt-leb _ _ long)) a p

    -- what the reader answered
    module _ (short : length file ≤ limit) {a : ReadAnswer} {after : List ℕ} (read : Read file table a after) where
      pub lists_refused : (a.number ≡ 0 → ⊥) → r ≡ list_answer a.number a.place 0 r.length
          → PutWithin text 0 (refused_line a.number a.place) text_size r.length new → Lists limit file table text r after new
      unfolding marked_tiles lines_of
      lists_refused n e p =
          let none = no_rows file table (rw read.answer at n) in
          rw read.table
          (lists_put (within limit file table short) (rw (none, ← read.answer) e) (rw (← read.answer, ne_eqb _ _ n) p))

      -- the canvas's line, and the rows' behind it
      pub lists_accepted : a.number ≡ 0 → r ≡ list_answer 0 0 (marked_tiles a.size file after a.compression 0 a.rows) r.length
          → PutWithin text 0 (canvas_line a ++ row_lines a.size file after a.compression 0 a.rows) text_size r.length new
          → Lists limit file table text r after new
      unfolding lines_of
      lists_accepted n e p =
          let number = rw read.answer at n in
          rw read.table
          (lists_put (within limit file table short)
          (rw (number, no_place file table number, ← read.answer, ← read.table) e)
          (rw (← read.answer, ← read.table, eq-eqb _ _ n) p))

-- the length answered is that of the lines at the text's start
listing_inside : (limit : ℕ) (file table text : List ℕ) → let x = listing limit file table text in x.answer.length ≤ length x.text
unfolding listing answer_of
listing_inside limit file table text =
    cond_both (lent_fits (length table) (length text)) _ _ (λ (x : Listing). x.answer.length ≤ length x.text)
    (λ _. simp length-append (omega arith)) (λ _. omega arith)

-- the bytes of the listing are counted, so that a caller can take them
pub lists_counted : {limit : ℕ} {file table text : List ℕ} {r : ListAnswer} {after new : List ℕ} → Lists limit file table text r after new
    → Lists limit file table text r after new × IsPrefixLen r.length new
lists_counted {limit} {file} {table} {text} {r} {new = new} l =
    let inside : r.length ≤ length new = rw (l.answer, l.text) (listing_inside limit file table text) in
    (l, (inside, sym (length-take-le r.length new inside)))

-- what is listed is printed
pub lists_printed : {file table text : List ℕ} {r : ListAnswer} {after new : List ℕ} → Lists list_limit file table text r after new
    → Prints file table text after new
lists_printed l = rw l.answer at l

-- the tests of the lent table and text
pub fits_not : (table text : ℕ) → (table ≡ table_size → ⊥) ⊎ ((table ≡ table_size) × (text < text_size)) → lent_fits table text ≡ false
unfolding lent_fits
fits_not table text (inl n) = rw (ne_eqb _ _ n)
fits_not table text (inr n) = rw (eq-eqb _ _ n.0, lt-leb _ _ n.1)

pub fits_both : (table text : ℕ) → table ≡ table_size → text_size ≤ text → lent_fits table text ≡ true
unfolding lent_fits
fits_both table text t n = rw (eq-eqb _ _ t, le-leb _ _ n)
