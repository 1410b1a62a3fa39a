-- The reader's answer and table, where the walk over the image came to its end: by acceptance (`accepted_read`), and by a refusal
-- (`refused_read`).
-- Assumes nothing.
use Prim.Native.Nat.{ℕ, ◌≤◌}
use mathlib.Core.Path.{◌≡◌}
use mathlib.Core.List.{List}
use native.Mathlib.Omega.{arith}
use borrow.Author.Tests.{le-leb, eq-eqb}
use lib.ListN.{length}
use Rattle.xcf_numbers.specs.Limit.{file_limit, table_rows, table_size}
use Rattle.xcf_walk.specs.Walk.{Outcome, got, refused, run}
use Rattle.xcf_table.specs.Table.{clear_from, rows_in}
use Rattle.xcf_table.proofs.Puts.{cleared_table}
use Rattle.xcf_parse.specs.declared.image.Head.{Head}
use Rattle.xcf_read.specs.Image.{Image, image}
use Rattle.xcf_read.specs.Answer.{refusal, reading_of, reading, Read}
use Rattle.xcf_read.specs.Parts.{accepted}

module _ {f old : List ℕ} (size : length old ≡ table_size) (small : length f ≤ file_limit) where
  decided : {o : Outcome Image} → run image f 0 ≡ o → Read f old (reading_of o).answer (reading_of o).table
  unfolding reading
  decided e = record { answer = rw (eq-eqb _ _ size, le-leb _ _ small, e); table = rw (eq-eqb _ _ size, le-leb _ _ small, e) }

  module _ (t : List ℕ) {new : List ℕ} (kept : length t ≡ table_size) where
    pub accepted_read : {h : Head} {k q : ℕ} → run image f 0 ≡ got (record { head = h; rows = rows_in k t }) q → k ≤ table_rows → new ≡ clear_from t k
        → Read f old (accepted h k) new
    accepted_read {k = k} e few cleared = rw (cleared, cleared_table t k kept (omega arith)) (decided e)

    pub refused_read : {n p : ℕ} → run image f 0 ≡ refused n p → new ≡ clear_from t 0 → Read f old (refusal n p) new
    refused_read e cleared = rw (cleared, cleared_table t 0 kept (omega arith)) (decided e)
