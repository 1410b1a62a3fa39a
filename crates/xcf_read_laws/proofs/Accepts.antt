-- What acceptance gives the decoder: its pointers have a size that it knows, the file is not too long, its table has the right length, its compression is 0 or 1, and each of
-- its rows was read as `RowRead` says.
-- Assumes nothing.
use Prim.Native.Nat.{ℕ, ◌≤◌, ◌<◌}
use mathlib.Core.Path.{◌≡◌}
use mathlib.Core.List.{List}
use borrow.Author.Tests.{le-leb, eq-eqb}
use lib.ListN.{length}
use Rattle.xcf_numbers.specs.Limit.{file_limit, table_size}
use Rattle.xcf_store.specs.Pointer.{PointerSize}
use Rattle.xcf_read_laws.proofs.Versions.{version_sized}
use Rattle.xcf_walk.specs.Walk.{got}
use Rattle.xcf_table.proofs.Tables.{table_length, table_row}
use Rattle.xcf_read.specs.Image.{Image, structure_byte}
use Rattle.xcf_read.specs.Answer.{Reading, reading_of, reading, row_of}
use Rattle.xcf_read_laws.proofs.AcceptedRows.{RowRead, ImageRead, accepted_rows}
use Rattle.xcf_read_laws.proofs.Accepted.{accepted_sized, accepted_exactly}

pub record Accepts (f : List ℕ) (x : Reading) : Type 0 where
  pub sized : PointerSize x.answer.size
  pub small : length f ≤ file_limit
  pub long : length x.table ≡ table_size
  pub way : x.answer.compression ≤ 1
  pub row : (k : ℕ) → k < x.answer.rows → RowRead x.answer.size f (structure_byte f) (row_of x k)

image_accepts : (f : List ℕ) {x : Image} (q : ℕ) → length f ≤ file_limit → ImageRead f x → Accepts f (reading_of (got x q))
image_accepts f {x} q small i = record {
  sized = version_sized x.head.version;
  small = small;
  long = table_length x.rows i.few i.long;
  way = i.compression;
  row = λ k below. rw (table_row x.rows i.few i.long k below) (i.row k below);
}

pub accepts : (f lent : List ℕ) → (reading f lent).answer.number ≡ 0 → Accepts f (reading f lent)
unfolding reading
accepts f lent accepted =
    let s = accepted_sized f lent accepted in
    let a = (accepted_exactly f lent s.0 s.1).0 accepted in
    rw (eq-eqb _ _ s.0, le-leb _ _ s.1, ← a.2) (image_accepts f a.1 s.1 (accepted_rows f a.2))
