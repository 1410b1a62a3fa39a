-- `structures` meets its contract: its first two tests are the definition's, of refusals 11 and 15;
-- then the walk over the image decides: the table is cleared behind its rows (`accepted_read`), or whole (`refused_read`).
use native.Mathlib.Omega.{arith}
use borrow.Author.Tests.{lt-leb, eq-eqb, ne_eqb}
use lib.ListN.{length}
use Rattle.xcf_numbers.specs.Limit.{file_limit}
use Rattle.xcf_read.specs.Answer.{reading}
use Rattle.xcf_read.proofs.Decided.{accepted_read, refused_read}
use Rattle.xcf_read.proofs.structures.Goals as goal

pub returns-then-table-ne-TABLE_SIZE : goal.returns-then-table-ne-TABLE_SIZE
unfolding reading
returns-then-table-ne-TABLE_SIZE c =
    let other = ne_eqb _ _ c.if-table-ne-TABLE_SIZE.true in record { answer = rw other; table = rw other }

pub returns-then-file-gt-FILE_LIMIT : goal.returns-then-file-gt-FILE_LIMIT
unfolding reading
returns-then-file-gt-FILE_LIMIT c =
    let same = eq-eqb _ _ c.if-table-ne-TABLE_SIZE.false in
    let long = lt-leb (length c.args.file.now) file_limit (omega (arith, c.if-file-gt-FILE_LIMIT.true)) in record { answer = rw (same, long); table = rw (same, long) }

pub returns-in-Ok : goal.returns-in-Ok
returns-in-Ok c =
    accepted_read
    c.if-table-ne-TABLE_SIZE.false
    c.if-file-gt-FILE_LIMIT.false
    _
    c.in-Ok.ensures.table_len
    c.in-Ok.ensures.walks.gives
    c.in-Ok.ensures.rows_le_table_rows
    c.clear_from.ensures

pub returns-in-Err : goal.returns-in-Err
returns-in-Err c =
    refused_read
    c.if-table-ne-TABLE_SIZE.false
    c.if-file-gt-FILE_LIMIT.false
    _
    c.in-Err.ensures.table_len
    c.in-Err.ensures.walks.gives
    c.clear_from-in-Err.ensures
