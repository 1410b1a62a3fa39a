-- `list` meets its contract: a table or a text that does not fit is the call's own refusal; else what is put and answered is the
-- listing's, by the laws of `Listed`.
use Rattle.xcf_listing.proofs.Listed.{listable, fits_not, fits_both, lists_none, lists_long, lists_refused, lists_accepted}
use Rattle.xcf_listing.proofs.list.Goals as goal

pub returns-then-table-ne-TABLE_SIZE-clause-lists : goal.returns-then-table-ne-TABLE_SIZE-clause-lists
returns-then-table-ne-TABLE_SIZE-clause-lists c =
    lists_none _ _ _ _ (fits_not _ _ c.then-table-ne-TABLE_SIZE.either) c.into.ensures

pub returns-then-limit-file-clause-lists : goal.returns-then-limit-file-clause-lists
returns-then-limit-file-clause-lists c =
    lists_long _ _ _ _ (fits_both _ _ c.if-table-ne-TABLE_SIZE.false c.if-text-lt-TEXT_SIZE.false) c.if-limit-file.true
    (rw c.into-then-limit-file.ensures at c.list_refused.ensures.value) (rw c.into-then-limit-file.ensures at c.list_refused.ensures.put_within)

pub returns-then-answer-ne-ACCEPTED-clause-lists : goal.returns-then-answer-ne-ACCEPTED-clause-lists
returns-then-answer-ne-ACCEPTED-clause-lists c =
    lists_refused _ _ _ _ (fits_both _ _ c.if-table-ne-TABLE_SIZE.false c.if-text-lt-TEXT_SIZE.false) c.if-limit-file.false c.read-answer.ensures c.if-answer-ne-ACCEPTED.true
    c.list_refused-then-answer-ne-ACCEPTED.ensures.value c.list_refused-then-answer-ne-ACCEPTED.ensures.put_within

pub list_accepted-requires : goal.list_accepted-requires
list_accepted-requires c =
    let x = listable _ _ c.read-answer.ensures c.if-answer-ne-ACCEPTED.false in
    (x.way, x.few, x.size, c.if-text-lt-TEXT_SIZE.false)

pub returns-clause-lists : goal.returns-clause-lists
returns-clause-lists c =
    lists_accepted _ _ _ _ (fits_both _ _ c.if-table-ne-TABLE_SIZE.false c.if-text-lt-TEXT_SIZE.false) c.if-limit-file.false c.read-answer.ensures c.if-answer-ne-ACCEPTED.false
    c.list_accepted.ensures.value c.list_accepted.ensures.put_within
