-- `put_row` meets its contract: its parts stand one behind the other, by `row_put`; the row's kind and fields are those that the
-- table has there.
use Rattle.std.proofs.Common.{refl, arith, length-take}
use Rattle.xcf_row_line.proofs.Row.{kind_room, fields_room, last_room, row_put}
use Rattle.xcf_row_line.proofs.put_row.Goals as goal

pub bytes-requires : goal.bytes-requires
bytes-requires c = kind_room c.args.table.now c.args.k c.requires.0 c.put_decimal.ensures.stores _ _ c.kind_name.ensures

pub put_all-requires : goal.put_all-requires
put_all-requires c =
    fields_room c.args.table.now c.args.k c.requires.0 c.put_decimal.ensures.stores _ c.kind_name.ensures c.bytes.ensures.stores _
    (simp length-take (omega arith))

pub put_last-requires : goal.put_last-requires
put_last-requires c =
    last_room c.args.table.now c.args.k c.requires.0 c.put_decimal.ensures.stores _ c.kind_name.ensures c.bytes.ensures.stores _ c.put_all.ensures.stores
    (simp length-take (omega arith))

pub returns-clause-stores : goal.returns-clause-stores
returns-clause-stores c =
    row_put c.args.table.now c.args.k c.requires.0 c.put_decimal.ensures.stores _ c.kind_name.ensures c.bytes.ensures.stores c.put_all.ensures.stores
    c.args.marked refl c.requires.1 c.put_last.ensures.stores
