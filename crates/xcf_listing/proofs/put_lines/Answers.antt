-- `put_lines` meets its contract: the canvas's line and the rows' behind it are one piece of text (`within_append`), and a table has
-- at most 128 rows, whose lines fit.
use native.Mathlib.Omega.{arith}
use Rattle.xcf_store.proofs.Room.{within_room}
use Rattle.xcf_store.proofs.Stores.{within_append, within_more}
use Rattle.xcf_listing.proofs.put_lines.Goals as goal

pub put_rows-requires : goal.put_rows-requires
put_rows-requires c =
    let few = c.requires.1 in
    let room = within_room 51200 c.put_canvas.ensures.stores (omega arith) in
    (omega (arith, few, room), omega (arith, few))

pub returns-clause-stores : goal.returns-clause-stores
returns-clause-stores c =
    let few = c.requires.1 in
    within_more _ (omega (arith, few)) (within_append c.put_canvas.ensures.stores c.put_rows.ensures.stores)
