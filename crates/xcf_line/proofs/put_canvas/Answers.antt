-- `put_canvas` meets its contract: its parts stand one behind the other, by `canvas_put`, and there is room for all.
use Rattle.xcf_line.proofs.Lines.{height_room, base_room, version_room, compression_room, rows_room, canvas_put}
use Rattle.xcf_line.proofs.put_canvas.Goals as goal

pub put_spaced-requires : goal.put_spaced-requires
put_spaced-requires c = height_room c.requires c.put_labelled.ensures.stores

pub put_labelled-requires-2 : goal.put_labelled-requires-2
put_labelled-requires-2 c = base_room c.requires c.put_labelled.ensures.stores c.put_spaced.ensures.stores

pub put_labelled-requires-3 : goal.put_labelled-requires-3
put_labelled-requires-3 c =
    version_room c.requires c.put_labelled.ensures.stores c.put_spaced.ensures.stores c.put_labelled-2.ensures.stores

pub put_labelled-requires-4 : goal.put_labelled-requires-4
put_labelled-requires-4 c =
    compression_room c.requires c.put_labelled.ensures.stores c.put_spaced.ensures.stores c.put_labelled-2.ensures.stores
    c.put_labelled-3.ensures.stores

pub put_last-requires : goal.put_last-requires
put_last-requires c =
    rows_room c.requires c.put_labelled.ensures.stores c.put_spaced.ensures.stores c.put_labelled-2.ensures.stores
    c.put_labelled-3.ensures.stores c.put_labelled-4.ensures.stores

pub returns-clause-stores : goal.returns-clause-stores
returns-clause-stores c =
    canvas_put c.args.answer c.put_labelled.ensures.stores c.put_spaced.ensures.stores c.put_labelled-2.ensures.stores
    c.put_labelled-3.ensures.stores c.put_labelled-4.ensures.stores c.put_last.ensures.stores
