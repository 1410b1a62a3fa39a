-- `write_file` meets its contract: the drawables begin behind the image's structure (`start_is`), what was measured is the file's
-- length, and where it fits, the image's structure and the drawables behind it are the file (`file_put`, `fits`).
use Rattle.std.proofs.Common.{rules}
use mathlib.Core.Path.{sym, ◌∙◌}
use native.Mathlib.Omega.{arith}
use Rattle.xcf_store.proofs.Stores.{put_length}
use Rattle.xcf_body.specs.Rows.{drawables_from}
use Rattle.xcf_body.proofs.Drawables.{end_most}
use Rattle.xcf_write.proofs.FileLaws.{rows_are, low_places, places_stored, start_is, image_there, behind_image, file_put}
use Rattle.xcf_write.proofs.FileFits.{fits, fits_not}
use Rattle.xcf_write.proofs.file.write_file.Goals as goal

pub returns-then-output-size : goal.returns-then-output-size
returns-then-output-size c =
    let start = c.size-start.ensures.0 ∙ sym (start_is _ _ _ _ c.args.canvas) in
    fits_not _ _ _ _ _ _ c.requires start c.measure-size.ensures.value c.then-output-size.either

pub put-requires-clause-low_places : goal.put-requires-clause-low_places
put-requires-clause-low_places c =
    let rows = c.args.rows.now in
    let placed = places_stored _ _ _ _ _ _ _ rows.ready.few c.measure-size.array_long c.measure-size.ensures.places_after in
    low_places _ _ _ _ _ _ placed (rw c.measure-size.ensures.value at c.if-size-gt-FILE_LIMIT.false)

pub put-requires-clause-room : goal.put-requires-clause-room
put-requires-clause-room c =
    let rows = c.args.rows.now in
    let most = end_most (drawables_from rows.table.now rows.used 0 rows.names.now rows.pixels.now) c.size-start.result in
    let there = image_there rows.table.now rows.names.now rows.pixels.now rows.used c.args.canvas c.measure-size.new.places in
    let start = start_is rows.table.now rows.names.now rows.pixels.now rows.used c.args.canvas in
    omega (arith, there, most, start, c.size-start.ensures.0, c.measure-size.ensures.value)

-- the drawables are put where they were measured, behind the image's structure
pub put-requires-2-clause-placed : goal.put-requires-2-clause-placed
put-requires-2-clause-placed c =
    rw (behind_image c.args.rows.now.table.now c.args.rows.now.names.now c.args.rows.now.pixels.now _ _ c.measure-size.new.places c.size-start.ensures.0 c.put.ensures.stores)
    (places_stored _ _ _ _ _ _ _ c.args.rows.now.ready.few c.measure-size.array_long c.measure-size.ensures.places_after)

pub put-requires-2-clause-room : goal.put-requires-2-clause-room
put-requires-2-clause-room c =
    let place = behind_image c.args.rows.now.table.now c.args.rows.now.names.now c.args.rows.now.pixels.now _ _ c.measure-size.new.places c.size-start.ensures.0 c.put.ensures.stores in
    rw place (omega (arith, put_length c.put.ensures.stores, c.measure-size.ensures.value))

pub put-requires-2-clause-low : goal.put-requires-2-clause-low
put-requires-2-clause-low c =
    let place = behind_image c.args.rows.now.table.now c.args.rows.now.names.now c.args.rows.now.pixels.now _ _ c.measure-size.new.places c.size-start.ensures.0 c.put.ensures.stores in
    rw place (omega (arith, c.measure-size.ensures.value))

pub returns : goal.returns
returns c =
    let rows = c.args.rows.now in
    let start = c.size-start.ensures.0 ∙ sym (start_is _ _ _ _ c.args.canvas) in
    let placed = places_stored _ _ _ _ _ _ _ rows.ready.few c.measure-size.array_long c.measure-size.ensures.places_after in
    let same = rows_are rows.table.now rows.names.now rows.used 0 rows.pixels.now in
    let place = behind_image rows.table.now rows.names.now rows.pixels.now _ _ c.measure-size.new.places c.size-start.ensures.0 c.put.ensures.stores in
    fits _ _ _ _ _ _ c.requires start c.measure-size.ensures.value c.if-output-size.false c.if-size-gt-FILE_LIMIT.false
    (file_put _ _ start same placed c.put.ensures.stores (rw place at c.put-2.ensures.stores)) (search rules)
