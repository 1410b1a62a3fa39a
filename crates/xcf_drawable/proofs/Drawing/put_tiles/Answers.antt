-- `put_tiles` meets its contract: `Storing` holds at the loop's head, and a pointer and an encoding stored keep it.
use Prim.Native.Nat.{◌-◌}
use mathlib.Core.Path.{refl, ◌∙◌}
use native.Mathlib.Omega.{arith}
use lib.ListN.{length, length-take, length-drop}
use Rattle.xcf_store.proofs.Stores.{put_part}
use Rattle.xcf_drawable.proofs.TilesStored.{storing_start, next_link, next_tile, storing_next, links_over, tiles_over}
use Rattle.xcf_drawable.proofs.Drawing.put_tiles.Goals as goal

pub loop-t-init : goal.loop-t-init
loop-t-init c = record {
  stored = storing_start c.args.self.now.structure.row c.args.self.now.pixels.now c.args.first c.args.links.now c.args.tiles.now c.requires.links c.requires.tiles;
  tile = refl;
  same_links = refl;
  same_tiles = refl;
}

pub word-requires : goal.word-requires
word-requires c = next_link c.loop-t.invariant.stored c.loop-t-test.true

-- the next encoding has room behind those that are stored
pub encode-requires-clause-pixels_in_bounds : goal.encode-requires-clause-pixels_in_bounds
encode-requires-clause-pixels_in_bounds c =
    let room = next_tile c.loop-t.invariant.stored c.loop-t-test.true in
    simp (length-take, length-drop) (omega (arith, room))

pub overflow_add-tiles : goal.overflow_add-tiles
overflow_add-tiles c =
    let room = next_tile c.loop-t.invariant.stored c.loop-t-test.true in
    omega (arith, room, c.encode.ensures.behind)

pub loop-t-preserved : goal.loop-t-preserved
loop-t-preserved c =
    let g = c.loop-t.invariant in
    let room = next_tile g.stored c.loop-t-test.true in
    let tiles = c.loop-t.tiles in
    let part = put_part {k = length tiles.bytes.now - tiles.at} c.encode.ensures (omega (arith, room)) (omega (arith, room)) in
    record {
      stored = storing_next g.stored c.loop-t-test.true c.word.ensures.stores part;
      tile = omega arith;
      same_links = c.word.ensures.same ∙ g.same_links;
      same_tiles = g.same_tiles;
    }

pub returns-clause-links : goal.returns-clause-links
returns-clause-links c = links_over c.loop-t.invariant.stored c.loop-t-test.false

pub returns-clause-tiles : goal.returns-clause-tiles
returns-clause-tiles c = tiles_over c.loop-t.invariant.stored c.loop-t-test.false
