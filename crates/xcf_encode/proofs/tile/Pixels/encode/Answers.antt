-- Pixels of one byte are their only stream (`one_plane`); others are gathered.
use mathlib.Core.Path.{◌≡◌}
use native.Mathlib.Nat.{mul-one}
use lib.ListN.{length}
use Rattle.xcf_encode.proofs.Planes.{one_plane}
use Rattle.xcf_encode.proofs.Parts.{tile_encoding}
use Rattle.xcf_encode.proofs.tile.Pixels.encode.Goals as goal

pub returns-then-self-eq1 : goal.returns-then-self-eq1
returns-then-self-eq1 c =
    let s = c.args.self in
    let one : s.depth ≡ 1 = c.if-self-eq1.true in
    let exact : length s.bytes.now ≡ s.count = rw (one, mul-one) at s.exact in
    let plane = one_plane s.count s.bytes.now exact in
    let encoding = tile_encoding s.count 1 s.bytes.now s.bytes.now plane in
    rw one (rw (c.new.ensures, encoding) at c.encode.ensures)
