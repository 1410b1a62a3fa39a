-- `decode` meets its contract: the pixels fit the scratch, and what the decoding gives is the tile's.
use mathlib.Core.Path.{sym}
use Prim.Native.Nat.{◌*◌}
use native.Mathlib.Omega.{arith}
use lib.Seq.{length-take-le}
use Rattle.xcf_tile.specs.Compression.{number_of}
use Rattle.xcf_window.proofs.OneTile.{pixels_small, scratched}
use Rattle.xcf_window.proofs.drawable.Drawable.decode.Goals as goal

pub slice_bounds-pixels-end : goal.slice_bounds-pixels-end
slice_bounds-pixels-end c =
    let p = c.requires in
    omega (arith, (pixels_small p.ready p.t_lt_count.0 p.t_lt_count.1).1, p.t_lt_count.2)

pub slice_bounds-pixels-end-2 : goal.slice_bounds-pixels-end-2
slice_bounds-pixels-end-2 c =
    let p = c.requires in
    sym (length-take-le _ _ (omega (arith, (pixels_small p.ready p.t_lt_count.0 p.t_lt_count.1).1, p.t_lt_count.2)))

pub decode-end-requires : goal.decode-end-requires
decode-end-requires c =
    let p = c.requires in
    let small = pixels_small p.ready p.t_lt_count.0 p.t_lt_count.1 in
    let exact = length-take-le (c.args.frame.width * c.args.frame.height * c.args.self.now.row.depth) c.args.scratch.now (omega (arith, small.1, p.t_lt_count.2)) in
    record { exact = exact; small = omega (arith, exact, small.1, p.ready.range) }

pub returns : goal.returns
returns c =
    let p = c.requires in
    scratched p.ready p.t_lt_count.0 p.t_lt_count.1 (number_of c.args.self.now.compression) c.window.ensures p.t_lt_count.2 c.decode-end.ensures c.mark.ensures
