-- `window` meets its contract: a window of a drawable that is ready lies in its file.
use native.Mathlib.Nat.{mul-le-mul_left}
use native.Mathlib.Omega.{arith}
use Rattle.xcf_store.specs.Width.{bytes_of}
use Rattle.xcf_window.proofs.OneTile.{pointers_inside}
use Rattle.xcf_window.proofs.TilePointers.{window_inside}
use Rattle.xcf_window.proofs.drawable.Drawable.window.Goals as goal

pub pointer_at-start-requires : goal.pointer_at-start-requires
pointer_at-start-requires c = omega (arith, pointers_inside c.requires.0, mul-le-mul_left (bytes_of c.args.self.now.width) c.requires.1)

pub window_end-end-requires : goal.window_end-end-requires
window_end-end-requires c = (c.requires.1, pointers_inside c.requires.0)

pub slice_bounds-result-count : goal.slice_bounds-result-count
slice_bounds-result-count c =
    let d = c.args.self.now in
    let i = window_inside (bytes_of d.width) d.file.now d.row c.requires.0.pointers c.args.t c.requires.1 in
    omega (arith, i.0, c.pointer_at-start.ensures, c.window_end-end.ensures)

pub slice_bounds-result-start : goal.slice_bounds-result-start
slice_bounds-result-start c =
    let d = c.args.self.now in
    let i = window_inside (bytes_of d.width) d.file.now d.row c.requires.0.pointers c.args.t c.requires.1 in
    omega (arith, i.0, c.pointer_at-start.ensures, c.window_end-end.ensures)

pub slice_bounds-result-end : goal.slice_bounds-result-end
slice_bounds-result-end c =
    let d = c.args.self.now in
    let i = window_inside (bytes_of d.width) d.file.now d.row c.requires.0.pointers c.args.t c.requires.1 in
    omega (arith, i.1, c.window_end-end.ensures)
