-- `pairs_by` meets its contract: `RisingLeft` holds at the loop's head of two pointers for each pair, and a pair that rises keeps it.
use Prim.Native.Nat.{◌+◌, ◌*◌, ◌≤◌}
use mathlib.Core.Path.{◌≡◌}
use mathlib.Mathlib.Data.Bool.Basic.{or-eq-false-eq-eq-false-and-eq-false}
use native.Mathlib.Nat.{div-add-mod}
use native.Mathlib.Omega.{arith}
use borrow.Author.Tests.{leb-false}
use lib.ListN.{length}
use Rattle.xcf_store.proofs.Sizes.{one_of}
use Rattle.xcf_store.proofs.RisingLoop.{going_pair}
use Rattle.xcf_store.proofs.rising.pairs_by.Goals as goal

pub loop-pair-preserved : goal.loop-pair-preserved
loop-pair-preserved c =
    let a = c.args in
    let pair = c.loop-pair.pair in
    let size = c.bytes-size.result in
    let whole = rw (← c.bytes-size.ensures) at c.requires in
    let is_there : 2 * pair + 2 ≤ a.n = omega (arith, div-add-mod a.n 2) in
    let last : a.at + size * (2 * pair + 1) + size ≤ length a.file.now = one_of _ _ _ _ whole (omega (arith, is_there)) in
    let inside : a.at + size * (2 * pair) + size + size ≤ length a.file.now = omega (arith, last) in
    let first = rw (← c.bytes-size.ensures) at c.number_at-first.ensures in
    let second = rw (← c.bytes-size.ensures) at c.number_at-second.ensures in
    let two : 2 * (pair + 1) ≡ 2 * pair + 2 = omega arith in
    let t = (or-eq-false-eq-eq-false-and-eq-false _ _).0 c.if-first-last.false in
    let rise = (or-eq-false-eq-eq-false-and-eq-false _ _).0 t.0 in
    rw (two, second)
    (going_pair
    c.loop-pair.invariant
    is_there
    inside
    (rw (← first) (leb-false _ _ rise.0))
    (rw (← first, ← second) (leb-false _ _ rise.1))
    (rw (← second) (leb-false _ _ t.1)))
