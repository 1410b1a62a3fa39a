-- `rising_pointers` meets its contract: `RisingLeft` holds at the loop's head of the pointers that lie in the file, from the whole pairs
-- on, and one that rises keeps it. No others can rise (`rising_in`).
use Prim.Native.Nat.{◌+◌, ◌*◌, ◌≤◌}
use mathlib.Core.Path.{◌≡◌, ◌∙◌}
use native.Mathlib.Omega.{arith}
use mathlib.Mathlib.Data.Bool.Basic.{or-eq-false-eq-eq-false-and-eq-false}
use borrow.Author.Tests.{leb-false}
use lib.ListN.{length}
use Rattle.xcf_store.proofs.Sizes.{one_of}
use Rattle.xcf_store.proofs.RisingLoop.{going_next, going_ends, going_over, rising_in}
use Rattle.xcf_store.proofs.rising.rising_pointers.Goals as goal

-- of the pointers that lie in the file as many rise as of all
pub returns-then-next-last : goal.returns-then-next-last
returns-then-next-last c =
    let m = rw (← c.bytes-size.ensures) at c.pointers_in-most.ensures in
    let next = rw (← c.bytes-size.ensures) at c.number_at-next.ensures in
    rw (← c.bytes-size.ensures) (going_ends c.loop-count.invariant (rw (← next) c.if-next-last.true) ∙ rising_in _ _ _ _ _ 0 m.0 m.2)

pub loop-count-preserved : goal.loop-count-preserved
loop-count-preserved c =
    let m = rw (← c.bytes-size.ensures) at c.pointers_in-most.ensures in
    let next = rw (← c.bytes-size.ensures) at c.number_at-next.ensures in
    let size = c.bytes-size.result in
    let inside : c.args.at + size * c.loop-count.count + size ≤ length c.args.file.now = one_of _ _ _ _ m.1 (omega (arith, c.loop-count-test.true)) in
    let rises = (or-eq-false-eq-eq-false-and-eq-false _ _).0 c.if-next-last.false in
    rw next
    (going_next
    c.loop-count.invariant
    (omega (arith, c.loop-count-test.true))
    inside
    (rw (← next) (leb-false _ _ rises.0))
    (rw (← next) (leb-false _ _ rises.1)))

pub returns : goal.returns
returns c =
    let m = rw (← c.bytes-size.ensures) at c.pointers_in-most.ensures in
    let all : c.pointers_in-most.result ≡ c.loop-count.count = omega (arith, c.loop-count.invariant.few) in
    rw (← c.bytes-size.ensures, all) (going_over c.loop-count.invariant (omega arith) ∙ rising_in _ _ _ _ _ 0 m.0 m.2)
