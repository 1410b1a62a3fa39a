-- `pointers_up_to` meets its contract: what is left of the list gives what the whole gives (`PointersLeft`).
use Prim.Native.Nat.{ℕ, ◌+◌, ◌-◌}
use mathlib.Core.Path.{◌≡◌, refl}
use mathlib.Core.List.{List}
use native.Mathlib.Omega.{arith}
use lib.ListN.{length}
use Rattle.xcf_walk.specs.declared.cursor.Cursor.{Cursor}
use Rattle.xcf_walk.proofs.PointersLoop.{PointersLeft, pointers_go, pointers_end, pointers_stop}
use Rattle.xcf_walk.proofs.cursor.Cursor.pointers_up_to.Goals as goal

-- what is allowed beside those read is all that is allowed
counts : {size most n : ℕ} {c₀ c : Cursor} {list : List ℕ} → PointersLeft size most c₀ c list → n ≡ length list → most - n + length list ≡ most
counts l e = omega (arith, l.inside, e)

pub loop-p-preserved : goal.loop-p-preserved
loop-p-preserved g c = pointers_go c.loop-p.invariant _ (counts c.loop-p.invariant c.len.ensures.value) (rw c.in-Some.is at c.in_ok-p.ensures.room) (rw c.in-Some.is at c.in_ok-p.ensures.walks) c.push.ensures.items

pub returns-in_err-p-clause-walks : goal.returns-in_err-p-clause-walks
returns-in_err-p-clause-walks g c = pointers_stop c.loop-p.invariant _ (counts c.loop-p.invariant c.len.ensures.value) c.in_err-p.ensures.walks c.from_residual.ensures.1

pub returns-clause-walks : goal.returns-clause-walks
returns-clause-walks g c = pointers_end c.loop-p.invariant _ (counts c.loop-p.invariant c.len.ensures.value) _ (rw c.in_default.is at c.in_ok-p.ensures.walks) refl
