-- An operation's data lies in the window, and the operation ends behind it (`data_inside`), so that it ends in the window (`next_inside`).
-- Assumes nothing.
use mathlib.Core.Path.{◌≡◌, refl, subst}
use mathlib.Core.List.{List}
use Prim.Native.Nat.{ℕ, ◌+◌, ◌≤◌, ◌<◌}
use native.Mathlib.Omega.{arith}
use borrow.Author.Tests.{ltb-false}
use lib.Dec.{ltb}
use lib.ListN.{length}
use Rattle.std.proofs.lemmas.Bool.{cond_both}
use Rattle.xcf_operation.specs.Operation.{Head, run_head, copy_head, cut, head_at, Operation, gives, short, over, operation_of, operation_at}

-- the data of an operation that gives bytes: the byte that a run repeats, or the bytes that are copied
abbrev pub DataInside : List ℕ → Head → Operation → Type 0
DataInside ws (run_head n body) (gives bs next) = (body < length ws) × (next ≡ body + 1)
DataInside ws (copy_head n body) (gives bs next) = (body + n ≤ length ws) × (next ≡ body + n)
DataInside ws cut (gives bs next) = ⊥
DataInside ws (run_head n body) short = Unit {0}
DataInside ws (copy_head n body) short = Unit {0}
DataInside ws cut short = Unit {0}
DataInside ws (run_head n body) over = Unit {0}
DataInside ws (copy_head n body) over = Unit {0}
DataInside ws cut over = Unit {0}

inside_of : (ws : List ℕ) (left : ℕ) (h : Head) → DataInside ws h (operation_of ws left h)
unfolding operation_of
inside_of ws left cut = tt
inside_of ws left (run_head n body) =
    cond_both (ltb left n) _ _ (DataInside ws (run_head n body)) (λ _. tt)
    (λ _. cond_both (ltb (length ws) (body + 1)) _ _ (DataInside ws (run_head n body)) (λ _. tt)
    (λ d. (omega (arith, ltb-false (length ws) (body + 1) d), refl)))
inside_of ws left (copy_head n body) =
    cond_both (ltb left n) _ _ (DataInside ws (copy_head n body)) (λ _. tt)
    (λ _. cond_both (ltb (length ws) (body + n)) _ _ (DataInside ws (copy_head n body)) (λ _. tt)
    (λ d. (ltb-false (length ws) (body + n) d, refl)))

pub data_inside : (ws : List ℕ) (at left : ℕ) {o : Operation} → operation_at ws at left ≡ o → DataInside ws (head_at ws at) o
unfolding operation_at
data_inside ws at left e = subst (DataInside ws (head_at ws at)) e (inside_of ws left (head_at ws at))

ends_inside : (ws : List ℕ) (h : Head) (bs : List ℕ) {next : ℕ} → DataInside ws h (gives bs next) → next ≤ length ws
ends_inside ws (run_head n body) bs d = omega (arith, d.0, d.1)
ends_inside ws (copy_head n body) bs d = omega (arith, d.0, d.1)
ends_inside ws cut bs d = absurd d

pub next_inside : (ws : List ℕ) (at left : ℕ) {bs : List ℕ} {next : ℕ} → operation_at ws at left ≡ gives bs next → next ≤ length ws
next_inside ws at left {bs} e = ends_inside ws (head_at ws at) bs (data_inside ws at left e)
