-- The laws of a stream, which hide its fuel: a stream of no byte ends where it starts (`stream_done`), and any other begins
-- with the operation that stands there (`stream_op`). `sound` bounds an operation's numbers, so that any fuel that reaches
-- the window's end gives the same stream.
-- Assumes nothing.
use mathlib.Core.Path.{◌≡◌, refl, ap, subst, ◌∙◌}
use mathlib.Core.List.{List}
use mathlib.Core.Bool.{cond}
use Prim.Native.Nat.{ℕ, zero, suc, ◌+◌, ◌-◌, ◌≤◌, ◌<◌}
use native.Mathlib.Omega.{arith}
use borrow.Author.Tests.{ltb-false, le-leb, lt-ltb}
use lib.ListN.{length, get_or, drop, length-replicate, length-take}
use lib.Dec.{ltb, leb, eqb}
use Rattle.std.proofs.lemmas.Bool.{cond_both}
use Rattle.xcf_numbers.specs.Mark
use Rattle.xcf_operation.specs.Operation.{Head, run_head, copy_head, cut, head_at, head_of, Operation, gives, short, over, unless_fails, operation_at, operation_of}
use Rattle.xcf_stream.specs.Stream.{Stream, ends, adds, stream_from, stream_within, stream_at}

-- a head's data starts after the opcode
abbrev After : ℕ → Head → Type 0
After at cut = Unit {0}
After at (run_head count body) = at < body
After at (copy_head count body) = at < body

head_after : (ws : List ℕ) (at : ℕ) → After at (head_at ws at)
unfolding head_at head_of
head_after ws at =
    cond_both (leb (length ws) at) _ _ (After at) (λ _. tt)
    (λ _. cond_both (ltb (get_or ws at 0) 127) _ _ (After at) (λ _. omega arith)
    (λ _. cond_both (ltb 128 (get_or ws at 0)) _ _ (After at) (λ _. omega arith)
    (λ _. cond_both (ltb (length ws) (at + 3)) _ _ (After at) (λ _. tt)
    (λ _. cond_both (eqb (get_or ws at 0) 127) _ _ (After at) (λ _. omega arith) (λ _. omega arith)))))

-- an operation gives no more than is left, ends after its start, and lies in the window
abbrev pub Sound : List ℕ → ℕ → ℕ → Operation → Type 0
Sound ws at left short = Unit {0}
Sound ws at left over = Unit {0}
Sound ws at left (gives bs next) = (length bs ≤ left) × ((at < next) × (next ≤ length ws))

unless_sound : (ws : List ℕ) (at left count body size : ℕ) (bs : List ℕ) → at < body + size → length bs ≤ count → Sound ws at left (unless_fails ws left count body size (gives bs (body + size)))
unless_sound ws at left count body size bs a b =
    cond_both (ltb left count) _ _ (Sound ws at left) (λ _. tt)
    (λ o. cond_both (ltb (length ws) (body + size)) _ _ (Sound ws at left) (λ _. tt)
    (λ d. omega (arith, ltb-false)))

sound_of : (ws : List ℕ) (at left : ℕ) (h : Head) → After at h → Sound ws at left (operation_of ws left h)
unfolding operation_of
sound_of ws at left cut a = tt
sound_of ws at left (run_head count body) a =
    unless_sound ws at left count body 1 _ (omega arith) (omega (arith, length-replicate count (get_or ws body 0)))
sound_of ws at left (copy_head count body) a =
    unless_sound ws at left count body count _ (omega arith) (omega (arith, length-take count (drop body ws)))

pub sound : (ws : List ℕ) (at left : ℕ) {o : Operation} → operation_at ws at left ≡ o → Sound ws at left o
unfolding operation_at
sound ws at left e = subst (Sound ws at left) e (sound_of ws at left (head_at ws at) (head_after ws at))

-- past the window's end there is no operation
past_end_lem : (ws : List ℕ) (at left : ℕ) → length ws ≤ at → operation_at ws at left ≡ short
unfolding operation_at operation_of head_at
past_end_lem ws at left h = simp (le-leb _ _ h)

-- what follows an operation is all that matters of `rest`
from_same : (r s : ℕ → ℕ → Stream) (ws : List ℕ) (at left : ℕ) (o : Operation) → Sound ws at left o → ((n l : ℕ) → at < n → r n l ≡ s n l) → stream_from r at left o ≡ stream_from s at left o
unfolding stream_from
from_same r s ws at left short h e = refl
from_same r s ws at left over h e = refl
from_same r s ws at left (gives bs next) h e = ap (adds bs) (e next (left - length bs) h.1.0)

-- enough fuel is enough
within_same : (f g : ℕ) (ws : List ℕ) (at left : ℕ) → length ws ≤ at + f → length ws ≤ at + g → stream_within f ws at left ≡ stream_within g ws at left
unfolding stream_within stream_from
within_same zero zero ws at left p q = refl
within_same zero (suc g) ws at left p q = rw (past_end_lem ws at left (omega arith))
within_same (suc f) zero ws at left p q = rw (past_end_lem ws at left (omega arith))
within_same (suc f) (suc g) ws at left p q =
    ap (λ (s : Stream). cond (ltb 0 left) s (ends Mark.good at))
    (from_same (stream_within f ws) (stream_within g ws) ws at left (operation_at ws at left) (sound ws at left refl)
    (λ n l h. within_same f g ws n l (omega arith) (omega arith)))

within_done : (f : ℕ) (ws : List ℕ) (at : ℕ) → stream_within f ws at 0 ≡ ends Mark.good at
unfolding stream_within
within_done zero ws at = refl
within_done (suc f) ws at = refl

within_op : (f : ℕ) (ws : List ℕ) (at left : ℕ) → 0 < left → stream_within (suc f) ws at left ≡ stream_from (stream_within f ws) at left (operation_at ws at left)
unfolding stream_within
within_op f ws at left h = simp (lt-ltb _ _ h)

pub stream_done : (ws : List ℕ) (at : ℕ) → stream_at ws at 0 ≡ ends Mark.good at
unfolding stream_at
stream_done ws at = within_done (length ws - at) ws at

pub stream_op : (ws : List ℕ) (at left : ℕ) {o : Operation} → 0 < left → operation_at ws at left ≡ o → stream_at ws at left ≡ stream_from (stream_at ws) at left o
unfolding stream_at
stream_op ws at left h e =
    within_same (length ws - at) (suc (length ws - at)) ws at left (omega arith) (omega arith)
    ∙ within_op (length ws - at) ws at left h
    ∙ from_same (stream_within (length ws - at) ws) (λ n l. stream_within (length ws - n) ws n l) ws at left (operation_at ws at left) (sound ws at left refl)
    (λ n l k. within_same (length ws - at) (length ws - n) ws n l (omega arith) (omega arith))
    ∙ ap (stream_from (stream_at ws) at left) e
