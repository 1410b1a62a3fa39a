-- A walk over a file: what a reader may do, and what it gives. The rules of every structure are written in it.
use Rattle.std.specs.Prelude.{ℕ, zero, suc, ◌+◌, ◌≤◌, ◌<◌, List, Bool, true, false, cond, ◌⊎◌, length, leb}
use Rattle.xcf_numbers.specs.Refusal
use Rattle.xcf_store.specs.Word.{part}

-- what a walk gives: a value and the place behind it, or a refusal's number and place
pub data Outcome (A : Type 0) : Type 0 where
  got : A → ℕ → Outcome A
  refused : ℕ → ℕ → Outcome A

-- a walk is done, is refused, passes over n bytes, asks for its place and the file's length, or moves to another place
pub data Walk (A : Type 0) : Type 0 where
  done : A → Walk A
  refuse : ℕ → ℕ → Walk A
  pass : ℕ → (List ℕ → Walk A) → Walk A
  ask : (ℕ → ℕ → Walk A) → Walk A
  move : ℕ → Walk A → Walk A

infixl 20 ◌>>=◌
abbrev pub ◌>>=◌ : {A B : Type 0} → Walk A → (A → Walk B) → Walk B
◌>>=◌ (done a) k = k a
◌>>=◌ (refuse n p) k = refuse n p
◌>>=◌ (pass n h) k = pass n (λ b. h b >>= k)
◌>>=◌ (ask h) k = ask (λ at size. h at size >>= k)
◌>>=◌ (move p w) k = move p (w >>= k)

infixl 20 ◌>>◌
abbrev pub ◌>>◌ : {A B : Type 0} → Walk A → Walk B → Walk B
◌>>◌ w v = w >>= λ _. v

-- what a walk gives on the file f from the place at on; bytes that run past the file's end are a 1 at the first of them
unfoldable pub run : {A : Type 0} → Walk A → List ℕ → ℕ → Outcome A
run (done a) f at = got a at
run (refuse n p) f at = refused n p
run (pass n h) f at = cond (leb (at + n) (length f)) (run (h (part f at n)) f (at + n)) (refused Refusal.past_end at)
run (ask h) f at = run (h at (length f)) f at
run (move p w) f at = run w f p

-- byte i is one that the walk passes over
unfoldable pub PassedOver : {A : Type 0} → Walk A → List ℕ → ℕ → ℕ → Type 0
PassedOver (done a) f at i = ⊥
PassedOver (refuse n p) f at i = ⊥
PassedOver (pass n h) f at i = (at + n ≤ length f) × (((at ≤ i) × (i < at + n)) ⊎ PassedOver (h (part f at n)) f (at + n) i)
PassedOver (ask h) f at i = PassedOver (h at (length f)) f at i
PassedOver (move p w) f at i = PassedOver w f p i

-- the steps by their names
unfoldable pub bytes : ℕ → Walk (List ℕ)
bytes n = pass n done

unfoldable pub here : Walk ℕ
here = ask (λ at size. done at)

unfoldable pub file_length : Walk ℕ
file_length = ask (λ at size. done size)

unfoldable pub jump : ℕ → Walk (Unit {0})
jump p = move p (done tt)

-- goes on where the test holds, and is refused elsewhere
unfoldable pub must : Bool → ℕ → ℕ → Walk (Unit {0})
must true n p = done tt
must false n p = refuse n p

-- a loop's turn asks for another, or gives the loop's value
pub data Turn (S A : Type 0) : Type 0 where
  more : S → Turn S A
  last : A → Turn S A

-- where a turn leads, given how the loop goes on
abbrev pub onward : {S A : Type 0} → (S → Walk A) → Turn S A → Walk A
onward go (more s) = go s
onward go (last a) = done a

-- so many turns at most; running out of them is a refusal 0, which is no number of a refusal, and no loop below comes to it
unfoldable pub turns : {S A : Type 0} → ℕ → (S → Walk (Turn S A)) → S → Walk A
turns zero body s = refuse 0 0
turns (suc n) body s = body s >>= onward (turns n body)

-- turns until one is the last. Where every turn passes over a byte, the file's length is more turns than it takes
unfoldable pub loop : {S A : Type 0} → (S → Walk (Turn S A)) → S → Walk A
loop body s = do
  n ← file_length
  turns (suc n) body s
