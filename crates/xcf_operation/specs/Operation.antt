-- One operation of an encoded stream. Its opcode and length bytes must be present, then its bytes must fit the stream,
-- then its data must be present.
use Rattle.std.specs.Prelude.{ℕ, ◌+◌, ◌-◌, ◌*◌, List, cond, length, get_or, take, drop, replicate, ltb, leb, eqb}

-- opcode and length bytes: how many bytes the operation gives and where its data starts; or the window ends before or
-- within them
pub data Head : Type 0 where
  run_head : (count body : ℕ) → Head
  copy_head : (count body : ℕ) → Head
  cut : Head

-- p·256 + q of the bytes p, q at `at`
abbrev pub pair : List ℕ → ℕ → ℕ
pair ws at = get_or ws at 0 * 256 + get_or ws (at + 1) 0

-- the table of operations in RULES, "Tiles"
unfoldable pub head_of : List ℕ → ℕ → ℕ → Head
head_of ws at n =
    cond (ltb n 127) (run_head (n + 1) (at + 1))
    (cond (ltb 128 n) (copy_head (256 - n) (at + 1))
    (cond (ltb (length ws) (at + 3)) cut
    (cond (eqb n 127) (run_head (pair ws (at + 1)) (at + 3)) (copy_head (pair ws (at + 1)) (at + 3)))))

unfoldable pub head_at : List ℕ → ℕ → Head
head_at ws at = cond (leb (length ws) at) cut (head_of ws at (get_or ws at 0))

-- an operation carried out: the bytes that it gives, and the place behind it; or the window ends before it does; or it gives more
-- than its stream still takes
pub data Operation : Type 0 where
  gives : (bytes : List ℕ) (next : ℕ) → Operation
  short : Operation
  over : Operation

-- an operation that gives `count` bytes, of which the stream still takes `left`, and has `size` bytes of data at `body`
abbrev pub unless_fails : List ℕ → ℕ → ℕ → ℕ → ℕ → Operation → Operation
unless_fails ws left count body size o = cond (ltb left count) over (cond (ltb (length ws) (body + size)) short o)

-- the operation of a head: a run's data is the byte that it repeats, a copy's the bytes copied
unfoldable pub operation_of : List ℕ → ℕ → Head → Operation
operation_of ws left cut = short
operation_of ws left (run_head count body) =
    unless_fails ws left count body 1 (gives (replicate count (get_or ws body 0)) (body + 1))
operation_of ws left (copy_head count body) =
    unless_fails ws left count body count (gives (take count (drop body ws)) (body + count))

unfoldable pub operation_at : List ℕ → ℕ → ℕ → Operation
operation_at ws at left = operation_of ws left (head_at ws at)
