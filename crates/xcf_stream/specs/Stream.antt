-- A stream: operations one after the other, until its bytes are out or an operation fails.
use Rattle.std.specs.Prelude.{ℕ, zero, suc, ◌+◌, ◌-◌, List, [], ◌++◌, cond, length, ltb}
use Rattle.xcf_numbers.specs.Mark
use Rattle.xcf_operation.specs.Operation.{Operation, gives, short, over, operation_at}

-- mark 0 and the place behind the stream, or the mark and place of the operation that fails; how many operations were carried
-- out in full, and their bytes
pub record Stream : Type 0 where
  pub mark : ℕ
  pub at : ℕ
  pub operations : ℕ
  pub bytes : List ℕ

-- no further operation is carried out
abbrev pub ends : ℕ → ℕ → Stream
ends mark at = record { mark = mark; at = at; operations = 0; bytes = [] }

-- an operation that gives bs, and the stream behind it
abbrev pub adds : List ℕ → Stream → Stream
adds bs s = record { mark = s.mark; at = s.at; operations = 1 + s.operations; bytes = bs ++ s.bytes }

-- the stream whose next operation is the one given; `rest` is the stream from a later place on
unfoldable pub stream_from : (ℕ → ℕ → Stream) → ℕ → ℕ → Operation → Stream
stream_from rest at left short = ends Mark.short at
stream_from rest at left over = ends Mark.overrun at
stream_from rest at left (gives bs next) = adds bs (rest next (left - length bs))

-- a stream of `left` bytes at `at`. Each operation takes a byte of the window at least, so `fuel`, the bytes behind `at`, is enough
unfoldable pub stream_within : ℕ → List ℕ → ℕ → ℕ → Stream
stream_within zero ws at left = cond (ltb 0 left) (ends Mark.short at) (ends Mark.good at)
stream_within (suc fuel) ws at left =
    cond (ltb 0 left) (stream_from (stream_within fuel ws) at left (operation_at ws at left)) (ends Mark.good at)

unfoldable pub stream_at : List ℕ → ℕ → ℕ → Stream
stream_at ws at left = stream_within (length ws - at) ws at left
