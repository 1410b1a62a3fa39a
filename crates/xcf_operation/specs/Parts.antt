-- What the code's answers stand for, by name.
use Rattle.std.specs.Prelude.{◌≡◌, List, ℕ, get_or, take, drop, replicate, Option, Some, None, Result, Ok, Err}
use Rattle.xcf_numbers.specs.declared.fault.Fault.{Fault}
use Rattle.xcf_numbers.specs.declared.fault.Fault.TheVariants as fault
use Rattle.xcf_operation.specs.declared.Kind.{Kind}
use Rattle.xcf_operation.specs.declared.Kind.TheVariants as kind
use Rattle.xcf_operation.specs.declared.Head.{Head}
use Rattle.xcf_operation.specs.declared.Bytes.{Bytes}
use Rattle.xcf_operation.specs.declared.Bytes.TheVariants as bytes
use Rattle.xcf_operation.specs.declared.Operation.{Operation}
use Rattle.xcf_operation.specs.Operation.{run_head, copy_head, cut, gives, short, over}
use Rattle.xcf_operation.specs.Operation as rules

abbrev pub head_for : Kind → ℕ → ℕ → rules.Head
head_for kind.Run count body = run_head count body
head_for kind.Copy count body = copy_head count body

abbrev pub head_read : Option Head → rules.Head
head_read None = cut
head_read (Some h) = head_for h.kind h.count h.body

abbrev pub given : Bytes → List ℕ
given (bytes.Run value count) = replicate count value
given (bytes.Copy b) = b.now

abbrev pub operation_read : Result Operation Fault → rules.Operation
operation_read (Ok o) = gives (given o.bytes) o.next
operation_read (Err fault.Short) = short
operation_read (Err fault.Overrun) = over

-- what an operation gives is its head's: a run's byte stands where the data starts, a copy's bytes from there on
abbrev pub DataOf : List ℕ → rules.Head → Bytes → Type 0
DataOf ws (run_head n body) (bytes.Run value count) = (value ≡ get_or ws body 0) × (count ≡ n)
DataOf ws (copy_head n body) (bytes.Copy b) = b.now ≡ take n (drop body ws)
DataOf ws (run_head n body) (bytes.Copy b) = ⊥
DataOf ws (copy_head n body) (bytes.Run value count) = ⊥
DataOf ws cut b = ⊥
