-- What comes is the first of the streams (`parts_next`), and one fewer is left.
use Rattle.std.proofs.Common.{length, arith, ap}
use Rattle.xcf_encode.proofs.Parts.{parts_next, parts_none}
use Rattle.xcf_encode.proofs.streams.StreamsIterator.next.Goals as goal

pub returns-then-self-eq0-clause-steps : goal.returns-then-self-eq0-clause-steps
returns-then-self-eq0-clause-steps c =
    let s = c.args.self.now in
    let none = parts_none s.count s.size s.rest.now c.if-self-eq0.true in
    (none, none)

pub returns : goal.returns
returns c =
    let s = c.args.self.now in
    let first = parts_next s.count s.size s.rest.now (omega arith) in
    let split = rw (← c.split_at.ensures.front, ← c.split_at.ensures.back) at first in
    record { steps = split; goes = record { on = λ _. (tt, tt, omega (arith, ap length split)); keeps = tt; rests = λ _. tt } }
