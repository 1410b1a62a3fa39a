-- What comes is the first of the segments: a run (`segments_run`) or a copy (`segments_copy`); and fewer are left.
use Rattle.std.proofs.Common.{◌≡◌, ◌<◌, length, get_or, ap, arith, sym, ◌∙◌, rules}
use Rattle.std.proofs.lemmas.List.{nil_from_length}
use Rattle.xcf_segment.specs.Segment.{segments}
use Rattle.xcf_segment.proofs.Segments.{leading_inside, segments_nil, segments_run, segments_copy}
use Rattle.xcf_segment.proofs.segment.SegmentsIterator.next.Goals as goal

pub returns-in_err-value-clause-steps : goal.returns-in_err-value-clause-steps
returns-in_err-value-clause-steps c =
    let ended = nil_from_length c.args.self.now.rest.now (search rules) in
    let none = ap segments ended ∙ segments_nil in
    rw c.from_residual.ensures (none, none)

pub split_at-requires : goal.split_at-requires
split_at-requires c =
    omega (arith, c.leading-count.ensures, leading_inside c.in_ok-value.field-0.now c.args.self.now.rest.now)

pub returns-then-three_equal : goal.returns-then-three_equal
returns-then-three_equal c =
    let xs = c.args.self.now.rest.now in
    let some : 0 < length xs = search rules in
    let first : c.in_ok-value.field-0.now ≡ get_or xs 0 0 = search rules in
    let split = segments_run xs _ _ some (sym c.three_equal.ensures ∙ c.if-three_equal.true) c.leading-count.ensures first in
    let left = rw (← c.split_at.ensures.back) at split in
    record { steps = left; goes = record { on = λ _. (tt, tt, omega (arith, ap length left)); keeps = tt; rests = λ _. tt } }

pub returns : goal.returns
returns c =
    let xs = c.args.self.now.rest.now in
    let some : 0 < length xs = search rules in
    let copy = segments_copy xs _ some (sym c.three_equal.ensures ∙ c.if-three_equal.false) c.copied_bytes.ensures.value in
    let split = rw (← c.split_at-2.ensures.front, ← c.split_at-2.ensures.back) at copy in
    record { steps = split; goes = record { on = λ _. (tt, tt, omega (arith, ap length split)); keeps = tt; rests = λ _. tt } }
