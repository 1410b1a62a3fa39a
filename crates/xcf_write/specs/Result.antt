-- What the writer's results are as answers: a refusal with its number and place, and a file with its length.
use Rattle.std.specs.Prelude.{ℕ, ◌≡◌, Result, Ok, Err}
use Rattle.xcf_numbers.specs.declared.reason.Refusal.{Refusal}
use Rattle.xcf_numbers.specs.Reason.{number_of}
use Rattle.xcf_write.specs.declared.WriteAnswer.{WriteAnswer}
use Rattle.xcf_write.specs.Answer.{answered}

abbrev pub refusal_of : {A : Type 0} → Result A Refusal → WriteAnswer
refusal_of (Ok a) = answered 0 0 0
refusal_of (Err r) = answered (number_of r.reason) r.place 0

abbrev pub answer_of : Result ℕ Refusal → WriteAnswer
answer_of (Ok size) = answered 0 0 size
answer_of (Err r) = answered (number_of r.reason) r.place 0

abbrev pub AnswerOf : Result ℕ Refusal → WriteAnswer → Type 0
AnswerOf result answer = answer ≡ answer_of result
