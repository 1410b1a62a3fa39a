-- A refusal of the input, handed on, is the answer (`refused_by`), since no reason has the number 0.
-- Assumes nothing.
use Prim.Native.Nat.{ℕ}
use mathlib.Core.Path.{◌≡◌}
use mathlib.Core.List.{List}
use native.Mathlib.Omega.{arith}
use lib.ListN.{length}
use Rattle.std.specs.Prelude.{Result, Ok, Err}
use Rattle.std.specs.Result.{IsErrAnd}
use Rattle.xcf_numbers.specs.declared.reason.Reason.{Reason}
use Rattle.xcf_numbers.specs.declared.reason.Reason.TheVariants as reason
use Rattle.xcf_numbers.specs.declared.reason.Refusal.{Refusal}
use Rattle.xcf_numbers.specs.Reason.{number_of}
use Rattle.xcf_table.specs.declared.canvas.Canvas.{Canvas}
use Rattle.xcf_write.specs.Answer.{answered, input_refusal, Written}
use Rattle.xcf_write.specs.Result.{answer_of}
use Rattle.xcf_write.proofs.Accepted.{written_refused}

reason_some : (r : Reason) → number_of r ≡ 0 → ⊥
reason_some reason.PastEnd e = omega arith
reason_some reason.NotXcf e = omega arith
reason_some reason.BadVersion e = omega arith
reason_some reason.BadSide e = omega arith
reason_some reason.BadBase e = omega arith
reason_some reason.BadLength e = omega arith
reason_some reason.BadContent e = omega arith
reason_some reason.TooMany e = omega arith
reason_some reason.NoPointer e = omega arith
reason_some reason.Disagrees e = omega arith
reason_some reason.WrongBuffer e = omega arith
reason_some reason.UnendedString e = omega arith
reason_some reason.BadTilePointer e = omega arith
reason_some reason.Unusable e = omega arith
reason_some reason.TooLong e = omega arith
reason_some reason.Floating e = omega arith
reason_some reason.BadRow e = omega arith
reason_some reason.NoRoom e = omega arith
reason_some reason.BadPrecision e = omega arith

pub refused_by : (c : Canvas) (table names pixels old : List ℕ) (r : Refusal)
    → answered (number_of r.reason) r.place 0 ≡ input_refusal c table names (length pixels)
    → (result : Result ℕ Refusal) → IsErrAnd result (λ e. e ≡ r) → Written c table names pixels old (answer_of result) old
refused_by c table names pixels old r e (Ok size) h = absurd h
refused_by c table names pixels old r e (Err x) h = rw h (written_refused c table names pixels old e (reason_some r.reason))
