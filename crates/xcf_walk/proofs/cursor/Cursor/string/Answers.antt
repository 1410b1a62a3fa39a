-- `string` meets its contract: two words' steps, and the name is what stands before the last byte (`named`).
use Prim.Native.Nat.{ℕ, ◌-◌}
use mathlib.Core.Path.{◌≡◌, refl}
use mathlib.Core.List.{List}
use mathlib.Core.Bool.{Bool}
use native.Mathlib.Omega.{arith}
use lib.ListN.{length, take}
use lib.Seq.{length-take-le}
use Rattle.xcf_utf8.specs.Utf8.{well_formed}
use Rattle.xcf_walk.specs.declared.cursor.Name.{Name}
use Rattle.xcf_walk.specs.Parts.{before_last}
use Rattle.xcf_walk.specs.Fields.{string}
use Rattle.xcf_walk.proofs.Steps.{then, then_here, then_held, fails, ends}
use Rattle.xcf_walk.proofs.cursor.Cursor.string.Goals as goal

abbrev name_of : ℕ → ℕ → Bool → Name
name_of p n u = record { place = p; length = n; utf8 = u }

named : (b : List ℕ) {name : List ℕ} {n : ℕ} {u : Bool} (place : ℕ) → length b ≡ n → name ≡ before_last b → u ≡ well_formed name
    → name_of place (n - 1) (well_formed (take (n - 1) b)) ≡ name_of place (length name) u
named b place e1 e2 e3 = rw (e3, e2, ← e1, length-take-le (length b - 1) b (omega arith)) refl

pub returns-in_default : goal.returns-in_default
unfolding string
returns-in_default c =
    then_here _ (then _ c.in_ok-size.ensures (then_here _ (then _ c.in_ok-bytes.ensures.walks
    (fails _ (rw c.in_ok-bytes.ensures.length at c.in_default.ensures) c.jump.ensures))))

pub returns : goal.returns
unfolding string
returns c =
    then_here _ (then _ c.in_ok-size.ensures (then_here _ (then _ c.in_ok-bytes.ensures.walks
    (then_held _ _ _ (rw c.in_ok-bytes.ensures.length at c.in-Some.ensures.0)
    (ends _ (named _ _ c.in_ok-bytes.ensures.length c.in-Some.ensures.1 c.well_formed-2.ensures))))))
