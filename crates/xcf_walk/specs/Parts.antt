-- Parts of private contracts.
use Rattle.std.specs.Prelude.{ℕ, ◌-◌, List, Option, Some, None, Bool, cond, ltb, eqb, length, get_or, take}
use Rattle.xcf_numbers.specs.Refusal
use Rattle.xcf_property.specs.declared.Properties.{Properties}
use Rattle.xcf_property.specs.Property.{put}
use Rattle.xcf_walk.specs.declared.property.Property.{Property}
use Rattle.xcf_walk.specs.Walk.{Walk, done, here, must, Turn, more, last, ◌>>=◌, ◌>>◌}
use Rattle.xcf_walk.specs.Fields.{number}

-- the last of some bytes is zero; of no bytes it counts as zero
abbrev pub ends_in_zero : List ℕ → Bool
ends_in_zero b = eqb (get_or b (length b - 1) 0) 0

-- the bytes before it
abbrev pub before_last : List ℕ → List ℕ
before_last b = take (length b - 1) b

-- the next of a list's pointers, where so many more are allowed, or none at the 0 that closes the list
unfoldable pub next_pointer : ℕ → ℕ → Walk (Option ℕ)
next_pointer size left = do
  at ← here
  p ← number size
  cond (eqb p 0)
      (done None)
      (do
        must (ltb 0 left) Refusal.too_many at
        done (Some p))

-- a property is followed by another, and none ends the list
abbrev pub turn_of : ℕ → Properties → Option Property → Turn Properties Properties
turn_of list p (Some x) = more (put list x.kind x.content p)
turn_of list p None = last p
