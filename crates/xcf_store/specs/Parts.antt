-- Parts of private contracts.
use Rattle.std.specs.Prelude.{ℕ, ◌+◌, ◌-◌, ◌*◌, ◌≤◌, ◌≡◌, List}
use Rattle.xcf_store.specs.declared.rising.Rising.{Rising}
use Rattle.xcf_store.specs.Rising.{rising}

-- k pointers that rise in front of others
abbrev pub in_front : ℕ → Rising → Rising
in_front k r = record { count = k + r.count; last = r.last }

-- of n pointers from a place on the first k rise, and so many of the others as rise behind the pointer last
pub record RisingLeft (size : ℕ) (f : List ℕ) (at n k last : ℕ) : Type 0 where
  pub few : k ≤ n
  pub whole : rising size f at n 0 ≡ in_front k (rising size f (at + size * k) (n - k) last)
