-- Places in rows of m: place m * q + r, with r below m, stands in row q (`place_row`), at column r (`place_column`), and n rows
-- have it where q is below n (`place_below`).
-- Assumes nothing.
use Prim.Native.Nat.{ℕ, zero, ◌+◌, ◌*◌, ◌/◌, ◌%◌, ◌≤◌, ◌<◌}
use mathlib.Core.Path.{◌≡◌, ◌∙◌, ap}
use native.Mathlib.Nat.{mod-eq_of_lt, div-eq_of_lt, mul-add-mod_self_left, mul-add-div, mul-le-mul_left, add-zero}
use native.Mathlib.Omega.{arith}

pub place_row : (m q r : ℕ) → r < m → (m * q + r) / m ≡ q
place_row m q r h =
    let some : zero < m = omega (arith, h) in mul-add-div some q r ∙ ap (λ k. q + k) (div-eq_of_lt h) ∙ add-zero q

pub place_column : (m q r : ℕ) → r < m → (m * q + r) % m ≡ r
place_column m q r h = mul-add-mod_self_left m q r ∙ mod-eq_of_lt h

pub place_below : (m n q r : ℕ) → r < m → q < n → m * q + r < m * n
place_below m n q r h below =
    let next : q + 1 ≤ n = omega (arith, below) in omega (arith, h, mul-le-mul_left m next)
