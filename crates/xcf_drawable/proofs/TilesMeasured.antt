-- The loop that measures a row's tiles: `Measuring` holds at its head, the next tile's encoding keeps it (`measuring_next`), the
-- length is small (`measuring_small`), and with no tile left it is the whole (`measuring_over`). What is left to measure from here
-- on gives the whole.
-- Assumes nothing.
use Prim.Native.Nat.{ℕ, ◌+◌, ◌-◌, ◌*◌, ◌≤◌, ◌<◌}
use mathlib.Core.Path.{◌≡◌, ap, ◌∙◌}
use mathlib.Core.List.{List, flatten}
use native.Mathlib.Omega.{arith}
use native.Mathlib.Nat.{zero-add}
use lib.ListN.{length, length-append}
use Rattle.xcf_drawable.specs.Parts.{encodings_limit}
use Rattle.xcf_numbers.specs.Limit.{encoded_size}
use Rattle.xcf_table.specs.declared.Row.{Row}
use Rattle.xcf_drawable.specs.Drawable.{encoding_of, encodings, row_tiles}
use Rattle.xcf_grid.specs.Drawn.{Drawn}
use Rattle.xcf_drawable.proofs.EncodingBound.{few, tiled, encoding_bound, flatten_next, flatten_none}

pub record Measuring (r : Row) (pixels : List ℕ) (t size : ℕ) : Type 0 where
  pub inside : t ≤ r.count
  pub short : size ≤ encoded_size * t
  pub left : size + length (flatten (encodings (r.count - t) t r pixels)) ≡ length (flatten (row_tiles r pixels))

pub measuring_start : {r : Row} {pixels : List ℕ} → Measuring r pixels 0 0
measuring_start {r} =
    let e : r.count - 0 ≡ r.count = omega arith in
    record { inside = omega arith; short = omega arith; left = rw (e, zero-add) }

module _ {r : Row} {pixels : List ℕ} {t size : ℕ} (m : Measuring r pixels t size) where
  pub measuring_next : {n : ℕ} → Drawn r pixels → t < r.count → n ≡ 0 + length (encoding_of r t pixels)
      → Measuring r pixels (t + 1) (size + n)
  measuring_next d below e =
      let rest : List ℕ = flatten (encodings (r.count - (t + 1)) (t + 1) r pixels) in
      let whole = ap length (flatten_next r pixels r.count t below) ∙ length-append (encoding_of r t pixels) rest in
      record {
        inside = omega (arith, below);
        short = omega (arith, e, encoding_bound (tiled d below), m.short);
        left = omega (arith, e, m.left, whole);
      }

  pub measuring_small : Drawn r pixels → size ≤ encodings_limit
  measuring_small d = omega (arith, m.short, m.inside, few d.range)

  pub measuring_over : r.count ≤ t → size ≡ length (flatten (row_tiles r pixels))
  measuring_over over = omega (arith, m.left, ap length (flatten_none r pixels r.count t over))
