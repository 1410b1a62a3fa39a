-- `usable` meets its contract: its tests are the definition's, in the same order; and what is not refused has bounds.
use mathlib.Core.Path.{sym}
use native.Mathlib.Omega.{arith}
use Rattle.xcf_tile.proofs.Sizes.{usable_bounds}
use Rattle.xcf_laws.proofs.Products.{small}
use Rattle.xcf_tile.proofs.usable.Goals as goal

pub overflow_mul-width : goal.overflow_mul-width
overflow_mul-width c =
    let s = usable_bounds c.args.width c.args.height c.args.depth (sym c.if-not-usable_tile.ensures) in
    omega (arith, (small s.0 s.1.0 s.1.1).0)

pub overflow_mul-width-2 : goal.overflow_mul-width-2
overflow_mul-width-2 c =
    let s = usable_bounds c.args.width c.args.height c.args.depth (sym c.if-not-usable_tile.ensures) in
    omega (arith, (small s.0 s.1.0 s.1.1).1)

pub overflow_cast-width : goal.overflow_cast-width
overflow_cast-width c =
    let s = usable_bounds c.args.width c.args.height c.args.depth (sym c.if-not-usable_tile.ensures) in
    omega (arith, (small s.0 s.1.0 s.1.1).1)

pub returns-clause-usable : goal.returns-clause-usable
returns-clause-usable c =
    let s = usable_bounds c.args.width c.args.height c.args.depth (sym c.if-not-usable_tile.ensures) in
    record { wide = s.0; high = s.1.0; deep = s.1.1; way = c.in_ok-compression.ensures; exact = c.if-length-width.false }
