-- `tiles` meets its contract: the number behind the pointers that rise decides (`tiles_end`).
use mathlib.Core.Logic.{⊎_elim}
use borrow.Author.Rules.{rules}
use Rattle.xcf_walk.proofs.Tiles.{rising_ends, tiles_stop, tiles_end}
use Rattle.xcf_walk.proofs.cursor.Cursor.tiles.Goals as goal

pub overflow_add-at : goal.overflow_add-at
overflow_add-at c = rw c.bytes-size.ensures (⊎_elim (λ h. search rules) (λ h. search rules) (rising_ends _ _ _ _ c.rising_pointers-right.ensures))

pub returns-in_err-p : goal.returns-in_err-p
returns-in_err-p c = tiles_stop _ _ _ c.rising_pointers-right.ensures (rw c.bytes-size.ensures at c.jump.ensures) c.in_err-p.ensures c.from_residual.ensures.1

pub returns : goal.returns
returns c = tiles_end _ _ _ c.rising_pointers-right.ensures (rw c.bytes-size.ensures at c.jump.ensures) _ _ c.in_ok-p.ensures (rw c.bytes-size.ensures at c.check.ensures.walks)
