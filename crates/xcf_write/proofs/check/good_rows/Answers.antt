-- `good_rows` meets its contract, by the lowest bad row and then the number of pixels.
use mathlib.Core.Path.{◌≡◌, sym, ◌∙◌}
use mathlib.Core.List.{List}
use Prim.Native.Nat.{ℕ}
use Rattle.std.specs.Prelude.{Option, None}
use Rattle.xcf_table.specs.declared.canvas.Canvas.{Canvas}
use Rattle.xcf_usable.specs.Usable.{bad_row, row_found}
use Rattle.xcf_body.specs.Rows.{pixels_size, used_rows}
use Rattle.xcf_write.proofs.RowsUsed.{used_range, ready}
use Rattle.xcf_write.proofs.Refusals.{found_none, bad_refused, Counted, none_refused, pixels_refused}
use Rattle.xcf_write.proofs.check.good_rows.Goals as goal

-- no row is bad, and then the pixels are counted
counted : (c : Canvas) (table names : List ℕ) {bad : Option ℕ} {used size : ℕ} → bad ≡ row_found (bad_row c names table) → bad ≡ None
    → used ≡ used_rows table → size ≡ pixels_size table used 0 → Counted c table names size
counted c table names b none u e = record { good = found_none _ (sym none ∙ b); whole = rw u at e }

pub returns-in-Some-clause-refusal : goal.returns-in-Some-clause-refusal
returns-in-Some-clause-refusal c = bad_refused _ _ _ _ (sym c.in-Some.is ∙ c.bad_row.ensures)

pub pixels_size-requires : goal.pixels_size-requires
pixels_size-requires c =
    let used = c.used_rows-used.ensures in
    (used.1, rw used.0 (used_range _ _ _ (found_none _ (sym c.in_default.is ∙ c.bad_row.ensures))))

pub returns-then-pixels-pixels_size-clause-refusal : goal.returns-then-pixels-pixels_size-clause-refusal
returns-then-pixels-pixels_size-clause-refusal c =
    let known = counted c.args.canvas c.args.table.now c.args.names.now c.bad_row.ensures c.in_default.is c.used_rows-used.ensures.0 c.pixels_size.ensures in
    pixels_refused known c.if-pixels-pixels_size.true

pub invariant_of-result : goal.invariant_of-result
invariant_of-result c =
    let known = counted c.args.canvas c.args.table.now c.args.names.now c.bad_row.ensures c.in_default.is c.used_rows-used.ensures.0 c.pixels_size.ensures in
    record { ready = rw c.used_rows-used.ensures.0 (ready _ _ _ _ known.good (c.if-pixels-pixels_size.false ∙ known.whole)) }

pub returns-clause-refusal : goal.returns-clause-refusal
returns-clause-refusal c =
    let known = counted c.args.canvas c.args.table.now c.args.names.now c.bad_row.ensures c.in_default.is c.used_rows-used.ensures.0 c.pixels_size.ensures in
    none_refused known c.if-pixels-pixels_size.false
