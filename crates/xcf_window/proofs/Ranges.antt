-- A row that passes the tests of its numbers has them in range.
-- Assumes nothing.
use Prim.Native.Nat.{ℕ}
use mathlib.Core.Path.{◌≡◌}
use mathlib.Core.Bool.{true, and-eq-true_iff}
use borrow.Author.Tests.{eqb-true}
use lib.Dec.{eqb}
use Rattle.xcf_numbers.specs.Limit.{side_limit, depth_limit}
use Rattle.xcf_numbers.specs.Kind
use Rattle.xcf_range.specs.Range.{within}
use Rattle.xcf_range.proofs.Bounds.{within_bounds}
use Rattle.xcf_table.specs.declared.Row.{Row}
use Rattle.xcf_grid.specs.Grid.{tile_count}
use Rattle.xcf_grid.specs.Drawn.{InRange}
use Rattle.xcf_window.specs.Usable.{in_range, in_file}

pub range_of : (size file_length : ℕ) (r : Row) → in_range r ≡ true → in_file size file_length r ≡ true → InRange r
unfolding in_range in_file
range_of size file_length r ranged filed =
    let range = (and-eq-true_iff (within Kind.layer Kind.channel r.kind) _).0 ranged in
    let sides = (and-eq-true_iff (within 1 side_limit r.width) _).0 range.1 in
    let more = (and-eq-true_iff (within 1 side_limit r.height) _).0 sides.1 in
    let count = (and-eq-true_iff (eqb r.count (tile_count r.width r.height)) _).0 filed in
    record {
      wide = within_bounds 1 side_limit r.width sides.0;
      high = within_bounds 1 side_limit r.height more.0;
      deep = within_bounds 1 depth_limit r.depth more.1;
      count = eqb-true r.count _ count.0;
    }
