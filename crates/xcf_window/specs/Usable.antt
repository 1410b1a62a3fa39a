-- What the decoder asks of a row and of the lent buffers. A pointer has `size` bytes.
use Rattle.std.specs.Prelude.{ℕ, ◌+◌, ◌*◌, Bool, cond, ◌&&◌, leb, eqb}
use Rattle.xcf_numbers.specs.Limit.{file_limit, side_limit, depth_limit, table_size}
use Rattle.xcf_numbers.specs.Kind
use Rattle.xcf_numbers.specs.Refusal
use Rattle.xcf_store.specs.Pointer.{pointer_size_ok}
use Rattle.xcf_table.specs.declared.Row.{Row}
use Rattle.xcf_grid.specs.Grid.{tile_count}
use Rattle.xcf_range.specs.Range.{within}

-- kind 1 to 3, sides and depth in range; a row that the table does not have is an unused one, of kind 0
unfoldable pub in_range : Row → Bool
in_range r =
    within Kind.layer Kind.channel r.kind
    && (within 1 side_limit r.width && (within 1 side_limit r.height && within 1 depth_limit r.depth))

-- as many tiles as the sides take; their pointers end, with the closing one, within the file
unfoldable pub in_file : ℕ → ℕ → Row → Bool
in_file size file_length r = eqb r.count (tile_count r.width r.height) && leb (r.pointers + size * (r.count + 1)) file_length

unfoldable pub decodable_row : ℕ → ℕ → Row → ℕ → Bool
decodable_row size file_length r compression = pointer_size_ok size && (in_range r && (in_file size file_length r && leb compression 1))

-- whether pixels and marks of these lengths fit a row
unfoldable pub fits : Row → ℕ → ℕ → Bool
fits r pixels marks = eqb pixels (r.width * r.height * r.depth) && eqb marks r.count

-- 11 for the table, 15, 14, at 0 each; number 0 where the row is not refused
unfoldable pub row_refusal : ℕ → ℕ → ℕ → Row → ℕ → ℕ
row_refusal size file_length tableLength r compression =
    cond (eqb tableLength table_size)
    (cond (leb file_length file_limit)
    (cond (decodable_row size file_length r compression) Refusal.accepted Refusal.unusable)
    Refusal.too_long)
    Refusal.wrong_buffer
