-- The line of a row in a listing.
use Rattle.std.specs.Prelude.{ℕ, ◌+◌, ◌-◌, ◌*◌, cond, take, drop, eqb}
use mathlib.Core.List.{List, ◌++◌, flat_map}
use Rattle.xcf_numbers.specs.Limit.{row_size}
use Rattle.xcf_numbers.specs.Kind
use Rattle.xcf_table.specs.Table.{row_at}
use Rattle.xcf_text.specs.Text.{newline, decimal, spaced, labelled}
use Rattle.xcf_text.specs.Words.{layer, mask, channel, bad}

-- room for a kind's word
abbrev pub kind_size : ℕ
kind_size = 8

-- 1 layer, 2 mask, 3 channel
unfoldable pub kind_name : ℕ → List ℕ
kind_name kind = cond (eqb kind Kind.layer) layer (cond (eqb kind Kind.mask) mask channel)

-- row k: its kind, its fields 1 to 15, and how many of its tiles are marked
unfoldable pub row_line : List ℕ → ℕ → ℕ → List ℕ
row_line table k marked =
    decimal k ++ (kind_name (row_at table k).kind ++ (flat_map spaced (take (row_size - 1) (drop (row_size * k + 1) table))
    ++ (labelled bad marked ++ newline)))
