-- The types of properties.
use Rattle.std.specs.Prelude.{ℕ}

abbrev pub end : ℕ
end = 0

abbrev pub colour_map : ℕ
colour_map = 1

abbrev pub active_layer : ℕ
active_layer = 2

abbrev pub active_channel : ℕ
active_channel = 3

abbrev pub selection : ℕ
selection = 4

abbrev pub floating : ℕ
floating = 5

abbrev pub opacity : ℕ
opacity = 6

abbrev pub mode : ℕ
mode = 7

abbrev pub visible : ℕ
visible = 8

abbrev pub apply : ℕ
apply = 11

abbrev pub offsets : ℕ
offsets = 15

abbrev pub compression : ℕ
compression = 17

abbrev pub group_item : ℕ
group_item = 29
