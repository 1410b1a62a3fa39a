-- How a tile's pixels are stored, as a number.
use Rattle.std.specs.Prelude.{◌≡◌, ℕ, ◌<◌, Result, Ok, Err}
use Rattle.xcf_numbers.specs.declared.reason.Reason.{Reason}
use Rattle.xcf_numbers.specs.declared.reason.Reason.TheVariants as reason
use Rattle.xcf_tile.specs.declared.Compression.{Compression}
use Rattle.xcf_tile.specs.declared.Compression.TheVariants as compression

abbrev pub number_of : Compression → ℕ
number_of compression.Plain = 0
number_of compression.Encoded = 1

-- a number that no tile is stored by is refused
abbrev pub CompressionOf : ℕ → Result Compression Reason → Type 0
CompressionOf n (Ok c) = n ≡ number_of c
CompressionOf n (Err r) = (1 < n) × (r ≡ reason.Unusable)
