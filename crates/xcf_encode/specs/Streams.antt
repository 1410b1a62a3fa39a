-- What the code's streams stand for.
use Rattle.std.specs.Prelude.{List, ℕ}
use Rattle.xcf_encode.specs.declared.streams.Streams.{Streams}
use Rattle.xcf_encode.specs.Parts.{parts}

-- those that are left
abbrev pub streams_left : Streams → List (List ℕ)
streams_left s = parts s.count 0 s.size s.rest.now
