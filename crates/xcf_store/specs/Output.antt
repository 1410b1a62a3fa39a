-- Bytes stored into an output that is written forward.
use Rattle.std.specs.Prelude.{List, ℕ}
use Rattle.xcf_store.specs.declared.output.Output.{Output}
use Rattle.xcf_store.specs.Put.{Put}

-- bs stored at the output's place, which moves behind them
abbrev pub Stores : Output → List ℕ → Output → Type 0
Stores old bs new = Put old.bytes.now old.at bs new.at new.bytes.now
