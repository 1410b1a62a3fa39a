-- Text put into an output that is written forward.
use Rattle.std.specs.Prelude.{List, ℕ}
use Rattle.xcf_store.specs.declared.output.Output.{Output}
use Rattle.xcf_store.specs.Put.{PutWithin}

-- bs, at most so many bytes, put at the output's place, which moves behind them
abbrev pub StoresWithin : Output → List ℕ → ℕ → Output → Type 0
StoresWithin old bs most new = PutWithin old.bytes.now old.at bs most new.at new.bytes.now
