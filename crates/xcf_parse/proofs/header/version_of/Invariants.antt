-- `version_of` meets its contract: no tag before the loop's is the one.
use Prim.Native.Nat.{◌+◌}
use mathlib.Core.Path.{◌≡◌}
use lib.ListN.{drop}
use Rattle.xcf_parse.specs.Header.{tags, place_in}
use Rattle.xcf_parse.proofs.header.version_of.Given as goal

abbrev pub invariant-loop-known : goal.invariant-loop-known
invariant-loop-known l = place_in (drop l.known-index tags) l.tag + l.known-index ≡ place_in tags l.tag
