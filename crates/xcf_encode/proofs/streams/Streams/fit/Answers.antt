-- Where there is room for the most bytes, there is room for the encodings: `all_bound`. Otherwise their length says it.
use mathlib.Core.Path.{sym, ◌∙◌}
use native.Mathlib.Nat.{le_trans}
use borrow.Author.Tests.{le-leb}
use Rattle.xcf_encode.proofs.StreamsBound.{all_bound, parts_within}
use Rattle.xcf_encode.proofs.streams.Streams.fit.Goals as goal

pub returns-then-most_bytes-room : goal.returns-then-most_bytes-room
returns-then-most_bytes-room c =
    let most = c.if-most_bytes-room.true in
    le-leb _ _ most ∙ sym (le-leb _ _ (le_trans (all_bound (parts_within _ _ _ _)) (rw c.most_bytes.ensures at most)))
