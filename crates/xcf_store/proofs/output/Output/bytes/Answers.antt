-- The bytes copied to their place: `sets-eq`.
use mathlib.Core.Path.{◌≡◌, refl}
use mathlib.Core.List.{List, append_assoc}
use Prim.Native.Nat.{ℕ, ◌+◌, ◌≤◌}
use native.Mathlib.Omega.{arith}
use lib.ListN.{length}
use lib.Seq.{sets-eq, drop-drop}
use borrow.Rule.Slice.PartMut.{put_mid}
use Rattle.xcf_store.specs.Put.{Put}
use Rattle.xcf_store.proofs.output.Output.bytes.Goals as goal

put_copy : (l : List ℕ) (to k : ℕ) (bs part : List ℕ) → to + length bs ≤ length l → k ≡ length bs → part ≡ bs → Put l to bs (to + length bs) (put_mid to k l part)
put_copy l to k bs part h few e = record { behind = refl; output = rw (e, few, sets-eq bs l to h, drop-drop, append_assoc) refl }

pub returns-clause-stores : goal.returns-clause-stores
returns-clause-stores c = put_copy _ _ _ _ _ c.requires (omega arith) c.copy_from_slice.ensures.after
