-- Items put one behind the other, each of at most m bytes: what a loop over a list has put, and that it has room for the next item.
-- Assumes nothing.
use Prim.Native.Nat.{ℕ, ◌+◌, ◌*◌, ◌≤◌, ◌<◌}
use mathlib.Core.Path.{◌≡◌}
use mathlib.Core.List.{List, [], flat_map}
use native.Mathlib.Omega.{arith}
use lib.ListN.{length, take, get_or}
use lib.Seq.{take_all}
use Rattle.xcf_laws.proofs.FlatMaps.{flat_map-next}
use Rattle.xcf_laws.proofs.Steps.{one_more}
use Rattle.xcf_store.specs.Put.{PutWithin}
use Rattle.xcf_store.proofs.Stores.{put_nothing, put_length, within_next}
use Rattle.xcf_store.proofs.Room.{within_room}

-- the first i items are put
pub record ItemsPut (f : ℕ → List ℕ) (m : ℕ) (start : List ℕ) (to : ℕ) (ns : List ℕ) (i next : ℕ) (output : List ℕ) : Type 0 where
  pub inside : i ≤ length ns
  pub stored : PutWithin start to (flat_map f (take i ns)) (m * i) next output

no_items : (f : ℕ → List ℕ) (m : ℕ) (l : List ℕ) (to : ℕ) → PutWithin l to (flat_map f []) (m * 0) to l
unfolding flat_map
no_items f m l to = record { put = put_nothing l to; few = omega arith }

pub items_start : (f : ℕ → List ℕ) (m : ℕ) (l : List ℕ) (to : ℕ) (ns : List ℕ) → ItemsPut f m l to ns 0 to l
items_start f m l to ns = record { inside = omega arith; stored = no_items f m l to }

module _ {f : ℕ → List ℕ} {m : ℕ} {start : List ℕ} {to : ℕ} {ns : List ℕ} {i next : ℕ} {output : List ℕ} (l : ItemsPut f m start to ns i next output) where
  pub items_room : to + m * length ns ≤ length start → i < length ns → next + m ≤ length output
  items_room room h = within_room m l.stored (omega (arith, one_more i (length ns) m h))

  pub items_turn : {n next' : ℕ} {output' : List ℕ} → i < length ns → n ≡ get_or ns i 0 → PutWithin output next (f n) m next' output' → ItemsPut f m start to ns (i + 1) next' output'
  items_turn h e q = record { inside = omega arith; stored = rw (flat_map-next f ns i 0 h, ← e) (within_next i l.stored q) }

  pub items_whole : length ns ≤ i → PutWithin start to (flat_map f ns) (m * length ns) next output
  items_whole h =
      let all : i ≡ length ns = omega (arith, l.inside) in
      rw (take_all i ns h, all) at l.stored

  -- as long as it was
  pub items_length : length output ≡ length start
  items_length = put_length l.stored.put
