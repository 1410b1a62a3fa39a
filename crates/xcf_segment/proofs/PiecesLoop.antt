-- The two loops over pieces, each of which f makes bytes of: one that adds up how many bytes they are, and one that stores them one
-- behind the other. At the head of each, the bytes of the pieces that are left are, with what was done, the whole; and P holds of
-- each piece that is left.
--     size_start, store_start    all pieces are left
--     here                       P holds of the piece that comes
--     size_turn, store_turn      a turn
--     size_whole, store_whole    none is left
-- Assumes nothing.
use mathlib.Core.Path.{◌≡◌, refl, ap, ◌∙◌}
use mathlib.Core.List.{List, [], ◌∷◌, ◌++◌, flat_map}
use Prim.Native.Nat.{ℕ, ◌+◌, ◌≤◌}
use native.Mathlib.Omega.{arith}
use lib.ListN.{length, length-append}
use lib.Seq.{sets}
use Rattle.std.specs.List.{All}
use Rattle.std.proofs.lemmas.List.Elements.{All-head, All-same, All-rest}
use Rattle.xcf_laws.proofs.FlatMaps.{flat_map-cons}
use Rattle.xcf_store.specs.declared.output.Output.{Output}
use Rattle.xcf_store.specs.Output.{Stores}
use Rattle.xcf_store.proofs.Stores.{sets_append, put_length}

-- the size so far, counted from `from` on
pub record SizeLeft {X : Type 0} (f : X → List ℕ) (P : X → Type 0) (all : List X) (from : ℕ) (left : List X) (size : ℕ) : Type 0 where
  pub each : All P left
  pub whole : size + length (flat_map f left) ≡ from + length (flat_map f all)

pub size_start : {X : Type 0} {f : X → List ℕ} {P : X → Type 0} {all : List X} (from : ℕ) (left : List X) → All P all → left ≡ all → SizeLeft f P all from left from
size_start {X} {f} {P} {all} from left h e = record { each = All-same P left all e h; whole = rw e refl }

module _ {X : Type 0} {f : X → List ℕ} {P : X → Type 0} {all : List X} {from : ℕ} {left : List X} {size : ℕ} (l : SizeLeft f P all from left size) (x : X) (rest : List X) (e : left ≡ x ∷ rest) where
  turn : flat_map f left ≡ f x ++ flat_map f rest
  turn = ap (flat_map f) e ∙ flat_map-cons f x rest

  pub here : P x
  here = All-head P x rest (rw e at l.each)

  pub size_turn : (n : ℕ) → n ≡ length (f x) → SizeLeft f P all from rest (size + n)
  size_turn n m = record {
    each = All-rest P x rest left e l.each;
    whole = omega (arith, l.whole, m, ap length turn, length-append (f x) (flat_map f rest));
  }

pub size_whole : {X : Type 0} {f : X → List ℕ} {P : X → Type 0} {all : List X} {from : ℕ} {left : List X} {size : ℕ} → SizeLeft f P all from left size → left ≡ [] → size ≡ from + length (flat_map f all)
unfolding flat_map
size_whole l e = let w = rw e at l.whole in omega (arith, w)

-- the output so far
pub record StoreLeft {X : Type 0} (f : X → List ℕ) (P : X → Type 0) (all : List X) (start : Output) (left : List X) (output : Output) : Type 0 where
  pub sizes : SizeLeft f P all start.at left output.at
  pub long : length output.bytes.now ≡ length start.bytes.now
  pub whole : sets output.bytes.now output.at (flat_map f left) ≡ sets start.bytes.now start.at (flat_map f all)
  pub same : output.bytes.ghost_name ≡ start.bytes.ghost_name

pub store_start : {X : Type 0} {f : X → List ℕ} {P : X → Type 0} {all : List X} (output : Output) (left : List X) → All P all → left ≡ all → StoreLeft f P all output left output
store_start output left h e = record { sizes = size_start output.at left h e; long = refl; whole = rw e refl; same = refl }

module _ {X : Type 0} {f : X → List ℕ} {P : X → Type 0} {all : List X} {start : Output} {left : List X} {output : Output} (l : StoreLeft f P all start left output) (x : X) (rest : List X) (e : left ≡ x ∷ rest) where
  pub store_turn : {next : Output} → Stores output (f x) next → next.bytes.ghost_name ≡ output.bytes.ghost_name → StoreLeft f P all start rest next
  store_turn p same = record {
    sizes = rw p.behind (size_turn l.sizes x rest e _ refl);
    long = put_length p ∙ l.long;
    whole = rw (p.behind, p.output, ← sets_append output.bytes.now output.at (f x), ← turn l.sizes x rest e) l.whole;
    same = same ∙ l.same;
  }

  -- what is left fits, so this piece does
  pub store_room : start.at + length (flat_map f all) ≤ length start.bytes.now → output.at + length (f x) ≤ length output.bytes.now
  store_room h = omega (arith, (size_turn l.sizes x rest e _ refl).whole, l.long)

pub store_whole : {X : Type 0} {f : X → List ℕ} {P : X → Type 0} {all : List X} {start : Output} {left : List X} {output : Output} → StoreLeft f P all start left output → left ≡ [] → Stores start (flat_map f all) output
unfolding flat_map
store_whole l e = record {
  behind = size_whole l.sizes e;
  output = rw e at l.whole;
}
