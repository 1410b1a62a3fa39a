-- Walks that pass over at least a byte where they are taken, so that they end within the file: a structure that starts with a
-- word, and a loop whose turns do.
-- Assumes nothing.
use Prim.Native.Nat.{ℕ, ◌≤◌, ◌<◌}
use mathlib.Core.Path.{◌≡◌}
use mathlib.Core.List.{List}
use native.Mathlib.Omega.{arith}
use lib.ListN.{length}
use Rattle.xcf_walk.specs.Walk.{Walk, got, ◌>>=◌, run, bytes, here, file_length, Turn, turns, loop}
use Rattle.xcf_walk.specs.Fields.{number, word}
use Rattle.xcf_property.specs.declared.Properties.{Properties}
use Rattle.xcf_walk.specs.Property.{property, property_turn, properties}
use Rattle.xcf_walk.proofs.Walks.{parted, got_bytes}
use Rattle.xcf_walk.proofs.Straight.{Straight, straight_forward, straight_first, straight_rest, straight_number, straight_property, straight_property_turn, straight_properties}

pub record Advances {A : Type 0} (w : Walk A) : Type 0 where
  pub passes : (f : List ℕ) (at : ℕ) (a : A) (q : ℕ) → got a q ≡ run w f at → (at < q) × (q ≤ length f)

-- a straight walk in two parts advances where either does
module _ {A B : Type 0} (w : Walk A) (k : A → Walk B) (s : Straight (w >>= k)) where
  pub advances_first : Advances w → Advances (w >>= k)
  advances_first v = record {
    passes = λ f at a q e.
        let p = parted w k f at e in
        let m = v.passes f at p.value p.place p.first in
        let r = straight_forward f p.place (straight_rest k w f at s p.first) p.rest in
        (omega (arith, m.0, r.0), r.1 m.1);
  }

  pub advances_next : ((a : A) → Straight (k a) → Advances (k a)) → Advances (w >>= k)
  advances_next v = record {
    passes = λ f at a q e.
        let p = parted w k f at e in
        let m = (v p.value (straight_rest k w f at s p.first)).passes f p.place a q p.rest in
        (omega (arith, m.0, (straight_forward f at (straight_first k w s) p.first).0), m.1);
  }

advances_bytes : (n : ℕ) → 1 ≤ n → Advances (bytes n)
advances_bytes n h = record { passes = λ f at a q e. let g = got_bytes f at n e in (omega (arith, g.0), omega (arith, g.0, g.1)) }

pub advances_loop : {S A : Type 0} (body : S → Walk (Turn S A)) (s : S) → Straight (loop body s) → ((t : S) → Advances (body t)) → Advances (loop body s)
unfolding loop turns
advances_loop body s h v = advances_next file_length _ h λ n r. advances_first (body s) _ r (v s)

pub advances_number : (size : ℕ) → 1 ≤ size → Advances (number size)
unfolding number
advances_number size h = advances_first (bytes size) _ (straight_number size) (advances_bytes size h)

pub advances_word : Advances word
unfolding word
advances_word = advances_number 4 (omega arith)

pub advances_property : (size list : ℕ) → Advances (property size list)
unfolding property
advances_property size list = advances_next here _ (straight_property size list) λ start r. advances_first word _ r advances_word

pub advances_property_turn : (size list : ℕ) (p : Properties) → Advances (property_turn size list p)
unfolding property_turn
advances_property_turn size list p = advances_first (property size list) _ (straight_property_turn size list p) (advances_property size list)

pub advances_properties : (size list unmapped : ℕ) → Advances (properties size list unmapped)
unfolding properties
advances_properties size list unmapped = advances_loop _ _ (straight_properties size list unmapped) (advances_property_turn size list)
