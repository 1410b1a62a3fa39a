-- The flags of a row, one by one: a layer's (`layer_bits`), a mask's or channel's (`channel_bits`). Each is its bit once or not at all,
-- so that the sum shows each of them (`bits`).
-- Assumes nothing.
use Prim.Native.Nat.{ℕ, ◌+◌, ◌*◌, ◌≤◌}
use mathlib.Core.Path.{◌≡◌}
use mathlib.Core.Bool.{Bool, true, false, cond}
use native.Mathlib.Omega.{arith}
use lib.Dec.{eqb}
use Rattle.xcf_numbers.specs.Flag
use Rattle.xcf_numbers.specs.Flag.{flag_of}
use Rattle.xcf_property.specs.declared.Properties.{Properties}
use Rattle.xcf_walk.specs.declared.cursor.Name.{Name}
use Rattle.xcf_row.specs.Row.{flag, name_flag, layer_flags, channel_flags}

-- how often a flag is set: not at all where the test holds
abbrev pub unless : Bool → ℕ
unless t = cond t 0 1

few : (t : Bool) → unless t ≤ 1
few true = omega arith
few false = omega arith

times : (t : Bool) (bit : ℕ) → cond t 0 bit ≡ bit * unless t
times true bit = omega arith
times false bit = omega arith

flag_times : (v bit : ℕ) → flag v bit ≡ bit * unless (eqb v 0)
unfolding flag
flag_times v bit = times (eqb v 0) bit

name_times : (name : Name) → name_flag name ≡ Flag.not_utf8 * unless name.utf8
unfolding name_flag
name_times name = times name.utf8 Flag.not_utf8

-- a sum of flags, of which each is set so often
abbrev pub sum : ℕ → ℕ → ℕ → ℕ → ℕ → ℕ → ℕ
sum v a s w g u = v + Flag.apply * a + Flag.selection * s + Flag.active * w + Flag.group * g + Flag.not_utf8 * u

-- the flags of a number
pub record Bits (n v a s w g u : ℕ) : Type 0 where
  pub same : n ≡ sum v a s w g u
  pub visible : flag_of n Flag.visible ≡ v
  pub apply : flag_of n Flag.apply ≡ a
  pub selection : flag_of n Flag.selection ≡ s
  pub active : flag_of n Flag.active ≡ w
  pub group : flag_of n Flag.group ≡ g
  pub name : flag_of n Flag.not_utf8 ≡ u

bits : (n v a s w g u : ℕ) → v ≤ 1 → a ≤ 1 → s ≤ 1 → w ≤ 1 → g ≤ 1 → u ≤ 1 → n ≡ sum v a s w g u → Bits n v a s w g u
bits n v a s w g u v1 a1 s1 w1 g1 u1 e = record {
  same = e;
  visible = omega arith;
  apply = omega arith;
  selection = omega arith;
  active = omega arith;
  group = omega arith;
  name = omega arith;
}

module _ (p : Properties) (name : Name) where
  pub layer_bits : (mask : ℕ)
      → Bits (layer_flags p mask name) (unless (eqb p.visible 0)) (unless (eqb (cond (eqb mask 0) 0 p.apply) 0)) 0 (unless (eqb p.active 0))
      (unless (eqb p.group 0)) (unless name.utf8)
  unfolding layer_flags
  layer_bits mask =
      let applied = cond (eqb mask 0) 0 p.apply in
      bits _ _ _ 0 _ _ _ (few (eqb p.visible 0)) (few (eqb applied 0)) (omega arith) (few (eqb p.active 0)) (few (eqb p.group 0)) (few name.utf8)
      (omega (arith, flag_times p.visible Flag.visible, flag_times applied Flag.apply, flag_times p.active Flag.active, flag_times p.group Flag.group, name_times name))

  pub channel_bits : Bits (channel_flags p name) (unless (eqb p.visible 0)) 0 (unless (eqb p.selection 0)) (unless (eqb p.active 0)) 0 (unless name.utf8)
  unfolding channel_flags
  channel_bits =
      bits _ _ 0 _ _ 0 _ (few (eqb p.visible 0)) (omega arith) (few (eqb p.selection 0)) (few (eqb p.active 0)) (omega arith) (few name.utf8)
      (omega (arith, flag_times p.visible Flag.visible, flag_times p.selection Flag.selection, flag_times p.active Flag.active, name_times name))
