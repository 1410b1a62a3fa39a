-- The flags that the reader gives: a layer's are the writer's where it is no group (`layer_flags_lem`), with no apply flag where it has
-- no mask (`unmasked_flags`); a mask's or channel's always are (`channel_flags_lem`). From the flags one by one.
-- Assumes nothing.
use Prim.Native.Nat.{ℕ, ◌+◌, ◌*◌, ◌<◌}
use mathlib.Core.Path.{◌≡◌, ◌∙◌}
use native.Mathlib.Omega.{arith}
use borrow.Author.Tests.{eq-eqb}
use Rattle.xcf_numbers.specs.Flag
use Rattle.xcf_numbers.specs.Flag.{flag_of}
use Rattle.xcf_property.specs.declared.Properties.{Properties}
use Rattle.xcf_walk.specs.declared.cursor.Name.{Name}
use Rattle.xcf_row.specs.Row.{layer_flags, channel_flags}
use Rattle.xcf_read_laws.proofs.Flags.{layer_bits, channel_bits}

module _ (p : Properties) (name : Name) where
  pub layer_flags_lem : (mask : ℕ) → let n = layer_flags p mask name in
      n < Flag.group + Flag.not_utf8 * flag_of n Flag.not_utf8
      → n ≡ flag_of n Flag.visible + Flag.apply * flag_of n Flag.apply + Flag.active * flag_of n Flag.active + Flag.not_utf8 * flag_of n Flag.not_utf8
  layer_flags_lem mask ungrouped =
      let b = layer_bits p name mask in
      omega (arith, b.same, b.visible, b.apply, b.active, b.name, ungrouped)

  pub unmasked_flags : (mask : ℕ) → mask ≡ 0 → flag_of (layer_flags p mask name) Flag.apply ≡ 0
  unmasked_flags mask none = (layer_bits p name mask).apply ∙ rw (eq-eqb mask 0 none)

  pub channel_flags_lem : let n = channel_flags p name in
      n ≡ flag_of n Flag.visible + Flag.selection * flag_of n Flag.selection + Flag.active * flag_of n Flag.active + Flag.not_utf8 * flag_of n Flag.not_utf8
  channel_flags_lem = let b = channel_bits p name in omega (arith, b.same, b.visible, b.selection, b.active, b.name)
