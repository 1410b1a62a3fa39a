-- What stands in a file before its pointers.
use Rattle.std.specs.Prelude.{ℕ, Bool, cond, not, ◌&&◌, leb, eqb}
use Rattle.xcf_numbers.specs.Base
use Rattle.xcf_numbers.specs.Precision
use Rattle.xcf_numbers.specs.Refusal
use Rattle.xcf_numbers.specs.Version
use Rattle.xcf_store.specs.Pointer.{narrow, wide}
use Rattle.xcf_walk.specs.Walk.{Walk, done, here, must, ◌>>=◌, ◌>>◌}
use Rattle.xcf_walk.specs.Fields.{word}
use Rattle.xcf_property.specs.Property.{image_list}
use Rattle.xcf_walk.specs.Property.{properties}
use Rattle.xcf_parse.specs.declared.image.Head.{Head}
use Rattle.xcf_parse.specs.Header.{header}
use Rattle.xcf_parse.specs.Drawable.{side}

-- the bytes of a pointer in a file of this version
abbrev pub pointer_size : ℕ → ℕ
pointer_size version = cond (eqb version Version.wide) wide narrow

-- 0, 1, or from version 1 on 2
unfoldable pub base_ok : ℕ → ℕ → Bool
base_ok version base = leb base Base.indexed && not (eqb version Version.first && eqb base Base.indexed)

unfoldable pub base_type : ℕ → Walk ℕ
base_type version = do
  at ← here
  base ← word
  must (base_ok version base) Refusal.bad_base at
  done base

-- a word that version 11 alone has; of all precisions one is read
unfoldable pub precision : ℕ → Walk (Unit {0})
precision version =
    cond (eqb version Version.wide)
    (do
      at ← here
      n ← word
      must (eqb n Precision.eight_bit_gamma) Refusal.bad_precision at)
    (done tt)

-- what stands before the pointers
unfoldable pub head : Walk Head
head = do
  version ← header
  width ← side
  height ← side
  base ← base_type version
  precision version
  p ← properties (pointer_size version) image_list (cond (eqb base Base.indexed) 1 0)
  done (record { version = version; width = width; height = height; base = base; compression = p.compression })
