-- The widths that a pointer may have, as numbers of bytes.
use Rattle.std.specs.Prelude.{◌≡◌, ℕ, true, false, Result, MatchResult}
use Rattle.xcf_store.specs.declared.pointer.Width.{Width}
use Rattle.xcf_store.specs.declared.pointer.Width.TheVariants as Variant
use Rattle.xcf_store.specs.declared.pointer.NoWidth.{NoWidth}
use Rattle.xcf_store.specs.Pointer.{narrow, wide, pointer_size_ok}

abbrev pub bytes_of : Width → ℕ
bytes_of Variant.Narrow = narrow
bytes_of Variant.Wide = wide

-- the width of so many bytes, where the test of a size holds; else the number is handed back
abbrev pub WidthOf : ℕ → Result Width NoWidth → Type 0
WidthOf size r = MatchResult r (λ width. (size ≡ bytes_of width) × (pointer_size_ok size ≡ true)) (λ e. (e.0 ≡ size) × (pointer_size_ok size ≡ false))
