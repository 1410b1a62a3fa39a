-- A row's name, and the flag that says what its bytes are.
use Rattle.std.specs.Prelude.{ℕ, ◌≡◌, List, cond}
use Rattle.xcf_numbers.specs.Flag
use Rattle.xcf_numbers.specs.Flag.{flag_of}
use Rattle.xcf_store.specs.Word.{part}
use Rattle.xcf_utf8.specs.Utf8.{well_formed}
use Rattle.xcf_table.specs.declared.Row.{Row}

-- the bytes of a row's name, among those that its place is counted in
abbrev pub name_of : List ℕ → Row → List ℕ
name_of bytes r = part bytes r.name r.namelen

-- the flag is set exactly where these are not well-formed UTF-8
abbrev pub Told : List ℕ → Row → Type 0
Told bytes r = flag_of r.flags Flag.not_utf8 ≡ cond (well_formed (name_of bytes r)) 0 1
