-- Pointers that rise, as those of tiles do. A pointer has `size` bytes.
use Rattle.std.specs.Prelude.{ℕ, zero, suc, ◌+◌, List, Bool, cond, ◌&&◌, length, leb, ltb}
use Rattle.xcf_store.specs.declared.rising.Rising.{Rising}
use Rattle.xcf_store.specs.Pointer.{number_at}

-- the pointer at a place lies in the file, above the one before and below the file's length
abbrev pub rises : ℕ → List ℕ → ℕ → ℕ → Bool
rises size f at before = leb (at + size) (length f) && (ltb before (number_at size f at) && ltb (number_at size f at) (length f))

-- of at most n pointers from a place on, those that rise, up to the first that does not: how many, and the last of them
unfoldable pub rising : ℕ → List ℕ → ℕ → ℕ → ℕ → Rising
rising size f at zero before = record { count = 0; last = before }
rising size f at (suc n) before =
    cond (rises size f at before)
    (record { count = (rising size f (at + size) n (number_at size f at)).count + 1; last = (rising size f (at + size) n (number_at size f at)).last })
    (record { count = 0; last = before })
