-- The length of the image's structure: 51 bytes, and 4 for each pointer (`image_length`); how many pointers there are does not
-- depend on the places (`kind_length`), nor on more places than rows which they are (`kind_taken`), and the version is 0 or 2
-- (`version_old_or_new`).
-- Assumes nothing.
use Prim.Native.Nat.{ℕ, zero, suc, ◌+◌, ◌*◌, ◌≤◌}
use mathlib.Core.Path.{◌≡◌, refl}
use mathlib.Core.List.{List, [], ◌∷◌, ◌++◌, flat_map}
use mathlib.Core.Bool.{Bool, true, false, cond}
use mathlib.Core.Logic.{◌⊎◌, inl, inr}
use native.Mathlib.Omega.{arith}
use lib.ListN.{length, get_or, take, drop, length-append}
use Rattle.xcf_numbers.specs.Kind
use Rattle.xcf_table.specs.declared.Row.{Row}
use Rattle.xcf_table.specs.declared.canvas.Canvas.{Canvas}
use Rattle.xcf_parse.specs.Header.{tags}
use Rattle.xcf_store.specs.Word.{word_bytes, words}
use Rattle.xcf_structure.specs.Structure.{property_bytes, list_bytes}
use Rattle.xcf_image.specs.Image.{image_properties, is_new_mode, version_of, kind_places, image_bytes, image_of}
use Rattle.xcf_image.proofs.RowsLoop.{one_when}
use Rattle.xcf_store.proofs.Words.{words_length}

pub kind_length : (kind : ℕ) (rs : List Row) (ps : List ℕ) → length (kind_places kind rs ps) ≡ length (kind_places kind rs [])
unfolding kind_places
kind_length kind [] ps = refl
kind_length kind (r ∷ rs) ps = simp (length-append, one_when, kind_length kind rs (drop 1 ps))

pub kind_taken : (kind : ℕ) (rs : List Row) (ps : List ℕ) (n : ℕ) → length rs ≤ n → kind_places kind rs (take n ps) ≡ kind_places kind rs ps
unfolding kind_places
kind_taken kind [] ps n h = refl
kind_taken kind (r ∷ rs) ps zero h = absurd (omega arith)
kind_taken kind (r ∷ rs) [] (suc n) h = refl
kind_taken kind (r ∷ rs) (p ∷ ps) (suc n) h = rw (kind_taken kind rs ps n (omega arith))

pub version_old_or_new : (rs : List Row) → (version_of rs ≡ 0) ⊎ (version_of rs ≡ 2)
unfolding version_of
version_old_or_new [] = inl refl
version_old_or_new (r ∷ rs) = go (is_new_mode r) (version_old_or_new rs)
  where
    go : (b : Bool) {v : ℕ} → (v ≡ 0) ⊎ (v ≡ 2) → (cond b 2 v ≡ 0) ⊎ (cond b 2 v ≡ 2)
    go true e = inr refl
    go false e = e

pub tag_length : (v : ℕ) → (v ≡ 0) ⊎ (v ≡ 2) → length (get_or tags v []) ≡ 5
tag_length v (inl e) = rw e
tag_length v (inr e) = rw e

-- the words of the pointers, and of the 0 behind them
pub pointers_length : (ps : List ℕ) → length (words (ps ++ (0 ∷ []))) ≡ 4 * length ps + 4
pointers_length ps = rw (words_length, length-append) (omega arith)

list_length : length (list_bytes image_properties) ≡ 17
unfolding flat_map image_properties property_bytes word_bytes
list_length = refl

pub image_length : (c : Canvas) (v : ℕ) (ls cs : List ℕ) → (v ≡ 0) ⊎ (v ≡ 2)
    → length (image_bytes c v ls cs) ≡ 51 + 4 * length ls + 4 * length cs
unfolding image_bytes
image_length c v ls cs e =
    simp (length-append, tag_length v e, words_length (c.width ∷ c.height ∷ c.base ∷ []), list_length, pointers_length)
    (omega arith)

-- with other places
pub image_same : (c : Canvas) (rs : List Row) (ps : List ℕ) → length (image_of c rs ps) ≡ length (image_of c rs [])
image_same c rs ps =
    let known = version_old_or_new rs in
    rw (
      image_length c _ (kind_places Kind.layer rs ps) (kind_places Kind.channel rs ps) known,
      image_length c _ (kind_places Kind.layer rs []) (kind_places Kind.channel rs []) known,
      kind_length 1 rs ps,
      kind_length 3 rs ps,
    )
