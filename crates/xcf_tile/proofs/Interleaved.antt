-- What the planes give byte by byte: byte m of pixel i is byte i of plane m, both in `interleave` (`interleave_at`) and in
-- `scatter_all` (`scatter_all_at`). So a buffer of the tile's length into which whole planes are put holds `interleave` of
-- them, whatever it held before (`scatter_all_lem`).
-- Assumes nothing.
use mathlib.Core.Path.{◌≡◌, refl, sym, ap, subst, ◌∙◌}
use mathlib.Core.List.{List, [], ◌∷◌, ◌++◌}
use Prim.Native.Nat.{ℕ, zero, suc, ◌+◌, ◌*◌, ◌/◌, ◌%◌, ◌≤◌, ◌<◌}
use native.Mathlib.Nat.{mul-suc, mul-zero, add-zero, mul_comm, not-suc-le-zero, le_of_suc-le-suc, add-mul-mod_self_left, mod-eq_of_lt, mod-lt, mod-add-div, zero-add, zero-mul, div-lt_iff_lt-mul}
use native.Mathlib.Omega.{arith}
use lib.ListN.{length, get_or, set, length-set, length-append}
use lib.Seq.{get_or-set_same, get_or-set_other, get_or-append-add, ext_get_or}
use Rattle.xcf_tile.specs.Tile.{pixel, interleave}
use Rattle.xcf_stream.specs.Parts.{scatter, scatter_all}
use Rattle.xcf_stream.proofs.Scattering.{scatter_length}
use Rattle.xcf_tile.proofs.Lengths.{Each}

-- a place that is none of those put is as it was
scatter_other : (buf : List ℕ) (at step : ℕ) (bs : List ℕ) (j : ℕ) → ((i : ℕ) → j ≡ at + step * i → ⊥) → get_or (scatter buf at step bs) j 0 ≡ get_or buf j 0
scatter_other buf at step [] j h = refl
scatter_other buf at step (b ∷ bs) j h =
    scatter_other (set buf at b) (at + step) step bs j (λ i e. h (suc i) (omega (arith, e, mul-suc step i)))
    ∙ get_or-set_other buf at j b 0 (λ e. h 0 (omega (arith, e, mul-zero step)))

-- the i-th place has the i-th byte
scatter_same : (buf : List ℕ) (at step : ℕ) (bs : List ℕ) (i : ℕ) → 0 < step → i < length bs → at + step * i < length buf → get_or (scatter buf at step bs) (at + step * i) 0 ≡ get_or bs i 0
scatter_same buf at step [] i s h l = absurd (not-suc-le-zero h)
scatter_same buf at step (b ∷ bs) zero s h l =
    rw (mul-zero, add-zero)
    (scatter_other (set buf at b) (at + step) step bs at (λ i e. omega arith)
    ∙ get_or-set_same buf at b 0 (omega (arith, mul-zero step)))
scatter_same buf at step (b ∷ bs) (suc i) s h l =
    let e : at + step * suc i ≡ at + step + step * i = omega (arith, mul-suc step i) in
    rw e (scatter_same (set buf at b) (at + step) step bs i s (le_of_suc-le-suc h) (rw length-set (omega (arith, mul-suc step i))))

-- places of different bytes of the pixel differ
apart : (d k m i j : ℕ) → k < d → m < d → k + d * i ≡ m + d * j → k ≡ m
apart d k m i j p q e = sym (mod-eq_of_lt p) ∙ sym (add-mul-mod_self_left k d i) ∙ ap (λ (n : ℕ). n % d) e ∙ add-mul-mod_self_left m d j ∙ mod-eq_of_lt q

-- planes from k on leave the bytes below k of each pixel
all_other : (buf : List ℕ) (k d : ℕ) (ps : List (List ℕ)) (m i : ℕ) → k + length ps ≤ d → m < k → get_or (scatter_all buf k d ps) (m + d * i) 0 ≡ get_or buf (m + d * i) 0
unfolding scatter_all
all_other buf k d [] m i h l = refl
all_other buf k d (p ∷ ps) m i h l =
    all_other (scatter buf k d p) (k + 1) d ps m i (omega arith) (omega arith)
    ∙ scatter_other buf k d p (m + d * i) (λ j e. let z = apart d m k i j (omega arith) (omega arith) e in omega arith)

scatter_all_at : (buf : List ℕ) (k d : ℕ) (ps : List (List ℕ)) (m i : ℕ) → k + length ps ≤ d → m < length ps → i < length (get_or ps m []) → k + m + d * i < length buf → get_or (scatter_all buf k d ps) (k + m + d * i) 0 ≡ get_or (get_or ps m []) i 0
unfolding scatter_all
scatter_all_at buf k d [] m i h l n o = absurd (not-suc-le-zero l)
scatter_all_at buf k d (p ∷ ps) zero i h l n o =
    rw add-zero
    (all_other (scatter buf k d p) (k + 1) d ps k i (omega arith) (omega arith)
    ∙ scatter_same buf k d p i (omega arith) n (omega arith))
scatter_all_at buf k d (p ∷ ps) (suc m) i h l n o =
    let e : k + suc m ≡ k + 1 + m = omega arith in
    rw e (scatter_all_at (scatter buf k d p) (k + 1) d ps m i (omega arith) (le_of_suc-le-suc l) n (rw scatter_length (omega arith)))

scatter_all_length : (buf : List ℕ) (k d : ℕ) (ps : List (List ℕ)) → length (scatter_all buf k d ps) ≡ length buf
unfolding scatter_all
scatter_all_length buf k d [] = refl
scatter_all_length buf k d (p ∷ ps) = scatter_all_length (scatter buf k d p) (k + 1) d ps ∙ scatter_length buf k d p

pixel_length : (i : ℕ) (ps : List (List ℕ)) → length (pixel i ps) ≡ length ps
unfolding pixel
pixel_length i [] = refl
pixel_length i (p ∷ ps) = ap suc (pixel_length i ps)

pixel_at : (i : ℕ) (ps : List (List ℕ)) (m : ℕ) (zs : List ℕ) → m < length ps → get_or (pixel i ps ++ zs) m 0 ≡ get_or (get_or ps m []) i 0
unfolding pixel
pixel_at i [] m zs h = absurd (not-suc-le-zero h)
pixel_at i (p ∷ ps) zero zs h = refl
pixel_at i (p ∷ ps) (suc m) zs h = pixel_at i ps m zs (le_of_suc-le-suc h)

pub interleave_length : (n i : ℕ) (ps : List (List ℕ)) → length (interleave n i ps) ≡ length ps * n
unfolding interleave
interleave_length zero i ps = sym (mul-zero (length ps))
interleave_length (suc n) i ps =
    rw (length-append, pixel_length i ps, interleave_length n (i + 1) ps) (omega (arith, mul-suc (length ps) n))

pub interleave_at : (n i : ℕ) (ps : List (List ℕ)) (m j : ℕ) → m < length ps → j < n → get_or (interleave n i ps) (m + length ps * j) 0 ≡ get_or (get_or ps m []) (i + j) 0
unfolding interleave
interleave_at zero i ps m j h l = absurd (not-suc-le-zero l)
interleave_at (suc n) i ps m zero h l = rw (mul-zero, add-zero, add-zero) (pixel_at i ps m (interleave n (i + 1) ps) h)
interleave_at (suc n) i ps m (suc j) h l =
    let e : m + length ps * suc j ≡ length (pixel i ps) + (m + length ps * j) = omega (arith, mul-suc (length ps) j, pixel_length i ps) in
    let f : i + suc j ≡ i + 1 + j = omega arith in
    rw (e, f) (get_or-append-add (pixel i ps) (interleave n (i + 1) ps) (m + length ps * j) 0 ∙ interleave_at n (i + 1) ps m j h (le_of_suc-le-suc l))

each_at : (n : ℕ) (ps : List (List ℕ)) (m : ℕ) → Each n ps → m < length ps → length (get_or ps m []) ≡ n
each_at n [] m e h = absurd (not-suc-le-zero h)
each_at n (p ∷ ps) zero e h = e.0
each_at n (p ∷ ps) (suc m) e h = each_at n ps m e.1 (le_of_suc-le-suc h)

-- a place of d * n bytes as a byte of a pixel
record Place (d n j : ℕ) : Type 0 where
  pub byte : ℕ
  pub index : ℕ
  pub below : byte < d
  pub inside : index < n
  pub place : byte + d * index ≡ j

place_of : (d n j : ℕ) → j < d * n → Place d n j
place_of zero n j h = absurd (not-suc-le-zero (rw zero-mul at h))
place_of (suc d) n j h = record {
  byte = j % suc d;
  index = j / suc d;
  below = mod-lt j (omega arith);
  inside = (div-lt_iff_lt-mul {k = suc d} {x = j} {y = n} (omega arith)).1 (rw mul_comm at h);
  place = mod-add-div j (suc d);
}

pub scatter_all_lem : (buf : List ℕ) (n : ℕ) (ps : List (List ℕ)) → Each n ps → length buf ≡ length ps * n → scatter_all buf 0 (length ps) ps ≡ interleave n 0 ps
scatter_all_lem buf n ps e h =
    ext_get_or 0 (scatter_all buf 0 (length ps) ps) (interleave n 0 ps) (scatter_all_length buf 0 (length ps) ps ∙ h ∙ sym (interleave_length n 0 ps))
    (λ j l.
    let b : j < length buf = rw scatter_all_length at l in
    let p = place_of (length ps) n j (rw h at b) in
    subst (λ (q : ℕ). get_or (scatter_all buf 0 (length ps) ps) q 0 ≡ get_or (interleave n 0 ps) q 0) p.place
    (rw zero-add at (scatter_all_at buf 0 (length ps) ps p.byte p.index (omega arith) p.below (rw (each_at n ps p.byte e p.below) p.inside) (omega (arith, p.place)))
    ∙ sym (rw zero-add at (interleave_at n 0 ps p.byte p.index p.below p.inside))))
