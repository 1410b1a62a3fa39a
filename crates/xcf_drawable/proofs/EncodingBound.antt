-- The encodings of a row's tiles: one is at most 16,644 bytes (`encoding_bound`), a row has at most 65,536 (`few`), and those from
-- tile t on are that of t and those behind it (`encodings_next`, `flatten_next`), or none (`encodings_none`, `flatten_none`).
-- Assumes nothing.
use Prim.Native.Nat.{ℕ, suc, ◌+◌, ◌-◌, ◌≤◌, ◌<◌}
use mathlib.Core.Path.{◌≡◌}
use mathlib.Core.List.{List, [], ◌∷◌, ◌++◌, flatten}
use native.Mathlib.Omega.{arith}
use lib.ListN.{length}
use Rattle.xcf_numbers.specs.Limit.{encoded_size}
use Rattle.xcf_table.specs.declared.Row.{Row}
use Rattle.xcf_grid.proofs.FewTiles.{few_tiles}
use Rattle.xcf_encode.proofs.TileBound.{tile_bound}
use Rattle.xcf_drawable.specs.Drawable.{encoding_of, encodings}
use Rattle.xcf_grid.specs.Drawn.{InRange, Drawn, Tiled}
use Rattle.xcf_grid.proofs.Lines.{tiled_size}

pub tiled : {r : Row} {t : ℕ} {pixels : List ℕ} → Drawn r pixels → t < r.count → Tiled r t pixels
tiled d below = record { drawn = d; tile = below }

pub encoding_bound : {r : Row} {t : ℕ} {pixels : List ℕ} → Tiled r t pixels → length (encoding_of r t pixels) ≤ encoded_size
unfolding encoding_of
encoding_bound d = tile_bound _ _ _ (tiled_size d).0 d.drawn.range.deep.1

pub few : {r : Row} → InRange r → r.count ≤ 65536
few {r} range = rw range.count (few_tiles r.width r.height range.wide.1 range.high.1)

-- the encodings from t on are that of t and those from t + 1 on
pub encodings_next : (r : Row) (pixels : List ℕ) (n t : ℕ) → t < n
    → encodings (n - t) t r pixels ≡ encoding_of r t pixels ∷ encodings (n - (t + 1)) (t + 1) r pixels
unfolding encodings
encodings_next r pixels n t below =
    let e : n - t ≡ suc (n - (t + 1)) = omega (arith, below) in rw e

pub flatten_next : (r : Row) (pixels : List ℕ) (n t : ℕ) → t < n
    → flatten (encodings (n - t) t r pixels) ≡ encoding_of r t pixels ++ flatten (encodings (n - (t + 1)) (t + 1) r pixels)
unfolding flatten
flatten_next r pixels n t below = rw (encodings_next r pixels n t below)

-- and from the last on there are none
pub encodings_none : (r : Row) (pixels : List ℕ) (n t : ℕ) → n ≤ t → encodings (n - t) t r pixels ≡ []
unfolding encodings
encodings_none r pixels n t over = let e : n - t ≡ 0 = omega (arith, over) in rw e

pub flatten_none : (r : Row) (pixels : List ℕ) (n t : ℕ) → n ≤ t → flatten (encodings (n - t) t r pixels) ≡ []
unfolding flatten
flatten_none r pixels n t over = rw (encodings_none r pixels n t over)
