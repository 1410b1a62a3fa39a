-- The loop that stores a row's tiles, and the pointers to them in another output: `Storing` holds at its head, the next pointer and
-- the next encoding have room (`next_link`, `next_tile`) and keep it (`storing_next`), and with no tile left all are stored
-- (`links_over`, `tiles_over`).
-- Assumes nothing.
use Prim.Native.Nat.{ℕ, ◌+◌, ◌-◌, ◌*◌, ◌≤◌, ◌<◌}
use mathlib.Core.Path.{◌≡◌, refl, ap}
use mathlib.Core.List.{List, [], ◌++◌, flat_map, flatten}
use native.Mathlib.Omega.{arith}
use lib.ListN.{length, length-append}
use Rattle.xcf_numbers.specs.Limit.{file_limit}
use Rattle.xcf_table.specs.declared.Row.{Row}
use Rattle.xcf_store.specs.declared.output.Output.{Output}
use Rattle.xcf_store.specs.Output.{Stores}
use Rattle.xcf_store.proofs.Stores.{put_nothing}
use Rattle.xcf_store.specs.Word.{word_bytes, words}
use Rattle.xcf_drawable.specs.Drawable.{encoding_of, encodings, row_tiles, starts}
use Rattle.xcf_store.proofs.Words.{word_length, words_length}
use Rattle.xcf_structure.proofs.PartsStored.{PartsLeft, parts_first, parts_next}
use Rattle.xcf_drawable.proofs.DrawableLength.{encodings_count, starts_length}
use Rattle.xcf_drawable.proofs.EncodingBound.{encodings_next, flatten_next, encodings_none, flatten_none}

-- the pointers to n tiles
pub pointers_length : (r : Row) (pixels : List ℕ) (n t p : ℕ) → length (words (starts (encodings n t r pixels) p)) ≡ 4 * n
pointers_length r pixels n t p = rw (words_length, starts_length, encodings_count)

module _ (r : Row) (pixels : List ℕ) where
  -- the encodings from tile t on, and the pointers to them where the first is at p
  abbrev pub tiles_from : ℕ → List ℕ
  tiles_from t = flatten (encodings (r.count - t) t r pixels)

  abbrev pub pointers_from : ℕ → ℕ → List ℕ
  pointers_from t p = words (starts (encodings (r.count - t) t r pixels) p)

  pub pointers_next : (t p : ℕ) → t < r.count → pointers_from t p
      ≡ word_bytes p ++ pointers_from (t + 1) (p + length (encoding_of r t pixels))
  unfolding starts flat_map
  pointers_next t p below = rw (encodings_next r pixels r.count t below)

  pub pointers_none : (t p : ℕ) → r.count ≤ t → pointers_from t p ≡ []
  unfolding starts flat_map
  pointers_none t p over = rw (encodings_none r pixels r.count t over)

-- before tile t: what is left of the encodings stands behind those stored, and what is left of the pointers behind theirs; the
-- encodings begin in the file at `first` behind the start of their output
pub record Storing (r : Row) (pixels : List ℕ) (first : ℕ) (l₀ t₀ : Output) (t : ℕ) (links tiles : Output) : Type 0 where
  pub inside : t ≤ r.count
  pub pointers : PartsLeft l₀.bytes.now l₀.at (words (starts (row_tiles r pixels) (first + t₀.at))) (pointers_from r pixels t (first + tiles.at)) links.at links.bytes.now
  pub encodings : PartsLeft t₀.bytes.now t₀.at (flatten (row_tiles r pixels)) (tiles_from r pixels t) tiles.at tiles.bytes.now
  pub place : tiles.at + length (tiles_from r pixels t) ≡ t₀.at + length (flatten (row_tiles r pixels))

pub storing_start : (r : Row) (pixels : List ℕ) (first : ℕ) (links tiles : Output)
    → links.at + 4 * r.count ≤ length links.bytes.now → tiles.at + length (flatten (row_tiles r pixels)) ≤ length tiles.bytes.now
    → Storing r pixels first links tiles 0 links tiles
storing_start r pixels first links tiles l h =
    let e : r.count - 0 ≡ r.count = omega arith in
    let long = pointers_length r pixels r.count 0 (first + tiles.at) in
    record { inside = omega arith; pointers = rw e (parts_first refl (omega (arith, long, l))); encodings = rw e (parts_first refl h); place = rw e refl }

module _ {r : Row} {pixels : List ℕ} {first : ℕ} {l₀ t₀ : Output} {t : ℕ} {links tiles : Output} (g : Storing r pixels first l₀ t₀ t links tiles) where
  module _ (below : t < r.count) where
    tiles_next : flatten (encodings (r.count - t) t r pixels) ≡ encoding_of r t pixels ++ tiles_from r pixels (t + 1)
    tiles_next = flatten_next r pixels r.count t below

    -- the next pointer is a place in the file, and has room; so has the next encoding
    pub next_low : first + (t₀.at + length (flatten (row_tiles r pixels))) ≤ file_limit → first + tiles.at ≤ file_limit
    next_low low = omega (arith, g.place, low)

    pub next_link : links.at + 4 ≤ length links.bytes.now
    next_link =
        omega (arith, word_length (first + tiles.at), rw (pointers_next r pixels t (first + tiles.at) below, length-append) at g.pointers.fits.room)

    pub next_tile : tiles.at + length (encoding_of r t pixels) ≤ length tiles.bytes.now
    next_tile = omega (arith, rw (tiles_next, length-append) at g.encodings.fits.room)

    pub storing_next : {links' tiles' : Output} → Stores links (word_bytes (first + tiles.at)) links' → Stores tiles (encoding_of r t pixels) tiles'
        → Storing r pixels first l₀ t₀ (t + 1) links' tiles'
    storing_next {links'} {tiles'} p q =
        let on : first + tiles.at + length (encoding_of r t pixels) ≡ first + tiles'.at = omega (arith, q.behind) in
        record {
          inside = omega (arith, below);
          pointers = rw on at (parts_next p (rw (pointers_next r pixels t (first + tiles.at) below) at g.pointers));
          encodings = parts_next q (rw tiles_next at g.encodings);
          place = omega (arith, q.behind, g.place, ap length tiles_next, length-append (encoding_of r t pixels) (tiles_from r pixels (t + 1)));
        }

  module _ (over : r.count ≤ t) where
    pub links_over : Stores l₀ (words (starts (row_tiles r pixels) (first + t₀.at))) links
    links_over = (rw (pointers_none r pixels t (first + tiles.at) over) at g.pointers).whole _ _ (put_nothing _ _)

    pub tiles_over : Stores t₀ (flatten (row_tiles r pixels)) tiles
    tiles_over = (rw (flatten_none r pixels r.count t over) at g.encodings).whole _ _ (put_nothing _ _)
