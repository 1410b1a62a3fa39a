-- A row's tiles and the pointers to them stored in turns in one output: `StoringTogether` holds before the first tile
-- (`together_start`), the next pointer and the next encoding have room (`together_room`) and keep it (`together_next`), and with no
-- tile left it names the place behind the tiles (`together_behind`) and the output (`together_over`). What is left to store from here
-- on gives all that was to be stored.
-- Assumes nothing.
use Prim.Native.Nat.{ℕ, ◌+◌, ◌-◌, ◌*◌, ◌≤◌, ◌<◌}
use mathlib.Core.Path.{◌≡◌, refl, ap, ◌∙◌}
use mathlib.Core.List.{List, flatten}
use native.Mathlib.Omega.{arith}
use lib.ListN.{length, length-append}
use lib.Seq.{sets}
use Rattle.xcf_numbers.specs.Limit.{file_limit}
use Rattle.xcf_table.specs.declared.Row.{Row}
use Rattle.xcf_store.specs.Put.{Put}
use Rattle.xcf_store.proofs.Stores.{put_length}
use Rattle.xcf_store.specs.Word.{word_bytes, words}
use Rattle.xcf_drawable.specs.Drawable.{encoding_of, row_tiles, starts}
use Rattle.xcf_drawable.specs.Parts.{Space}
use Rattle.xcf_store.proofs.Words.{word_length}
use Rattle.xcf_store.proofs.SetsApart.{stores_next}
use Rattle.xcf_drawable.proofs.EncodingBound.{flatten_next, flatten_none}
use Rattle.xcf_drawable.proofs.TilesStored.{pointers_length, tiles_from, pointers_from, pointers_next, pointers_none}

pub record StoringTogether (r : Row) (pixels old : List ℕ) (link first : ℕ) (output : List ℕ) (t at to : ℕ) : Type 0 where
  pub inside : t ≤ r.count
  pub same : length output ≡ length old
  pub pointers : at + 4 * (r.count - t) ≤ first
  pub behind : first ≤ to
  pub place : to + length (tiles_from r pixels t) ≡ first + length (flatten (row_tiles r pixels))
  pub put : sets (sets output at (pointers_from r pixels t to)) to (tiles_from r pixels t)
      ≡ sets (sets old link (words (starts (row_tiles r pixels) first))) first (flatten (row_tiles r pixels))

pub together_start : {r : Row} {pixels old : List ℕ} {link first : ℕ} → link + 4 * r.count ≤ first
    → StoringTogether r pixels old link first old 0 link first
together_start {r} h =
    let e : r.count - 0 ≡ r.count = omega arith in
    record { inside = omega arith; same = refl; pointers = omega (arith, h); behind = omega arith; place = rw e; put = rw e }

module _ {r : Row} {pixels old : List ℕ} {link first : ℕ} {output : List ℕ} {t at to : ℕ} (g : StoringTogether r pixels old link first output t at to) where
  module _ (below : t < r.count) where
    tiles_length : length (tiles_from r pixels t) ≡ length (encoding_of r t pixels) + length (tiles_from r pixels (t + 1))
    tiles_length = ap length (flatten_next r pixels r.count t below) ∙ length-append (encoding_of r t pixels) _

    pub together_room : Space old first (length (flatten (row_tiles r pixels)))
        → (at + 4 ≤ to) × ((to + length (encoding_of r t pixels) ≤ length output) × (to + length (encoding_of r t pixels) ≤ file_limit))
    together_room s = (
      omega (arith, g.pointers, g.behind, below),
      (omega (arith, tiles_length, g.place, g.same, s.room), omega (arith, tiles_length, g.place, s.low)),
    )

    pub together_next : {at' : ℕ} {mid : List ℕ} {to' : ℕ} {new : List ℕ}
        → Put output at (word_bytes to) at' mid → Put mid to (encoding_of r t pixels) to' new
        → StoringTogether r pixels old link first new (t + 1) at' to'
    together_next p q =
        let next = p.behind ∙ ap (λ n. at + n) (word_length to) in
        let long = pointers_length r pixels (r.count - (t + 1)) (t + 1) (to + length (encoding_of r t pixels)) in
        record {
          inside = omega (arith, below);
          same = put_length q ∙ put_length p ∙ g.same;
          pointers = omega (arith, next, g.pointers, below);
          behind = omega (arith, q.behind, g.behind);
          place = omega (arith, q.behind, tiles_length, g.place);
          put =
              rw (q.output, p.output, p.behind, q.behind)
              (stores_next output at (word_bytes to) _ to (encoding_of r t pixels) _
              (omega (arith, word_length to, long, g.pointers, g.behind, below))
              ∙ (rw (pointers_next r pixels t to below, flatten_next r pixels r.count t below) at g.put));
        }

  pub together_behind : r.count ≤ t → to ≡ first + length (flatten (row_tiles r pixels))
  together_behind over = omega (arith, g.place, ap length (flatten_none r pixels r.count t over))

  pub together_over : r.count ≤ t
      → output
      ≡ sets (sets old link (words (starts (row_tiles r pixels) first))) first (flatten (row_tiles r pixels))
  together_over over = rw (pointers_none r pixels t to over, flatten_none r pixels r.count t over) at g.put
