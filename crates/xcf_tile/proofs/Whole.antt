-- An encoded tile as a whole, good or marked. A good one needs no pixels cleared before it, as its planes cover them all. A plain one
-- is copied whole (`copied`).
-- Assumes nothing.
use mathlib.Core.Path.{◌≡◌, sym, ap, ◌∙◌}
use mathlib.Core.List.{List, ◌++◌, append-nil}
use mathlib.Core.Bool.{true, false}
use Prim.Native.Nat.{ℕ, ◌*◌}
use native.Mathlib.Nat.{mul_comm}
use borrow.Author.Tests.{eq-eqb}
use lib.ListN.{length, take, drop, replicate}
use lib.Seq.{drop-length}
use Rattle.std.specs.Option.{is_some}
use Rattle.xcf_stream.proofs.Faults.{marked, unmarked}
use Rattle.xcf_tile.specs.Tile.{encoded_tile}
use Rattle.xcf_stream.specs.Streams.{streams_at}
use Rattle.xcf_stream.specs.declared.StreamEnd.{StreamEnd}
use Rattle.xcf_stream.specs.Parts.{StreamedAll}
use Rattle.xcf_tile.specs.Parts.{TileGiven}
use Rattle.xcf_tile.proofs.Lengths.{streams_whole}
use Rattle.xcf_tile.proofs.Interleaved.{scatter_all_lem}

-- a copy as long as what it is copied to
pub copied : (ws d : List ℕ) → take (length d) ws ++ drop (length d) d ≡ take (length d) ws
copied ws d = rw (drop-length, append-nil)

module _ {ws : List ℕ} {n depth : ℕ} {start : List ℕ} {r : StreamEnd} {pixels : List ℕ} (l : StreamedAll ws n depth start r pixels) where
  pub encoded_good : length start ≡ n * depth → is_some r.fault ≡ false → TileGiven (encoded_tile ws n depth) r pixels
  unfolding encoded_tile
  encoded_good s z =
      let q = rw l.mark at (unmarked r.fault z) in
      let w = streams_whole depth ws 0 n q in
      let e = rw w.planes at (scatter_all_lem start n (streams_at depth ws 0 n).planes w.each (s ∙ mul_comm n depth ∙ ap (λ (d : ℕ). d * n) (sym w.planes))) in
      record {
        mark = l.mark;
        consumed = l.at;
        operations = l.operations;
        pixels = simp (eq-eqb _ _ q) (l.bytes ∙ e);
      }

  pub encoded_bad : is_some r.fault ≡ true → TileGiven (encoded_tile ws n depth) r (replicate (n * depth) 0)
  unfolding encoded_tile
  encoded_bad z = record {
    mark = l.mark;
    consumed = l.at;
    operations = l.operations;
    pixels = simp (rw l.mark at (marked r.fault z));
  }
