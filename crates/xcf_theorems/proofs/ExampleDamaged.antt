-- The wide file and its damaged copy: they differ in one byte, which no structure has (`no_structure`), which the window of tile 0 has
-- (`in_window`) and that of tile 1 does not (`not_in_window`). What the reader gives and the decoder shows is computed.
-- Assumes nothing.
use Prim.Native.Nat.{ℕ, ◌<◌}
use mathlib.Core.Path.{◌≡◌, refl, ◌∙◌}
use mathlib.Core.List.{List, [], ◌∷◌, ◌++◌}
use native.Mathlib.Omega.{arith}
use lib.ListN.{length, get_or, replicate}
use Rattle.xcf_numbers.specs.Limit.{table_size}
use Rattle.xcf_numbers.specs.Mark
use Rattle.xcf_walk_laws.proofs.Passes.{not_passed}
use Rattle.xcf_store.specs.Word.{big_endian}
use Rattle.xcf_table.specs.Table.{row_at, table_of}
use Rattle.xcf_operation.specs.Operation.{head_of, head_at, operation_of, operation_at}
use Rattle.xcf_stream.specs.Stream.{stream_from, stream_within, stream_at}
use Rattle.xcf_stream.specs.Streams.{streams_at}
use Rattle.xcf_tile.specs.Tile.{pixel, interleave, encoded_tile, tile_in, tile_of}
use Rattle.xcf_store.specs.Pointer.{narrow}
use Rattle.xcf_read.specs.Image.{image, structure_byte}
use Rattle.xcf_read.specs.Answer.{Reading, reading_of, reading, row_of}
use Rattle.xcf_window.specs.Window.{pointer_at, window_end, window_length, window, InWindow, tile}
use Rattle.xcf_grid.specs.Pixels.{tabulate, pixels_of}
use Rattle.xcf_window.specs.Usable.{fits}
use Rattle.xcf_decode.specs.Answer.{marks_of, nonzero, row_decoding}
use Rattle.xcf_decode_laws.specs.Given.{IsTile, Fit}
use Rattle.xcf_isolation.specs.Isolation.{InChosen, Damaged}
use Rattle.xcf_decode_laws.proofs.RowDecoded.{row_decoded}
use Rattle.xcf_isolation.proofs.SameBytes.{read_same}
use Rattle.xcf_read_laws.proofs.Accepted.{read_walked}
use Rattle.xcf_theorems.specs.DamagedExample.{wide_file, damaged_file, FirstTile, DamagedExample}
use Rattle.xcf_theorems.proofs.ExampleWalks.{grey, wide_row, walks}
use Rattle.xcf_theorems.proofs.OneByte.{differ_at}

-- what the reader gives for the wide file
abbrev given : Reading
given = reading_of (grey 65 1 wide_row 145)

wide_read : (lent : List ℕ) → length lent ≡ table_size → reading wide_file lent ≡ given
wide_read lent size = read_walked wide_file lent size (omega arith) walks.wide

differs_at : (i : ℕ) → (get_or wide_file i 0 ≡ get_or damaged_file i 0 → ⊥) → i ≡ 145
differs_at = differ_at wide_file 145 63 128

no_structure : structure_byte wide_file 145 → ⊥
unfolding structure_byte
no_structure = not_passed image wide_file 0 145 walks.wide_free

in_window : InChosen wide_file given FirstTile 145
unfolding table_of big_endian row_at InWindow pointer_at window_end window_length
in_window = record { k = 0; t = 0; is = record { row = omega arith; tile = omega arith }; chosen = (refl, refl); inside = (omega arith, omega arith) }

not_in_window : InWindow narrow wide_file (row_of given 0) 1 145 → ⊥
unfolding table_of big_endian row_at InWindow pointer_at window_end window_length
not_in_window w = omega (arith, w.0)

-- row 0 has two tiles, and no other row is there
other_tile : (k t : ℕ) → IsTile given k t → (FirstTile k t → ⊥) → (k ≡ 0) × (t ≡ 1)
unfolding table_of row_at
other_tile k t is free =
    let row : k ≡ 0 = omega (arith, is.row) in
    let below : t < 2 = rw row at is.tile in
    (row, second t below (λ z. free (row, z)))
  where
    second : (t : ℕ) → t < 2 → (t ≡ 0 → ⊥) → t ≡ 1
    second t below first = omega (arith, below, first)

damage : Damaged wide_file damaged_file given FirstTile
damage = record {
  long = refl;
  inside = λ i differs. rw (differs_at i differs) in_window;
  structure = λ i differs s. no_structure (rw (differs_at i differs) at s);
  others = λ i differs k t is free w. let e = other_tile k t is free in not_in_window (rw (e.0, e.1, differs_at i differs) at w);
}

good_shown : row_decoding narrow wide_file (row_of given 0) 1
    ≡ record { answer = record { number = 0; place = 0; marked = 0 }; pixels = replicate 64 255 ++ (7 ∷ []); marks = 0 ∷ 0 ∷ [] }
unfolding table_of marks_of nonzero row_decoding pointer_at window_end window_length window tile tabulate pixels_of row_at big_endian head_of head_at operation_of operation_at stream_from stream_within stream_at streams_at pixel interleave encoded_tile tile_in tile_of
good_shown = refl

marked_shown_lem : row_decoding narrow damaged_file (row_of given 0) 1
    ≡ record { answer = record { number = 0; place = 0; marked = 1 }; pixels = replicate 64 0 ++ (7 ∷ []); marks = Mark.short ∷ 0 ∷ [] }
unfolding table_of marks_of nonzero row_decoding pointer_at window_end window_length window tile tabulate pixels_of row_at big_endian head_of head_at operation_of operation_at stream_from stream_within stream_at streams_at pixel interleave encoded_tile tile_in tile_of
marked_shown_lem = refl

fitting : (pixels marks : List ℕ) → length pixels ≡ 65 → length marks ≡ 2 → Fit given 0 pixels marks
unfolding table_of fits row_at
fitting pixels marks p m = rw (p, m)

pub example_damaged : (lent pixels marks : List ℕ) → length lent ≡ table_size → length pixels ≡ 65 → length marks ≡ 2 → DamagedExample lent pixels marks
example_damaged lent pixels marks size p m =
    let e = wide_read lent size in
    let d : Damaged wide_file damaged_file (reading wide_file lent) FirstTile = rw e damage in
    let accepted : (reading wide_file lent).answer.number ≡ 0 = rw e in
    let s = read_same d lent in
    let fit = fitting pixels marks p m in
    record {
      accepted = accepted;
      damaged = d;
      good = row_decoded wide_file lent accepted 0 (rw e (omega arith)) pixels marks (rw e fit) ∙ rw e good_shown;
      marked = row_decoded damaged_file lent (rw s accepted) 0 (rw (s, e) (omega arith)) pixels marks (rw (s, e) fit) ∙ rw (s, e) marked_shown_lem;
    }
