-- A level stored: its sides, and behind them, in an output cut where the level ends, the pointers of its tiles and the closing word on
-- this side and the tiles on that one (`cut_put`), are the level's bytes and the tiles' behind them (`level_put`). There is room for
-- each (`closing_room`, `cut_space`).
-- Assumes nothing.
use Prim.Native.Nat.{ℕ, ◌+◌, ◌*◌, ◌≤◌}
use mathlib.Core.Path.{◌≡◌}
use mathlib.Core.List.{List, [], ◌∷◌, ◌++◌, append_assoc, append-nil, flat_map, flatten}
use native.Mathlib.Nat.{add-zero}
use native.Mathlib.Omega.{arith}
use lib.ListN.{length, take, drop, length-take}
use Rattle.xcf_laws.proofs.FlatMaps.{flat_map-append}
use Rattle.xcf_table.specs.declared.Row.{Row}
use Rattle.xcf_store.specs.Put.{Put}
use Rattle.xcf_store.proofs.Stores.{put_append, put_halves, put_length}
use Rattle.xcf_store.specs.Word.{word_bytes, words}
use Rattle.xcf_structure.specs.Structure.{level_bytes}
use Rattle.xcf_drawable.specs.Drawable.{row_tiles, starts, level_size}
use Rattle.xcf_drawable.specs.Parts.{Space}
use Rattle.xcf_store.proofs.Words.{word_length, words_length}
use Rattle.xcf_drawable.proofs.TilesStored.{pointers_length}

word_only : (n : ℕ) → words (n ∷ []) ≡ word_bytes n
unfolding flat_map
word_only n = append-nil (word_bytes n)

level_words : (r : Row) (pointers tiles : List ℕ) → level_bytes r pointers ++ tiles
    ≡ words (r.width ∷ r.height ∷ []) ++ (words pointers ++ (word_bytes 0 ++ tiles))
unfolding level_bytes
level_words r pointers tiles =
    rw (
      flat_map-append word_bytes (r.width ∷ r.height ∷ []) (pointers ++ (0 ∷ [])),
      flat_map-append word_bytes pointers (0 ∷ []),
      word_only 0,
      append_assoc,
      append_assoc,
    )

module _ (r : Row) (pixels : List ℕ) where
  -- the tiles' pointers and the closing word, where the first tile is at p, and the tiles
  abbrev cut_bytes : ℕ → List ℕ
  cut_bytes p = words (starts (row_tiles r pixels) p) ++ (word_bytes 0 ++ flatten (row_tiles r pixels))

  -- an output cut at the first tile
  module _ {output : List ℕ} {link : ℕ} (s : Space output link (4 * (r.count + 1) + length (flatten (row_tiles r pixels)))) where
    abbrev first : ℕ
    first = link + 4 * (r.count + 1)

    module _ {at : ℕ} {links : List ℕ} (a : Put (take first output) link (words (starts (row_tiles r pixels) (first + 0))) at links) where
      -- the closing word has room, and fills the output up to there
      pub closing_room : at + 4 ≤ length links
      closing_room =
          omega (arith, a.behind, put_length a, length-take first output, pointers_length r pixels r.count 0 (first + 0), s.room)

      pub cut_put : {closing end : ℕ} {level tiles new : List ℕ} → Put links at (word_bytes 0) closing level
          → Put (drop first output) 0 (flatten (row_tiles r pixels)) end tiles → new ≡ level ++ tiles
          → Put output link (cut_bytes first) (first + end) new
      cut_put {closing = closing} b c e =
          let full : closing ≡ first = omega (arith, b.behind, a.behind, word_length 0, pointers_length r pixels r.count 0 (first + 0)) in
          rw e (rw (add-zero, append_assoc) at (put_halves (put_append a b) full (omega (arith, s.room)) c (omega (arith, s.room))))

  module _ {old : List ℕ} {to link : ℕ} {sides : List ℕ} (p : Put old to (words (r.width ∷ r.height ∷ [])) link sides) where
    first_place : link + 4 * (r.count + 1) ≡ to + level_size r.count
    first_place = omega (arith, p.behind, words_length (r.width ∷ r.height ∷ []))

    pub cut_space : Space old to (level_size r.count + length (flatten (row_tiles r pixels)))
        → Space sides link (4 * (r.count + 1) + length (flatten (row_tiles r pixels)))
    cut_space s = record { room = omega (arith, first_place, put_length p, s.room); low = omega (arith, first_place, s.low) }

    pub level_put : {end : ℕ} {new : List ℕ} → Put sides link (cut_bytes (link + 4 * (r.count + 1))) end new
        → Put old to (level_bytes r (starts (row_tiles r pixels) (to + level_size r.count)) ++ flatten (row_tiles r pixels)) end new
    level_put q = rw (← first_place, level_words) (put_append p q)
