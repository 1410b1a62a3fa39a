-- The parts of a line, put one behind the other, are the line, and fewer bytes than its room: by `within_append`. Whatever the parts
-- are, each leaves room for those behind it: by `within_room`.
-- Assumes nothing.
use Prim.Native.Nat.{ℕ, ◌+◌, ◌≤◌}
use mathlib.Core.List.{List, ◌++◌}
use native.Mathlib.Omega.{arith}
use lib.ListN.{length}
use Rattle.xcf_store.specs.Put.{PutWithin}
use Rattle.xcf_store.proofs.Room.{within_room}
use Rattle.xcf_store.proofs.Stores.{within_append, within_more}
use Rattle.xcf_read.specs.declared.ReadAnswer.{ReadAnswer}
use Rattle.xcf_text.specs.Text.{newline, spaced, labelled, line_size}
use Rattle.xcf_text.specs.Words.{canvas, base, version, compression, rows, refused_word, at}
use Rattle.xcf_line.specs.Line.{refused_line, canvas_line}

pub place_room : {old bs t₁ : List ℕ} {to r₁ : ℕ} → to + line_size ≤ length old → PutWithin old to bs 28 r₁ t₁ → r₁ + 3 + 22 ≤ length t₁
place_room room a = omega (arith, within_room 372 a room)

pub refusal_put : (n p : ℕ) {old t₁ new : List ℕ} {to r₁ r : ℕ} → PutWithin old to (labelled refused_word n) 28 r₁ t₁
    → PutWithin t₁ r₁ (labelled at p ++ newline) 25 r new → PutWithin old to (refused_line n p) line_size r new
unfolding refused_line
refusal_put n p a b = within_more line_size (omega arith) (within_append a b)

module _ {old b₁ t₁ : List ℕ} {to r₁ : ℕ} (room : to + line_size ≤ length old) (a : PutWithin old to b₁ 27 r₁ t₁) where
  room_1 : r₁ + 373 ≤ length t₁
  room_1 = within_room 373 a room

  pub height_room : r₁ + 21 ≤ length t₁
  height_room = omega (arith, room_1)

  module _ {b₂ t₂ : List ℕ} {r₂ : ℕ} (b : PutWithin t₁ r₁ b₂ 21 r₂ t₂) where
    room_2 : r₂ + 352 ≤ length t₂
    room_2 = within_room 352 b room_1

    pub base_room : r₂ + 5 + 21 ≤ length t₂
    base_room = omega (arith, room_2)

    module _ {b₃ t₃ : List ℕ} {r₃ : ℕ} (c : PutWithin t₂ r₂ b₃ 26 r₃ t₃) where
      room_3 : r₃ + 326 ≤ length t₃
      room_3 = within_room 326 c room_2

      pub version_room : r₃ + 8 + 21 ≤ length t₃
      version_room = omega (arith, room_3)

      module _ {b₄ t₄ : List ℕ} {r₄ : ℕ} (d : PutWithin t₃ r₃ b₄ 29 r₄ t₄) where
        room_4 : r₄ + 297 ≤ length t₄
        room_4 = within_room 297 d room_3

        pub compression_room : r₄ + 12 + 21 ≤ length t₄
        compression_room = omega (arith, room_4)

        pub rows_room : {b₅ t₅ : List ℕ} {r₅ : ℕ} → PutWithin t₄ r₄ b₅ 33 r₅ t₅ → r₅ + 5 + 22 ≤ length t₅
        rows_room e = omega (arith, within_room 264 e room_4)

pub canvas_put : (x : ReadAnswer) {old t₁ t₂ t₃ t₄ t₅ new : List ℕ} {to r₁ r₂ r₃ r₄ r₅ r : ℕ} → PutWithin old to (labelled canvas x.width) 27 r₁ t₁
    → PutWithin t₁ r₁ (spaced x.height) 21 r₂ t₂ → PutWithin t₂ r₂ (labelled base x.base) 26 r₃ t₃
    → PutWithin t₃ r₃ (labelled version x.version) 29 r₄ t₄ → PutWithin t₄ r₄ (labelled compression x.compression) 33 r₅ t₅
    → PutWithin t₅ r₅ (labelled rows x.rows ++ newline) 27 r new → PutWithin old to (canvas_line x) line_size r new
unfolding canvas_line
canvas_put x a b c d e f =
    within_more line_size (omega arith)
    (within_append a (within_append b (within_append c (within_append d (within_append e f)))))
