-- What a call gives and leaves in the output, for each refusal and for none: the definitions, by the tests in their order.
-- Assumes nothing.
use mathlib.Core.Path.{◌≡◌, ◌∙◌}
use mathlib.Core.List.{List}
use mathlib.Core.Bool.{true, false}
use Prim.Native.Nat.{ℕ, ◌*◌, ◌≤◌, ◌<◌}
use native.Mathlib.Nat.{zero-add}
use native.Mathlib.Omega.{arith}
use borrow.Author.Tests.{lt-ltb, le-ltb, eq-eqb, ne_eqb}
use lib.ListN.{length}
use lib.Seq.{sets-eq}
use Rattle.std.specs.Prelude.{Ok, Err}
use Rattle.xcf_numbers.specs.Limit.{stream_limit}
use Rattle.xcf_numbers.specs.declared.reason.Reason.{Reason}
use Rattle.xcf_numbers.specs.declared.reason.Reason.TheVariants as reason
use Rattle.xcf_numbers.specs.Reason.{number_of}
use Rattle.xcf_numbers.specs.Refusal
use Rattle.xcf_segment.specs.Segment.{encode_stream}
use Rattle.xcf_encode.specs.Tile.{encode_tile}
use Rattle.xcf_encode.specs.Answer.{room_refusal, stream_refusal, tile_refusal, encode_answer, encode_output, StreamEncoded}
use Rattle.xcf_store.specs.Put.{Put}
use Rattle.xcf_encode.specs.Parts.{Encodes, EncodedInto, StreamEncodes, TileEncodes}
use Rattle.xcf_tile.specs.Answer.{usable_tile}

-- a refusal: nothing is stored
refused : (r : Reason) {refusal : ℕ} (encoding old : List ℕ) → refusal ≡ number_of r → (number_of r ≡ 0 → ⊥) → Encodes refusal encoding old (Err r) old
unfolding encode_answer encode_output
refused r encoding old e h = record { answer = rw (e, ne_eqb _ 0 h); output = rw (e, ne_eqb _ 0 h) }

-- where nothing but room is asked for
pub no_room : (e old : List ℕ) → length old < length e → EncodedInto e old (Err reason.NoRoom) old
unfolding room_refusal
no_room e old h = refused reason.NoRoom e old (rw (lt-ltb _ _ h)) (λ z. omega arith)

-- the same of the answer: no room
pub no_room_lem : (e old : List ℕ) → length old < length e
    → (record { number = Refusal.no_room; place = 0; length = 0 } ≡ encode_answer (room_refusal (length e) (length old)) e)
    × (old ≡ encode_output (room_refusal (length e) (length old)) e old)
no_room_lem e old h = let x = no_room e old h in (x.answer, x.output)

pub stored : {e old : List ℕ} {r : ℕ} {new : List ℕ} → length e ≤ length old → Put old 0 e r new → EncodedInto e old (Ok r) new
unfolding room_refusal encode_answer encode_output
stored {e} {old} h p =
    let size = rw zero-add at p.behind in
    record { answer = rw (le-ltb _ _ h, size); output = rw (le-ltb _ _ h) (p.output ∙ rw (sets-eq e old 0 (omega arith), zero-add)) }

-- a stream
pub stream_long : (stream old : List ℕ) → stream_limit < length stream → StreamEncodes stream old (Err reason.WrongBuffer) old
unfolding stream_refusal
stream_long stream old h = refused reason.WrongBuffer (encode_stream stream) old (rw (lt-ltb _ _ h)) (λ z. omega arith)

-- the same of the answer: the stream is too long
pub too_long_lem : (stream old : List ℕ) → stream_limit < length stream → StreamEncoded stream old (record { number = Refusal.wrong_buffer; place = 0; length = 0 }) old
too_long_lem stream old h = let x = stream_long stream old h in record { answer = x.answer; output = x.output }

pub stream_room : (stream old : List ℕ) → length stream ≤ stream_limit → room_refusal (length (encode_stream stream)) (length old) ≡ stream_refusal stream (length old)
unfolding stream_refusal
stream_room stream old h = rw (le-ltb _ _ h)

-- a tile
module _ (pixels : List ℕ) (w h depth : ℕ) (old : List ℕ) where
  pub unusable : usable_tile w h depth ≡ false → TileEncodes pixels w h depth old (Err reason.Unusable) old
  unfolding tile_refusal
  unusable u = refused reason.Unusable (encode_tile (w * h) depth pixels) old (rw u) (λ z. omega arith)

  pub other_length : usable_tile w h depth ≡ true → (length pixels ≡ w * h * depth → ⊥) → TileEncodes pixels w h depth old (Err reason.WrongBuffer) old
  unfolding tile_refusal
  other_length u l = refused reason.WrongBuffer (encode_tile (w * h) depth pixels) old (rw (u, ne_eqb _ _ l)) (λ z. omega arith)

  pub tile_room : usable_tile w h depth ≡ true → length pixels ≡ w * h * depth → room_refusal (length (encode_tile (w * h) depth pixels)) (length old) ≡ tile_refusal w h depth pixels (length old)
  unfolding tile_refusal
  tile_room u l = rw (u, eq-eqb _ _ l)
