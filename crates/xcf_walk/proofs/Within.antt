-- What a number, a word and a string say where they are taken, and that they end in the file.
-- Assumes nothing.
use Prim.Native.Nat.{ℕ, ◌+◌, ◌-◌, ◌≤◌}
use mathlib.Core.Path.{◌≡◌, sym, ◌∙◌, ap}
use mathlib.Core.List.{List}
use native.Mathlib.Omega.{arith}
use lib.ListN.{length}
use lib.Seq.{take-take}
use Rattle.xcf_numbers.specs.Refusal
use Rattle.xcf_walk.specs.declared.cursor.Name.{Name}
use Rattle.xcf_walk.specs.Walk.{got, run, bytes, here, must}
use Rattle.xcf_store.specs.Word.{part, big_endian}
use Rattle.xcf_utf8.specs.Utf8.{well_formed}
use Rattle.xcf_walk.specs.Fields.{number, word, string}
use Rattle.xcf_walk.proofs.Walks.{parted, got_done, got_bytes, got_here, got_must}

-- a number of so many bytes, and a word
pub got_number : (size : ℕ) (f : List ℕ) (at : ℕ) {v q : ℕ} → got v q ≡ run (number size) f at → (q ≡ at + size) × (at + size ≤ length f) × (v ≡ big_endian 0 (part f at size))
unfolding number
got_number size f at e =
    let p = parted (bytes size) _ f at e in
    let b = got_bytes f at size p.first in
    let d = got_done f p.place p.rest in
    (d.0 ∙ b.0, b.1, d.1 ∙ ap (big_endian 0) b.2)

pub got_word : (f : List ℕ) (at : ℕ) {v q : ℕ} → got v q ≡ run word f at → (q ≡ at + 4) × (at + 4 ≤ length f) × (v ≡ big_endian 0 (part f at 4))
unfolding word
got_word = got_number 4

-- a string: its bytes and its end lie in the file, and it says of these bytes whether they are well-formed
pub got_string : (f : List ℕ) (at : ℕ) {name : Name} {q : ℕ} → got name q ≡ run string f at
    → (name.place + name.length ≤ length f) × (q ≤ length f) × (name.utf8 ≡ well_formed (part f name.place name.length))
unfolding string
got_string f at e =
    let p = parted here _ f at e in
    let n = parted word _ f _ p.rest in
    let s = parted here _ f _ n.rest in
    let b = parted (bytes n.value) _ f _ s.rest in
    let m = parted (must _ Refusal.unended_string _) _ f _ b.rest in
    let stood = got_here f n.place s.first in
    let start : s.value ≡ s.place = stood.1 ∙ sym stood.0 in
    let passed = got_bytes f s.place n.value b.first in
    let end = got_done f m.place m.rest in (
      omega (arith, stood, passed.1, ap (λ x. x.place) end.1, ap (λ x. x.length) end.1),
      omega (arith, passed.0, passed.1, (got_must f b.place _ Refusal.unended_string _ m.first).0, end.0),
      rw (end.1, passed.2, start, take-take (n.value - 1) n.value _ (omega arith)),
    )
