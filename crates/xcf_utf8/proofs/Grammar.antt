-- Bytes are well-formed exactly where they are text (`well_formed_text`): along the bytes, the rest of a character and then text
-- (`text_from`); the other way, a character behind which all is well-formed (`character_well_formed`), of one form only, since the
-- forms rise with their first bytes (`Rising`).
-- Assumes nothing.
use Prim.Native.Nat.{ℕ, suc, ◌≤◌}
use mathlib.Core.Path.{◌≡◌, refl, ap, ◌∙◌}
use mathlib.Core.List.{List, [], ◌∷◌, ◌++◌, flatten}
use mathlib.Core.Bool.{Bool, true, false, false≢true, cond, and-eq-true_iff}
use mathlib.Core.Logic.{inl, inr}
use native.Mathlib.Omega.{arith}
use Rattle.xcf_range.proofs.Bounds.{within_bounds, bounds_within, past}
use Rattle.xcf_utf8.specs.Utf8.{Bytes, in?, forms, begun, well_formed_from, well_formed}
use Rattle.xcf_utf8.specs.Grammar.{OfForm, OfOne, Characters, Text}

-- a byte that begins a form, and the rest of that form
record Begins (fs : List (List Bytes)) (b : ℕ) (k : List Bytes → Bool) : Type 0 where
  rest : List Bytes
  goes : k rest ≡ true
  one : (c : List ℕ) → OfForm rest c → OfOne fs (b ∷ c)

begins_later : {fs : List (List Bytes)} {b : ℕ} {k : List Bytes → Bool} (form : List Bytes) → Begins fs b k → Begins (form ∷ fs) b k
begins_later form x = record { rest = x.rest; goes = x.goes; one = λ c h. inr (x.one c h) }

begins : (fs : List (List Bytes)) (b : ℕ) (k : List Bytes → Bool) → begun fs b k ≡ true → Begins fs b k
unfolding begun
begins [] b k e = absurd (false≢true e)
begins ([] ∷ fs) b k e = begins_later [] (begins fs b k e)
begins ((s ∷ form) ∷ fs) b k e = go (in? b s) refl e (λ later. begins_later (s ∷ form) (begins fs b k later))
  where
    go : (t : Bool) → in? b s ≡ t → cond t (k form) (begun fs b k) ≡ true → (begun fs b k ≡ true → Begins ((s ∷ form) ∷ fs) b k)
        → Begins ((s ∷ form) ∷ fs) b k
    go true is e later = record { rest = form; goes = e; one = λ c h. inl (within_bounds s.low s.high b is, h) }
    go false is e later = later e

-- the rest of a character, and text behind it
record TextFrom (rest : List Bytes) (bs : List ℕ) : Type 0 where
  first : List ℕ
  behind : List ℕ
  whole : first ++ behind ≡ bs
  form : OfForm rest first
  text : Text behind

text_from : (rest : List Bytes) (bs : List ℕ) → well_formed_from rest bs ≡ true → TextFrom rest bs
unfolding well_formed_from flatten
text_from [] [] e = record { first = []; behind = []; whole = refl; form = tt; text = ([], tt, refl) }
text_from (s ∷ rest) [] e = absurd (false≢true e)
text_from [] (b ∷ bs) e =
    let x = begins forms b (λ rest. well_formed_from rest bs) e in
    let y = text_from x.rest bs x.goes in
    record {
      first = [];
      behind = b ∷ bs;
      whole = refl;
      form = tt;
      text = ((b ∷ y.first) ∷ y.text.0, (x.one y.first y.form, y.text.1), ap (λ x. b ∷ x) (ap (λ x. y.first ++ x) y.text.2 ∙ y.whole));
    }
text_from (s ∷ rest) (b ∷ bs) e =
    let t = (and-eq-true_iff (in? b s) (well_formed_from rest bs)).0 e in
    let y = text_from rest bs t.1 in
    record {
      first = b ∷ y.first;
      behind = y.behind;
      whole = ap (λ x. b ∷ x) y.whole;
      form = (within_bounds s.low s.high b t.0, y.form);
      text = y.text;
    }

-- forms whose first bytes rise, the first of them from m on
abbrev Rising : ℕ → List (List Bytes) → Type 0
Rising m [] = Unit {0}
Rising m ([] ∷ fs) = ⊥
Rising m ((s ∷ form) ∷ fs) = (m ≤ s.low) × (s.low ≤ s.high) × Rising (suc s.high) fs

rises_above : (m : ℕ) (fs : List (List Bytes)) (b : ℕ) (c : List ℕ) → Rising m fs → OfOne fs (b ∷ c) → m ≤ b
rises_above m [] b c r o = absurd o
rises_above m ([] ∷ fs) b c r o = absurd r
rises_above m ((s ∷ form) ∷ fs) b c r (inl h) = omega (arith, r.0, h.0.0)
rises_above m ((s ∷ form) ∷ fs) b c r (inr o) = omega (arith, r.0, r.1, rises_above (suc s.high) fs b c r.2 o)

module _ (bs : List ℕ) (well : well_formed bs ≡ true) where
  form_well_formed : (rest : List Bytes) (c : List ℕ) → OfForm rest c → well_formed_from rest (c ++ bs) ≡ true
  unfolding well_formed_from
  form_well_formed [] [] h = well
  form_well_formed [] (b ∷ c) h = absurd h
  form_well_formed (s ∷ rest) [] h = absurd h
  form_well_formed (s ∷ rest) (b ∷ c) h = rw (bounds_within s.low s.high b h.0) (form_well_formed rest c h.1)

  begins_one : (m : ℕ) (fs : List (List Bytes)) (b : ℕ) (c : List ℕ) → Rising m fs → OfOne fs (b ∷ c)
      → begun fs b (λ rest. well_formed_from rest (c ++ bs)) ≡ true
  unfolding begun
  begins_one m [] b c r o = absurd o
  begins_one m ([] ∷ fs) b c r o = absurd r
  begins_one m ((s ∷ form) ∷ fs) b c r (inl h) = rw (bounds_within s.low s.high b h.0) (form_well_formed form c h.1)
  begins_one m ((s ∷ form) ∷ fs) b c r (inr o) =
      rw (past s.low s.high b (rises_above (suc s.high) fs b c r.2 o)) (begins_one (suc s.high) fs b c r.2 o)

  character_well_formed : (c : List ℕ) → OfOne forms c → well_formed (c ++ bs) ≡ true
  unfolding well_formed_from
  character_well_formed [] o = well
  character_well_formed (b ∷ c) o = begins_one 0 forms b c (omega arith) o

characters_well_formed : (cs : List (List ℕ)) → Characters cs → well_formed (flatten cs) ≡ true
unfolding well_formed_from flatten
characters_well_formed [] h = refl
characters_well_formed (c ∷ cs) h = character_well_formed (flatten cs) (characters_well_formed cs h.1) c h.0

-- behind no rest of a character all is text
all_text : {bs : List ℕ} → TextFrom [] bs → Text bs
all_text {bs} x = go x.first x.form x.whole
  where
    go : (first : List ℕ) → OfForm [] first → first ++ x.behind ≡ bs → Text bs
    go [] h e = rw e at x.text
    go (b ∷ first) h e = absurd h

pub well_formed_text : (bs : List ℕ) → (well_formed bs ≡ true → Text bs) × (Text bs → well_formed bs ≡ true)
well_formed_text bs = (λ e. all_text (text_from [] bs e), λ t. rw t.2 at (characters_well_formed t.0 t.1))
