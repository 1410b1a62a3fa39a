-- Well-formed bytes are the library's UTF-8 (`utf8_well_formed`, `not_utf8`): the forms of a character are the spellings of the scalar
-- values (`scalar_form`, `form_scalar`), by the bounds of the forms and arithmetic on their bytes.
-- Assumes nothing.
use Prim.Native.Nat.{ℕ, ◌+◌, ◌-◌, ◌*◌, ◌/◌, ◌%◌, ◌≤◌, ◌<◌}
use mathlib.Core.Path.{◌≡◌, refl, ap, ◌∙◌}
use mathlib.Core.List.{List, [], ◌∷◌, ◌++◌, flatten}
use mathlib.Core.Bool.{Bool, true, false, and-eq-true_iff}
use mathlib.Core.Logic.{◌⊎◌, inl, inr, ⊎_elim}
use native.Mathlib.Omega.{arith}
use borrow.Author.Tests.{lt-ltb, le-ltb, le-leb}
use lib.Utf8.{scalar, scalars, encode, encodes, scalar_cases, low_scalar}
use Rattle.std.specs.Str.{IsUtf8}
use Rattle.std.proofs.lemmas.Str.{IsUtf8-nil, IsUtf8-append, IsUtf8-encode, encode_ascii}
use Rattle.xcf_laws.proofs.Cases.{by_bound}
use Rattle.xcf_utf8.specs.Utf8.{Bytes, tail, forms, well_formed}
use Rattle.xcf_utf8.specs.Grammar.{OfForm, OfOne, Characters, Text}
use Rattle.xcf_utf8.proofs.Grammar.{well_formed_text}

-- the bytes of a scalar value, by its size
two : (c : ℕ) → 128 ≤ c → c < 2048 → encode c ≡ (192 + c / 64) ∷ (128 + c % 64) ∷ []
unfolding encode
two c lo hi = rw (le-ltb c 128 lo, lt-ltb c 2048 hi)

three : (c : ℕ) → 2048 ≤ c → c < 65536 → encode c ≡ (224 + c / 4096) ∷ (128 + c / 64 % 64) ∷ (128 + c % 64) ∷ []
unfolding encode
three c lo hi = rw (le-ltb c 128 (omega arith), le-ltb c 2048 lo, lt-ltb c 65536 hi)

four : (c : ℕ) → 65536 ≤ c → encode c ≡ (240 + c / 262144) ∷ (128 + c / 4096 % 64) ∷ (128 + c / 64 % 64) ∷ (128 + c % 64) ∷ []
unfolding encode
four c lo = rw (le-ltb c 128 (omega arith), le-ltb c 2048 (omega arith), le-ltb c 65536 lo)

-- the spelling of a scalar value has one of the forms
three_form : (c : ℕ) → 2048 ≤ c → c < 65536 → (c < 55296) ⊎ ((57344 ≤ c) × (c < 1114112)) → OfOne forms (encode c)
three_form c lo hi (inl low) =
    rw (three c lo hi)
    (by_bound c {b = 4096}
    (λ h. inr (inr (inl (omega arith))))
    (λ h. by_bound c {b = 53248}
    (λ k. inr (inr (inr (inl (omega arith)))))
    (λ k. inr (inr (inr (inr (inl (omega arith))))))))
three_form c lo hi (inr high) =
    rw (three c lo hi)
    (inr (inr (inr (inr (inr (inl (omega (arith, high.0))))))))

four_form : (c : ℕ) → 65536 ≤ c → c < 1114112 → OfOne forms (encode c)
four_form c lo hi =
    rw (four c lo)
    (by_bound c {b = 262144}
    (λ h. inr (inr (inr (inr (inr (inr (inl (omega arith))))))))
    (λ h. by_bound c {b = 1048576}
    (λ k. inr (inr (inr (inr (inr (inr (inr (inl (omega arith)))))))))
    (λ k. inr (inr (inr (inr (inr (inr (inr (inr (inl (omega arith))))))))))))

below : (c : ℕ) → (c < 55296) ⊎ ((57344 ≤ c) × (c < 1114112)) → c < 1114112
below c (inl low) = omega arith
below c (inr high) = high.1

scalar_form : (c : ℕ) → scalar c ≡ true → OfOne forms (encode c)
scalar_form c e =
    let cases = scalar_cases c e in
    by_bound c {b = 128}
    (λ h. rw (encode_ascii c h) (inl (omega arith)))
    (λ h. by_bound c {b = 2048}
    (λ k. rw (two c h k) (inr (inl (omega arith))))
    (λ k. by_bound c {b = 65536} (λ m. three_form c k m cases) (λ m. four_form c m (below c cases))))

-- bytes that spell a scalar value
record Spelled (bs : List ℕ) : Type 0 where
  char : ℕ
  ok : scalar char ≡ true
  same : encode char ≡ bs

high_scalar : (c : ℕ) → 57344 ≤ c → c < 1114112 → scalar c ≡ true
high_scalar c lo hi = rw (le-ltb c 55296 (omega arith), le-leb 57344 c lo, lt-ltb c 1114112 hi)

either_scalar : (c : ℕ) → c < 1114112 → (c < 55296) ⊎ (57344 ≤ c) → scalar c ≡ true
either_scalar c hi (inl low) = low_scalar c low
either_scalar c hi (inr high) = high_scalar c high hi

spelled_two : (b d : ℕ) → 0xC2 ≤ b → b ≤ 0xDF → 0x80 ≤ d → d ≤ 0xBF → Spelled (b ∷ d ∷ [])
spelled_two b d b0 b1 d0 d1 =
    let c : ℕ = (b - 192) * 64 + (d - 128) in
    let first : 192 + c / 64 ≡ b = omega arith in
    let second : 128 + c % 64 ≡ d = omega arith in
    record { char = c; ok = low_scalar c (omega arith); same = two c (omega arith) (omega arith) ∙ rw (first, second) }

spelled_three : (b d e : ℕ) → 0xE0 ≤ b → b ≤ 0xEF → 0x80 ≤ d → d ≤ 0xBF → 0x80 ≤ e → e ≤ 0xBF
    → (0xE0 < b) ⊎ (0xA0 ≤ d) → (b < 0xED) ⊎ (((b ≡ 0xED) × (d ≤ 0x9F)) ⊎ (0xED < b)) → Spelled (b ∷ d ∷ e ∷ [])
spelled_three b d e b0 b1 d0 d1 e0 e1 long apart =
    let c : ℕ = (b - 224) * 4096 + (d - 128) * 64 + (e - 128) in
    let first : 224 + c / 4096 ≡ b = omega arith in
    let second : 128 + c / 64 % 64 ≡ d = omega arith in
    let third : 128 + c % 64 ≡ e = omega arith in
    let big : 2048 ≤ c = ⊎_elim (λ h. omega (arith, h)) (λ h. omega (arith, h)) long in
    let side : (c < 55296) ⊎ (57344 ≤ c) = ⊎_elim (λ h. inl (omega (arith, h))) (λ h. ⊎_elim (λ k. inl (omega (arith, k.0, k.1))) (λ k. inr (omega (arith, k))) h) apart in
    record { char = c; ok = either_scalar c (omega arith) side; same = three c big (omega arith) ∙ rw (first, second, third) }

spelled_four : (b d e f : ℕ) → 0xF0 ≤ b → b ≤ 0xF4 → 0x80 ≤ d → d ≤ 0xBF → 0x80 ≤ e → e ≤ 0xBF → 0x80 ≤ f → f ≤ 0xBF
    → (0xF0 < b) ⊎ (0x90 ≤ d) → (b < 0xF4) ⊎ (d ≤ 0x8F) → Spelled (b ∷ d ∷ e ∷ f ∷ [])
spelled_four b d e f b0 b1 d0 d1 e0 e1 f0 f1 long short =
    let c : ℕ = (b - 240) * 262144 + (d - 128) * 4096 + (e - 128) * 64 + (f - 128) in
    let first : 240 + c / 262144 ≡ b = omega arith in
    let second : 128 + c / 4096 % 64 ≡ d = omega arith in
    let third : 128 + c / 64 % 64 ≡ e = omega arith in
    let fourth : 128 + c % 64 ≡ f = omega arith in
    let big : 65536 ≤ c = ⊎_elim (λ h. omega (arith, h)) (λ h. omega (arith, h)) long in
    let small : c < 1114112 = ⊎_elim (λ h. omega (arith, h)) (λ h. omega (arith, h)) short in
    record {
      char = c;
      ok = high_scalar c (omega (arith, big)) small;
      same = four c big ∙ rw (first, second, third, fourth);
    }

-- bytes of one of the forms spell a scalar value
of_one : (s : Bytes) → s.high < 128 → (bs : List ℕ) → OfForm (s ∷ []) bs → Spelled bs
of_one s h [] o = absurd o
of_one s h (b ∷ []) o = record { char = b; ok = low_scalar b (omega (arith, o.0.1)); same = encode_ascii b (omega (arith, o.0.1)) }
of_one s h (b ∷ x ∷ bs) o = absurd o.1

of_two : (s : Bytes) → 0xC2 ≤ s.low → s.high ≤ 0xDF → (bs : List ℕ) → OfForm (s ∷ tail ∷ []) bs → Spelled bs
of_two s l h [] o = absurd o
of_two s l h (b ∷ []) o = absurd o.1
of_two s l h (b ∷ d ∷ []) o = spelled_two b d (omega (arith, o.0.0)) (omega (arith, o.0.1)) o.1.0.0 o.1.0.1
of_two s l h (b ∷ d ∷ x ∷ bs) o = absurd o.1.1

of_three : (s t : Bytes) → 0xE0 ≤ s.low → s.high ≤ 0xEF → 0x80 ≤ t.low → t.high ≤ 0xBF → (0xE0 < s.low) ⊎ (0xA0 ≤ t.low)
    → (s.high < 0xED) ⊎ (((s.high ≤ 0xED) × (t.high ≤ 0x9F)) ⊎ (0xED < s.low)) → (bs : List ℕ) → OfForm (s ∷ t ∷ tail ∷ []) bs → Spelled bs
of_three s t sl sh tl th long apart [] o = absurd o
of_three s t sl sh tl th long apart (b ∷ []) o = absurd o.1
of_three s t sl sh tl th long apart (b ∷ d ∷ []) o = absurd o.1.1
of_three s t sl sh tl th long apart (b ∷ d ∷ e ∷ []) o =
    spelled_three
    b
    d
    e
    (omega (arith, o.0.0))
    (omega (arith, o.0.1))
    (omega (arith, o.1.0.0))
    (omega (arith, o.1.0.1))
    o.1.1.0.0
    o.1.1.0.1
    (⊎_elim (λ h. inl (omega (arith, h, o.0.0))) (λ h. inr (omega (arith, h, o.1.0.0))) long)
    (⊎_elim (λ h. inl (omega (arith, h, o.0.1))) (λ h. ⊎_elim (λ k. surrogates b d (omega (arith, k.0, o.0.1)) (omega (arith, k.1, o.1.0.1))) (λ k. inr (inr (omega (arith, k, o.0.0)))) h) apart)
  where
    surrogates : (b d : ℕ) → b ≤ 0xED → d ≤ 0x9F → (b < 0xED) ⊎ (((b ≡ 0xED) × (d ≤ 0x9F)) ⊎ (0xED < b))
    surrogates b d h k = by_bound b {b = 0xED} (λ x. inl x) (λ x. inr (inl (omega arith, k)))
of_three s t sl sh tl th long apart (b ∷ d ∷ e ∷ x ∷ bs) o = absurd o.1.1.1

of_four : (s t : Bytes) → 0xF0 ≤ s.low → s.high ≤ 0xF4 → 0x80 ≤ t.low → t.high ≤ 0xBF → (0xF0 < s.low) ⊎ (0x90 ≤ t.low)
    → (s.high < 0xF4) ⊎ (t.high ≤ 0x8F) → (bs : List ℕ) → OfForm (s ∷ t ∷ tail ∷ tail ∷ []) bs → Spelled bs
of_four s t sl sh tl th long short [] o = absurd o
of_four s t sl sh tl th long short (b ∷ []) o = absurd o.1
of_four s t sl sh tl th long short (b ∷ d ∷ []) o = absurd o.1.1
of_four s t sl sh tl th long short (b ∷ d ∷ e ∷ []) o = absurd o.1.1.1
of_four s t sl sh tl th long short (b ∷ d ∷ e ∷ f ∷ []) o =
    spelled_four
    b
    d
    e
    f
    (omega (arith, o.0.0))
    (omega (arith, o.0.1))
    (omega (arith, o.1.0.0))
    (omega (arith, o.1.0.1))
    o.1.1.0.0
    o.1.1.0.1
    o.1.1.1.0.0
    o.1.1.1.0.1
    (⊎_elim (λ h. inl (omega (arith, h, o.0.0))) (λ h. inr (omega (arith, h, o.1.0.0))) long)
    (⊎_elim (λ h. inl (omega (arith, h, o.0.1))) (λ h. inr (omega (arith, h, o.1.0.1))) short)
of_four s t sl sh tl th long short (b ∷ d ∷ e ∷ f ∷ x ∷ bs) o = absurd o.1.1.1.1

form_scalar : (bs : List ℕ) → OfOne forms bs → Spelled bs
form_scalar bs (inl o) = of_one _ (omega arith) bs o
form_scalar bs (inr (inl o)) = of_two _ (omega arith) (omega arith) bs o
form_scalar bs (inr (inr (inl o))) = of_three _ _ (omega arith) (omega arith) (omega arith) (omega arith) (inr (omega arith)) (inl (omega arith)) bs o
form_scalar bs (inr (inr (inr (inl o)))) = of_three _ _ (omega arith) (omega arith) (omega arith) (omega arith) (inl (omega arith)) (inl (omega arith)) bs o
form_scalar bs (inr (inr (inr (inr (inl o))))) = of_three _ _ (omega arith) (omega arith) (omega arith) (omega arith) (inl (omega arith)) (inr (inl (omega arith, omega arith))) bs o
form_scalar bs (inr (inr (inr (inr (inr (inl o)))))) = of_three _ _ (omega arith) (omega arith) (omega arith) (omega arith) (inl (omega arith)) (inr (inr (omega arith))) bs o
form_scalar bs (inr (inr (inr (inr (inr (inr (inl o))))))) = of_four _ _ (omega arith) (omega arith) (omega arith) (omega arith) (inr (omega arith)) (inl (omega arith)) bs o
form_scalar bs (inr (inr (inr (inr (inr (inr (inr (inl o)))))))) = of_four _ _ (omega arith) (omega arith) (omega arith) (omega arith) (inl (omega arith)) (inl (omega arith)) bs o
form_scalar bs (inr (inr (inr (inr (inr (inr (inr (inr (inl o))))))))) = of_four _ _ (omega arith) (omega arith) (omega arith) (omega arith) (inl (omega arith)) (inr (omega arith)) bs o
form_scalar bs (inr (inr (inr (inr (inr (inr (inr (inr (inr o))))))))) = absurd o

-- characters one after another are the spellings of scalar values, and the other way
characters_utf8 : (cs : List (List ℕ)) → Characters cs → IsUtf8 (flatten cs)
unfolding flatten
characters_utf8 [] h = IsUtf8-nil
characters_utf8 (c ∷ cs) h =
    let x = form_scalar c h.0 in
    IsUtf8-append c (flatten cs) (rw x.same at (IsUtf8-encode x.char x.ok)) (characters_utf8 cs h.1)

scalars_text : (cs : List ℕ) → scalars cs ≡ true → Text (encodes cs)
unfolding flatten
scalars_text [] e = ([], tt, refl)
scalars_text (c ∷ cs) e =
    let p = (and-eq-true_iff (scalar c) (scalars cs)).0 e in
    let t = scalars_text cs p.1 in
    (encode c ∷ t.0, (scalar_form c p.0, t.1), ap (λ l. encode c ++ l) t.2)

pub utf8_well_formed : (bs : List ℕ) → IsUtf8 bs → well_formed bs ≡ true
utf8_well_formed bs u = (well_formed_text bs).1 (rw u.1.1 at (scalars_text u.0 u.1.0))

well_formed_utf8 : (bs : List ℕ) → well_formed bs ≡ true → IsUtf8 bs
well_formed_utf8 bs e = let t = (well_formed_text bs).0 e in rw t.2 at (characters_utf8 t.0 t.1)

pub not_utf8 : (bs : List ℕ) → (IsUtf8 bs → ⊥) → well_formed bs ≡ false
not_utf8 bs h = go (well_formed bs) refl
  where
    go : (t : Bool) → well_formed bs ≡ t → t ≡ false
    go true w = absurd (h (well_formed_utf8 bs w))
    go false w = refl
