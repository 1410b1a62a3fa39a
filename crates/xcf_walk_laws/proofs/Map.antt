-- The rule of the image's colour map: its walk is a list of five tests (`map_run`), and what these say gives each part of the rule.
-- Assumes nothing.
use Prim.Native.Nat.{ℕ, ◌+◌, ◌*◌, ◌≤◌}
use mathlib.Core.Path.{◌≡◌, refl, sym, ap, ◌∙◌}
use mathlib.Core.List.{List}
use mathlib.Core.Logic.{inl, inr}
use mathlib.Core.Bool.{Bool, true, false, cond, ◌||◌, or-true}
use native.Mathlib.Omega.{arith}
use borrow.Author.Tests.{le-leb, lt-leb, leb-true, eq-eqb, eqb-true}
use lib.Dec.{leb, eqb}
use lib.ListN.{length}
use Rattle.xcf_numbers.specs.Limit.{colour_limit}
use Rattle.xcf_numbers.specs.PropertyType
use Rattle.xcf_numbers.specs.Refusal
use Rattle.xcf_property.specs.Property.{image_list, is_colour_map, map_length_ok}
use Rattle.xcf_property.specs.declared.Content.{Content}
use Rattle.xcf_walk.specs.Walk.{Outcome, got, refused, Walk, run, here, must, bytes, ◌>>=◌}
use Rattle.xcf_walk.specs.Fields.{number, word}
use Rattle.xcf_walk.specs.Property.{colour_map, content}
use Rattle.xcf_walk.proofs.Walks.{got_not_refused}
use Rattle.xcf_walk_laws.specs.Map.{colours, MapLength, RightMap, MapRule}

run_must : {A : Type 0} (t : Bool) (n p : ℕ) (k : Unit {0} → Walk A) (f : List ℕ) (at : ℕ) → run (must t n p >>= k) f at ≡ cond t (run (k tt) f at) (refused n p)
unfolding run must
run_must true n p k f at = refl
run_must false n p k f at = refl

-- the test of the length is the two lengths
length_ok_lem : (count n : ℕ) → MapLength count n → map_length_ok count n ≡ true
unfolding map_length_ok
length_ok_lem count n (inl e) = rw (eq-eqb _ _ e)
length_ok_lem count n (inr e) = rw (eq-eqb n (count + 4) e, or-true)

length_said : (count n : ℕ) → map_length_ok count n ≡ true → MapLength count n
unfolding map_length_ok
length_said count n = go (eqb n (3 * count + 4)) refl
  where
    go : (t : Bool) → eqb n (3 * count + 4) ≡ t → (t || eqb n (count + 4)) ≡ true → MapLength count n
    go true e h = inl (eqb-true _ _ e)
    go false e h = inr (eqb-true _ _ h)

length_least : (count n : ℕ) → MapLength count n → 4 ≤ n
length_least count n (inl e) = omega (arith, e)
length_least count n (inr e) = omega (arith, e)

module _ (size : ℕ) (f : List ℕ) (length_at n at : ℕ) where
  abbrev count : ℕ
  count = colours f at

  abbrev decided : Bool → Bool → Bool → Bool → Bool → Outcome Content
  decided least there few said whole =
      cond least
      (cond there
      (cond few
      (cond said
      (cond whole (got (record { first = count; second = 0 }) (at + 4 + 3 * count)) (refused Refusal.past_end (at + 4)))
      (refused Refusal.bad_length length_at))
      (refused Refusal.bad_content at))
      (refused Refusal.past_end at))
      (refused Refusal.bad_length length_at)

  map_run : run (content size image_list PropertyType.colour_map length_at n) f at
      ≡ decided (leb 4 n) (leb (at + 4) (length f)) (leb count colour_limit) (map_length_ok count n) (leb (at + 4 + 3 * count) (length f))
  unfolding content is_colour_map colour_map run here bytes number word
  map_run =
      run_must (leb 4 n) _ _ _ f at
      ∙ ap (λ x. cond (leb 4 n) (cond (leb (at + 4) (length f)) x (refused Refusal.past_end at)) (refused Refusal.bad_length length_at))
      (run_must (leb count colour_limit) _ _ _ f (at + 4)
      ∙ ap (λ x. cond (leb count colour_limit) x (refused Refusal.bad_content at)) (run_must (map_length_ok count n) _ _ _ f (at + 4)))

  right : RightMap f n at
      → run (content size image_list PropertyType.colour_map length_at n) f at ≡ got (record { first = count; second = 0 }) (at + 4 + 3 * count)
  right m =
      map_run
      ∙ rw (
        le-leb 4 n (length_least count n m.said),
        le-leb (at + 4) (length f) (omega (arith, m.whole)),
        le-leb count colour_limit m.few,
        length_ok_lem count n m.said,
        le-leb (at + 4 + 3 * count) (length f) m.whole,
      )

  decided_right : (least there few said whole : Bool) {c : Content} {q : ℕ} → decided least there few said whole ≡ got c q
      → (few ≡ true) × (said ≡ true) × (whole ≡ true)
  decided_right true true true true true e = (refl, refl, refl)
  decided_right true true true true false e = absurd (got_not_refused (sym e))
  decided_right true true true false whole e = absurd (got_not_refused (sym e))
  decided_right true true false said whole e = absurd (got_not_refused (sym e))
  decided_right true false few said whole e = absurd (got_not_refused (sym e))
  decided_right false there few said whole e = absurd (got_not_refused (sym e))

  only_right : (c : Content) (q : ℕ) → run (content size image_list PropertyType.colour_map length_at n) f at ≡ got c q → RightMap f n at
  only_right c q e =
      let t = decided_right (leb 4 n) (leb (at + 4) (length f)) (leb count colour_limit) (map_length_ok count n) _ (sym map_run ∙ e) in
      record { few = leb-true _ _ t.0; said = length_said _ _ t.1; whole = leb-true _ _ t.2 }

  unfit_said : (MapLength count n → ⊥) → map_length_ok count n ≡ false
  unfit_said wrong = go (map_length_ok count n) refl
    where
      go : (t : Bool) → map_length_ok count n ≡ t → map_length_ok count n ≡ false
      go true e = absurd (wrong (length_said count n e))
      go false e = e

  pub map_rule : MapRule f length_at n at (run (content size image_list PropertyType.colour_map length_at n) f at)
  map_rule = record {
    taken = right;
    only = only_right;
    short = λ s. map_run ∙ rw (lt-leb 4 n s);
    uncounted = λ l e. map_run ∙ rw (le-leb 4 n l, lt-leb (at + 4) (length f) e);
    many = λ l t m. map_run ∙ rw (le-leb 4 n l, le-leb (at + 4) (length f) t, lt-leb count colour_limit m);
    unfit = λ m wrong.
        map_run
        ∙ rw (le-leb 4 n m.least, le-leb (at + 4) (length f) m.there, le-leb count colour_limit m.few, unfit_said wrong);
    cut = λ m said e.
        map_run
        ∙ rw (
          le-leb 4 n m.least,
          le-leb (at + 4) (length f) m.there,
          le-leb count colour_limit m.few,
          length_ok_lem count n said,
          lt-leb (at + 4 + 3 * count) (length f) e,
        );
  }
