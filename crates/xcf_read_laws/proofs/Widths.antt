-- The laws of versions and widths: each by the tests of its walk. What the reader says of pointers is what the version says
-- (`reading_sized`), along the head's walk.
-- Assumes nothing.
use Prim.Native.Nat.{ℕ, zero, suc, ◌+◌, ◌≤◌, ◌<◌}
use mathlib.Core.Path.{◌≡◌, refl, sym, ap, ◌∙◌}
use mathlib.Core.List.{List}
use mathlib.Core.Logic.{inl, inr, ⊎_elim}
use mathlib.Core.Bool.{Bool, true, false, cond, and-false, false≢true}
use native.Mathlib.Omega.{arith}
use borrow.Author.Tests.{le-leb, lt-leb, eq-eqb, ne_eqb, eqb-true, le-ltb, ltb-true}
use lib.Dec.{leb, ltb, eqb}
use lib.ListN.{length, get_or}
use Rattle.std.proofs.lemmas.Bool.{cond_both}
use Rattle.xcf_numbers.specs.Limit.{file_limit, table_size}
use Rattle.xcf_numbers.specs.Listed.{listed}
use Rattle.xcf_numbers.specs.Precision
use Rattle.xcf_numbers.specs.PropertyType
use Rattle.xcf_numbers.specs.Refusal
use Rattle.xcf_numbers.specs.Version
use Rattle.xcf_laws.proofs.Cases.{cond_same}
use Rattle.xcf_store.specs.Pointer.{narrow, wide, number_at}
use Rattle.xcf_property.specs.Property.{image_list, layer_list, is_colour_map, is_floating, length_ok}
use Rattle.xcf_property.specs.declared.Properties.{Properties}
use Rattle.xcf_walk.specs.Walk.{Walk, Outcome, got, refused, run, ◌>>=◌, done, bytes, here, file_length, must, jump}
use Rattle.xcf_walk.proofs.Walks.{after, run_bind, parted, got_bytes, got_here, got_must, got_done}
use Rattle.xcf_walk.proofs.Within.{got_word}
use Rattle.xcf_walk.specs.Fields.{number, word}
use Rattle.xcf_walk.specs.Pointers.{tiles}
use Rattle.xcf_walk_laws.proofs.Ensures.{Ensures, ensures_done, ensures_must, ensures_bind, ensures_next}
use Rattle.xcf_parse.specs.Header.{versions, tags, place_in, header}
use Rattle.xcf_parse.specs.Hierarchy.{agrees, pointer, rest, hierarchy}
use Rattle.xcf_parse.specs.Drawable.{side, side_like, layer, channel}
use Rattle.xcf_parse.specs.Image.{pointer_size, base_ok, base_type, precision, head}
use Rattle.xcf_walk.specs.Property.{payload, content, property, property_turn, properties}
use Rattle.xcf_parse.specs.declared.drawable.Owner.{Owner}
use Rattle.xcf_table.specs.Table.{Rows}
use Rattle.xcf_table.specs.Canvas.{side_ok, depth_of}
use Rattle.xcf_table.specs.declared.canvas.Canvas.{Canvas}
use Rattle.xcf_row.specs.Row.{mask_owner, channel_owner}
use Rattle.xcf_read.specs.Drawable.{channel_rows, mask_rows, layer_rows, canvas_channel_rows}
use Rattle.xcf_read.specs.Image.{Image, drawables, all_rows, image}
use Rattle.xcf_read.specs.Answer.{refusal, reading_of, reading}
use Rattle.xcf_read_laws.proofs.Numbers.{refusals_listed}
use Rattle.xcf_read_laws.specs.Widths.{Sized, up_to_base, PrecisionRule, FloatingLength, FloatingRule, FloatingAt, up_to_level, PastEnd, TilePastEnd}

-- a walk in two parts, of which the first is taken, or is refused
module _ {A B : Type 0} (w : Walk A) (k : A → Walk B) (f : List ℕ) (at : ℕ) where
  taken : {a : A} {q : ℕ} → got a q ≡ run w f at → run (w >>= k) f at ≡ run (k a) f q
  taken e = run_bind w k f at ∙ ap (λ o. after o (λ a q. run (k a) f q)) (sym e)

  stops : {n p : ℕ} → run w f at ≡ refused n p → run (w >>= k) f at ≡ refused n p
  stops e = run_bind w k f at ∙ ap (λ o. after o (λ a q. run (k a) f q)) e

-- every structure begins with a word, which is not there
module _ (file : List ℕ) (p : ℕ) (past : length file < p + 4) where
  no_layer_lem : (size base : ℕ) → run (layer size base) file p ≡ refused Refusal.past_end p
  unfolding run here bytes number word side layer
  no_layer_lem size base = rw (lt-leb _ _ past)

  no_channel : (size : ℕ) (o : Owner) → run (channel size o) file p ≡ refused Refusal.past_end p
  unfolding run here bytes number word side side_like channel
  no_channel size o = rw (lt-leb _ _ past)

  no_word : (v : ℕ) → run (agrees v) file p ≡ refused Refusal.past_end p
  unfolding run here bytes number word agrees
  no_word v = rw (lt-leb _ _ past)

  no_hierarchy : (size width height depth : ℕ) → run (hierarchy size width height depth) file p ≡ refused Refusal.past_end p
  unfolding hierarchy
  no_hierarchy size width height depth = stops (agrees width) _ file p (no_word width)

  no_channel_rows : (size : ℕ) (o : Owner) (rows : Rows) → run (channel_rows size o rows) file p ≡ refused Refusal.past_end p
  unfolding channel_rows
  no_channel_rows size o rows = stops (channel size o) _ file p (no_channel size o)

  no_layer_rows : (size : ℕ) (c : Canvas) (rows : Rows) → run (layer_rows size c rows) file p ≡ refused Refusal.past_end p
  unfolding layer_rows
  no_layer_rows size c rows = stops (layer size c.base) _ file p (no_layer_lem size c.base)

  at_level : (size width height depth at : ℕ) {q r : ℕ} → got p q ≡ run (up_to_level size width height depth) file at
      → got tt r ≡ run (rest size) file q → run (hierarchy size width height depth) file at ≡ refused Refusal.past_end p
  unfolding run jump hierarchy
  at_level size width height depth at e over =
      let first = parted (agrees width) _ file at e in
      let second = parted (agrees height) _ file _ first.rest in
      let third = parted (agrees depth) _ file _ second.rest in
      taken (agrees width) _ file at first.first ∙ taken (agrees height) _ file _ second.first ∙ taken (agrees depth) _ file _ third.first
      ∙ taken (pointer size) _ file _ third.rest ∙ taken (rest size) _ file _ over ∙ stops (agrees width) _ file p (no_word width)

pub past_end_lem : (file : List ℕ) (p : ℕ) → length file < p + 4 → PastEnd file p
unfolding run jump drawables layer_rows canvas_channel_rows channel_rows mask_rows
past_end_lem file p past = record {
  next_layer = λ size c ps rows at. stops (layer_rows size c rows) _ file p (no_layer_rows file p past size c rows);
  next_channel = λ size c ps rows at.
      stops (canvas_channel_rows size c rows) _ file p (no_channel_rows file p past size (channel_owner c rows.count) rows);
  channel_hierarchy = λ size o rows at x q e is.
      taken (channel size o) _ file at e ∙ rw is (stops (hierarchy size o.width o.height 1) _ file p (no_hierarchy file p past size _ _ 1));
  layer_hierarchy = λ size c rows at x q e is.
      taken (layer size c.base) _ file at e
      ∙ rw is (stops (hierarchy size x.width x.height (depth_of x.form)) _ file p (no_hierarchy file p past size _ _ _));
  mask = λ size x k rows at some is.
      rw (ne_eqb _ _ some)
      (no_channel_rows file x.mask (omega (arith, past, is)) size (mask_owner x k) rows ∙ ap (refused Refusal.past_end) is);
  level = λ size width height depth at q r e over. at_level file p past size width height depth at e over;
}

pub tile_past_end : TilePastEnd
unfolding run here file_length bytes number must tiles
tile_past_end size n before file at fits past = rw (le-leb _ _ fits, le-ltb _ _ past, and-false (ltb before (number_at size file at)))

-- where the first bytes, a side and the base type end
module _ (f : List ℕ) (at : ℕ) {q : ℕ} where
  header_end : {v : ℕ} → got v q ≡ run header f at → q ≡ at + 14
  unfolding header
  header_end e =
      let a = parted here _ f at e in
      let b = parted (bytes 9) _ f _ a.rest in
      let c = parted (must _ Refusal.not_xcf _) _ f _ b.rest in
      let d = parted here _ f _ c.rest in
      let e = parted (bytes 5) _ f _ d.rest in
      let g = parted (must _ Refusal.bad_version _) _ f _ e.rest in
      omega (
        arith,
        (got_here f at a.first).0,
        (got_bytes f a.place 9 b.first).0,
        (got_must f b.place _ Refusal.not_xcf _ c.first).0,
        (got_here f c.place d.first).0,
        (got_bytes f d.place 5 e.first).0,
        (got_must f e.place _ Refusal.bad_version _ g.first).0,
        (got_done f g.place g.rest).0,
      )

  -- a word with a test at its place
  tested_end : {v : ℕ} (test : ℕ → Bool) (n : ℕ) → got v q ≡ run (here >>= λ p. word >>= λ x. must (test x) n p >>= λ _. done x) f at → q ≡ at + 4
  tested_end test n e =
      let a = parted here _ f at e in
      let b = parted word _ f _ a.rest in
      let c = parted (must _ n _) _ f _ b.rest in
      omega (
        arith,
        (got_here f at a.first).0,
        (got_word f a.place b.first).0,
        (got_must f b.place _ n _ c.first).0,
        (got_done f c.place c.rest).0,
      )

  side_end : {v : ℕ} → got v q ≡ run side f at → q ≡ at + 4
  unfolding side
  side_end e = tested_end side_ok Refusal.bad_side e

  base_end : {v : ℕ} (version : ℕ) → got v q ≡ run (base_type version) f at → q ≡ at + 4
  unfolding base_type
  base_end version e = tested_end (base_ok version) Refusal.bad_base e

-- the precision word at a place, in version 11
module _ (file : List ℕ) (version at : ℕ) (is : version ≡ Version.wide) where
  no_precision : length file < at + 4 → run (precision version) file at ≡ refused Refusal.past_end at
  unfolding precision run here bytes number word
  no_precision past = rw (eq-eqb _ _ is, lt-leb _ _ past)

  other_precision_lem : at + 4 ≤ length file → (number_at 4 file at ≡ Precision.eight_bit_gamma → ⊥)
      → run (precision version) file at ≡ refused Refusal.bad_precision at
  unfolding precision run here bytes number word must
  other_precision_lem fits not = rw (eq-eqb _ _ is, le-leb _ _ fits, ne_eqb _ _ not)

pub precision_rule : (file : List ℕ) (q : ℕ) → got Version.wide q ≡ run up_to_base file 0 → PrecisionRule file q
unfolding head
precision_rule file q e =
    let h = parted header _ file 0 e in
    let w = parted side _ file _ h.rest in
    let t = parted side _ file _ w.rest in
    let b = parted (base_type h.value) _ file _ t.rest in
    let over = got_done file b.place b.rest in
    let place : b.place ≡ 26 = omega (
      arith,
      header_end file 0 h.first,
      side_end file h.place w.first,
      side_end file w.place t.first,
      base_end file t.place h.value b.first,
    ) in
    let asked : (n : ℕ) → run (precision h.value) file b.place ≡ refused n b.place → run head file 0 ≡ refused n 26 =
    λ n r. taken header _ file 0 h.first ∙ taken side _ file _ w.first ∙ taken side _ file _ t.first
    ∙ taken (base_type h.value) _ file _ b.first ∙ stops (precision h.value) _ file _ r ∙ ap (refused n) place in
    record {
      place = over.0 ∙ place;
      missing = λ past. asked Refusal.past_end (no_precision file h.value b.place (sym over.1) (omega (arith, past, place)));
      other = λ fits not. asked Refusal.bad_precision (other_precision_lem file h.value b.place (sym over.1) (omega (arith, fits, place)) (rw place not));
    }

pub lengths_floating : (version n : ℕ)
    → (length_ok (pointer_size version) PropertyType.floating n ≡ true → FloatingLength version n)
    × (FloatingLength version n → length_ok (pointer_size version) PropertyType.floating n ≡ true)
unfolding length_ok
lengths_floating version n = (
  said (eqb version Version.wide) refl (eqb n (cond (eqb version Version.wide) wide narrow)) refl,
  ⊎_elim (λ e. rw (eq-eqb n narrow e) (cond_same (eqb n (cond (eqb version Version.wide) wide narrow)) true))
      (λ e. rw (eq-eqb version Version.wide e.0, eq-eqb n wide e.1)),
)
  where
    said : (t : Bool) → eqb version Version.wide ≡ t → (s : Bool) → eqb n (cond t wide narrow) ≡ s
        → cond s true (eqb n narrow) ≡ true → FloatingLength version n
    said true v true m e = inr (eqb-true _ _ v, eqb-true _ _ m)
    said false v true m e = inl (eqb-true _ _ m)
    said t v false m e = inl (eqb-true _ _ e)

pub floating_rule : (file : List ℕ) (version n at : ℕ) (p : Properties) → FloatingAt file n at
    → FloatingRule file version n at (run (property_turn (pointer_size version) layer_list p) file at)
unfolding run here bytes number word must is_colour_map content payload property is_floating property_turn
floating_rule file version n at p f = record {
  other = λ wrong. rw (there, f.kind, behind, f.said, no_length wrong);
  missing = λ right past. rw (there, f.kind, behind, f.said, (lengths_floating version n).1 right, lt-leb (at + 4 + 4 + n) (length file) (omega (arith, past)), place);
  floats = λ right whole. rw (there, f.kind, behind, f.said, (lengths_floating version n).1 right, le-leb (at + 4 + 4 + n) (length file) (omega (arith, whole)));
}
  where
    there : leb (at + 4) (length file) ≡ true
    there = le-leb (at + 4) (length file) (omega (arith, f.inside))

    behind : leb (at + 4 + 4) (length file) ≡ true
    behind = le-leb (at + 4 + 4) (length file) (omega (arith, f.inside))

    place : at + 4 + 4 ≡ at + 8
    place = omega arith

    no_length : (FloatingLength version n → ⊥) → length_ok (pointer_size version) PropertyType.floating n ≡ false
    no_length wrong = go (length_ok (pointer_size version) PropertyType.floating n) refl
      where
        go : (t : Bool) → length_ok (pointer_size version) PropertyType.floating n ≡ t → t ≡ false
        go true e = absurd (wrong ((lengths_floating version n).0 e))
        go false e = refl

-- a tag that is known has a version that is read
tag_version : (tag : List ℕ) → ltb (place_in tags tag) 5 ≡ true → listed versions (get_or versions (place_in tags tag) 0) ≡ true
unfolding listed
tag_version tag e = go (place_in tags tag) (ltb-true _ _ e)
  where
    go : (k : ℕ) → k < 5 → listed versions (get_or versions k 0) ≡ true
    go zero h = refl
    go (suc zero) h = refl
    go (suc (suc zero)) h = refl
    go (suc (suc (suc zero))) h = refl
    go (suc (suc (suc (suc zero)))) h = refl
    go (suc (suc (suc (suc (suc k))))) h = absurd (omega arith)

module _ {f : List ℕ} {S : ℕ → Type 0} where
  ensures_version : Ensures f S (λ v. listed versions v ≡ true) header
  unfolding header
  ensures_version =
      ensures_next here _ λ start. ensures_next (bytes 9) _ λ m. ensures_next (must _ Refusal.not_xcf _) _ λ _. ensures_next here _ λ at.
      ensures_next (bytes 5) _ λ tag. ensures_bind _ (ensures_must (ltb (place_in tags tag) (length tags)) Refusal.bad_version at) λ _ e.
      ensures_done (tag_version tag e)

  ensures_known : Ensures f S (λ x. listed versions x.head.version ≡ true) image
  unfolding image head
  ensures_known =
      ensures_bind _ (ensures_bind _ ensures_version λ version v. ensures_next side _ λ width. ensures_next side _ λ height.
      ensures_next (base_type version) _ λ base. ensures_next (precision version) _ λ _. ensures_next (properties _ image_list _) _ λ p.
      ensures_done v) λ h v. ensures_next (all_rows _ _) _ λ rows. ensures_done v

-- what the walk gives, and a refusal before it
walk_sized : (file : List ℕ) (o : Outcome Image) → o ≡ run image file 0 → Sized (reading_of o)
unfolding listed
walk_sized file (got x q) e = record {
  known = λ _. (ensures_known {S = λ _. Unit {0}}).holds 0 e (λ _ _. tt);
  eight = λ _ v. rw (eq-eqb _ _ v);
  four = λ _ v. rw (ne_eqb _ _ v);
  refused = λ n. absurd (n refl);
}
walk_sized file (refused n p) e =
    let listed = refusals_listed file n p e in record {
      known = λ z. absurd (false≢true (rw z at listed));
      eight = λ z. absurd (false≢true (rw z at listed));
      four = λ z. absurd (false≢true (rw z at listed));
      refused = λ _. refl;
    }

refusal_sized : (n : ℕ) (table : List ℕ) → 1 ≤ n → Sized (record { answer = refusal n 0; table = table })
refusal_sized n table some = record {
  known = λ z. absurd (omega (arith, z));
  eight = λ z. absurd (omega (arith, z));
  four = λ z. absurd (omega (arith, z));
  refused = λ _. refl;
}

pub reading_sized : (file lent : List ℕ) → Sized (reading file lent)
unfolding reading
reading_sized file lent =
    cond_both (eqb (length lent) table_size) _ _ Sized
    (λ _. cond_both (leb (length file) file_limit) _ _ Sized (λ _. walk_sized file _ refl) (λ _. refusal_sized Refusal.too_long lent (omega arith)))
    (λ _. refusal_sized Refusal.wrong_buffer lent (omega arith))
