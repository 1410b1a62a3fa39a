-- Where no row is bad, the table is as the writer excepts (`taken_is_excepted`): each row by the facts of its kind (`use_excepted`),
-- and all of them because no row that is active or the selection comes behind another (`row_alone`).
-- Assumes nothing.
use Prim.Native.Nat.{ℕ, ◌+◌, ◌*◌, ◌≤◌, ◌<◌}
use mathlib.Core.Path.{◌≡◌, refl}
use mathlib.Core.List.{List, [], ◌∷◌}
use mathlib.Core.Bool.{Bool, true, false}
use native.Mathlib.Omega.{arith}
use borrow.Author.Tests.{eq-eqb, ne_eqb, eqb-true}
use lib.Dec.{ltb, eqb}
use Rattle.xcf_numbers.specs.Limit.{written_type_limit, mode_limit, layer_limit, table_rows}
use Rattle.xcf_numbers.specs.Flag
use Rattle.xcf_numbers.specs.Flag.{flag_of}
use Rattle.xcf_numbers.specs.Kind
use Rattle.xcf_utf8.specs.Utf8.{well_formed_from}
use Rattle.xcf_table.specs.declared.Row.{Row}
use Rattle.xcf_table.specs.Table.{unused_row, row_at}
use Rattle.xcf_table.specs.declared.canvas.Canvas.{Canvas}
use Rattle.xcf_usable.specs.declared.seen.Seen.{Seen}
use Rattle.xcf_usable.specs.Usable.{is_channel, is_active_layer, is_active_channel, is_selection, channel_flags_ok, count_before, seen_at, masked, no_second, layer_ok, layer_follows, channel_ok, mask_follows, channel_follows, kind_ok, usable_row, usable}
use Rattle.xcf_usable.proofs.Each.{each}
use Rattle.xcf_usable.proofs.Counts.{few_pass}
use Rattle.xcf_usable.proofs.AllUsable.{all_usable}
use Rattle.xcf_usable.proofs.RowFacts.{DrawableFacts, Use, unused, layer, mask, channel, used_tests, row_use}
use Rattle.xcf_round_trip.specs.Taken.{RowExcepted, TakenIsExcepted}
use Rattle.xcf_round_trip.proofs.TableRead.{zero_row}
use Rattle.xcf_round_trip.proofs.UseTaken.{NoSeconds}

-- a row with its facts
drawable_excepted : {names : List ℕ} {r : Row} → DrawableFacts names r → r.mode ≤ mode_limit → r.form ≤ written_type_limit
    → r.flags < Flag.group + Flag.not_utf8 * flag_of r.flags Flag.not_utf8 → RowExcepted names r
drawable_excepted d m f g = record {
  short = d.short;
  named = d.named;
  told = d.told;
  list = d.list;
  pointers = d.pointers;
  mode = m;
  form = f;
  ungrouped = g;
}

zero_excepted : (names : List ℕ) → RowExcepted names unused_row
unfolding well_formed_from
zero_excepted names = record {
  short = omega arith;
  named = omega arith;
  told = refl;
  list = refl;
  pointers = refl;
  mode = omega arith;
  form = omega arith;
  ungrouped = omega arith;
}

module _ (c : Canvas) (names : List ℕ) (k : ℕ) (s : Seen) (r : Row) (has_mask : Bool) where
  use_excepted : Use c names k s r has_mask → RowExcepted names r
  use_excepted (unused e z) = rw (zero_row r z) (zero_excepted names)
  use_excepted (layer d l b) = drawable_excepted d l.mode l.form (omega (arith, l.flags))
  use_excepted (mask d ch m) =
      drawable_excepted d (omega (arith, ch.mode)) (omega (arith, ch.form)) (omega (arith, ch.flags))
  use_excepted (channel d ch v b) =
      drawable_excepted d (omega (arith, ch.mode)) (omega (arith, ch.form)) (omega (arith, ch.flags))

  layer_alone : r.kind ≡ Kind.layer → layer_follows s r ≡ true → NoSeconds s r
  unfolding layer_follows
  layer_alone one e =
      let t = each (ltb s.layers layer_limit ∷ eqb s.channels 0 ∷ eqb s.unused 0 ∷ no_second (is_active_layer r) s.current ∷ []) e in
      record { current = t 3; active = rw (eq-eqb _ _ one); selection = rw (eq-eqb _ _ one) }

  channel_alone : eqb r.kind Kind.layer ≡ false → channel_ok s r ≡ true → NoSeconds s r
  unfolding channel_ok
  channel_alone other e =
      let t =
      each
      (eqb r.depth 1 ∷ eqb r.form 2 ∷ eqb r.mode 0 ∷ channel_flags_ok r ∷ no_second (is_active_channel r) s.active
      ∷ no_second (is_selection r) s.selections ∷ [])
      e in
      record { current = rw other; active = t 4; selection = t 5 }

  module _ (ok : usable_row c names k s r has_mask ≡ true) where
    kind_tests : (r.kind ≡ Kind.unused → ⊥) → kind_ok c k s r has_mask ≡ true
    kind_tests used = (used_tests c names k s r has_mask ok used).2

    row_alone : Use c names k s r has_mask → NoSeconds s r
    unfolding kind_ok
    row_alone (unused _ z) = rw (zero_row r z) (record { current = refl; active = refl; selection = refl })
    row_alone (layer d l b) =
        let e = kind_tests (λ z. omega (arith, l.kind)) in
        layer_alone l.kind (each (layer_ok c k r has_mask ∷ layer_follows s r ∷ []) (rw (eq-eqb r.kind Kind.layer l.kind) at e) 1)
    row_alone (mask d ch m) =
        let e = kind_tests (λ z. omega (arith, m.kind)) in
        let other = ne_eqb r.kind Kind.layer (λ z. omega (arith, m.kind)) in
        channel_alone other (each (channel_ok s r ∷ mask_follows k s r ∷ []) (rw (other, eq-eqb r.kind Kind.mask m.kind) at e) 0)
    row_alone (channel d ch v b) =
        let e = kind_tests (λ z. omega (arith, v.kind)) in
        let other = ne_eqb r.kind Kind.layer (λ z. omega (arith, v.kind)) in
        channel_alone other
        (each
        (is_channel r ∷ channel_ok s r ∷ channel_follows c k s r ∷ [])
        (rw (other, ne_eqb r.kind Kind.mask (λ z. omega (arith, v.kind))) at e)
        1)

-- a row that is no second one, and passes, has none before it
none_before : (n : ℕ) {t : Bool} → no_second t n ≡ true → t ≡ true → n < 1
none_before n alone e = omega (arith, eqb-true n 0 (rw e at alone))

module _ (c : Canvas) (names table : List ℕ) (k : ℕ) (ok : usable c names table k ≡ true) where
  alone : NoSeconds (seen_at table k) (row_at table k)
  unfolding usable
  alone = row_alone c names k (seen_at table k) (row_at table k) (masked table k) ok (row_use c names table k ok)

  current_alone : is_active_layer (row_at table k) ≡ true → count_before is_active_layer table k < 1
  unfolding seen_at
  current_alone = none_before (count_before is_active_layer table k) alone.current

  active_alone : is_active_channel (row_at table k) ≡ true → count_before is_active_channel table k < 1
  unfolding seen_at
  active_alone = none_before (count_before is_active_channel table k) alone.active

  selection_alone : is_selection (row_at table k) ≡ true → count_before is_selection table k < 1
  unfolding seen_at
  selection_alone = none_before (count_before is_selection table k) alone.selection

pub taken_is_excepted : TakenIsExcepted
taken_is_excepted c table names none =
    let ok = all_usable c names table none in (
      λ k h. use_excepted c names k (seen_at table k) (row_at table k) (masked table k) (row_use c names table k (ok k h)),
      record {
        selection = few_pass is_selection table 1 table_rows (λ k h. selection_alone c names table k (ok k h));
        layer = few_pass is_active_layer table 1 table_rows (λ k h. current_alone c names table k (ok k h));
        channel = few_pass is_active_channel table 1 table_rows (λ k h. active_alone c names table k (ok k h));
      },
    )
