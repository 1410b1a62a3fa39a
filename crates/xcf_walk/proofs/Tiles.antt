-- The pointers of tiles: those that rise are passed over (`past_rising`), and the number behind them decides (`tiles_end`): where none is
-- left it closes the list, and else it is not right.
-- Assumes nothing.
use Prim.Native.Nat.{ℕ, zero, suc, ◌+◌, ◌-◌, ◌*◌, ◌≤◌, ◌<◌}
use mathlib.Core.Path.{◌≡◌, refl, sym, ◌∙◌, ap}
use mathlib.Core.List.{List}
use mathlib.Core.Logic.{◌⊎◌, inl, inr}
use mathlib.Core.Bool.{Bool, true, false, ◌&&◌, and-eq-true_iff}
use native.Mathlib.Nat.{add-zero, sub-zero, mul-zero}
use native.Mathlib.Omega.{arith}
use borrow.Author.Tests.{le-leb, leb-true, eqb-true, eqb-false}
use lib.Dec.{leb, ltb, eqb}
use lib.ListN.{length}
use Rattle.std.specs.Prelude.{Result, Ok, Err}
use Rattle.std.specs.Result.{IsErrAnd}
use Rattle.std.proofs.lemmas.Bool.{cond_both}
use Rattle.xcf_numbers.specs.Refusal
use Rattle.xcf_numbers.specs.declared.reason.Refusal.{Refusal as Refused}
use Rattle.xcf_store.specs.declared.rising.Rising.{Rising}
use Rattle.xcf_store.specs.Pointer.{number_at}
use Rattle.xcf_store.specs.Rising.{rises, rising}
use Rattle.xcf_store.proofs.Risen.{Risen, risen}
use Rattle.xcf_walk.specs.declared.cursor.Cursor.{Cursor}
use Rattle.xcf_walk.specs.Walk.{got, refused, run, bytes, must}
use Rattle.xcf_walk.specs.Fields.{number}
use Rattle.xcf_walk.specs.Pointers.{tiles}
use Rattle.xcf_walk.specs.Cursor.{outcome, Walks}
use Rattle.xcf_walk.proofs.Walks.{run_bind, run_here, run_length}
use Rattle.xcf_walk.proofs.Within.{got_number}

-- a number that lies in the file
number_there : (size : ℕ) (f : List ℕ) (at : ℕ) → at + size ≤ length f → run (number size) f at ≡ got (number_at size f at) (at + size)
unfolding run number bytes
number_there size f at fits = rw (le-leb _ _ fits) refl

-- what is left behind the pointers that rise gives what the whole gives
abbrev Past : ℕ → List ℕ → ℕ → ℕ → ℕ → Rising → Type 0
Past size f n at before r = run (tiles size n before) f at ≡ run (tiles size (n - r.count) r.last) f (at + size * r.count)

none_past : (size : ℕ) (f : List ℕ) (n at before : ℕ) → Past size f n at before (record { count = 0; last = before })
none_past size f n at before = rw (mul-zero, add-zero, sub-zero) refl

one_past : (size : ℕ) (f : List ℕ) (n at before : ℕ) (r : Rising) → rises size f at before ≡ true → Past size f n (at + size) (number_at size f at) r
    → Past size f (suc n) at before (record { count = r.count + 1; last = r.last })
unfolding tiles must
one_past size f n at before r e rest =
    let rise = (and-eq-true_iff (leb (at + size) (length f)) _).0 e in
    let place : at + size * (r.count + 1) ≡ at + size + size * r.count = omega arith in
    let left : suc n - (r.count + 1) ≡ n - r.count = omega arith in
    run_here f at _ ∙ run_length f at _ ∙ run_bind (number size) _ f at
    ∙ rw (number_there size f at (leb-true _ _ rise.0), rise.1, place, left) rest

past_rising : (size : ℕ) (f : List ℕ) (n at before : ℕ) → Past size f n at before (rising size f at n before)
unfolding rising
past_rising size f zero at before = none_past size f zero at before
past_rising size f (suc n) at before =
    cond_both (rises size f at before) _ _ (λ r. Past size f (suc n) at before r) (λ e. one_past size f n at before _ e (past_rising size f n (at + size) (number_at size f at))) (λ _. none_past size f (suc n) at before)

-- the pointers that rise end in the file, or where they begin
pub rising_ends : (size : ℕ) (f : List ℕ) (at n : ℕ) {r : Rising} → r ≡ rising size f at n 0 → (at + size * r.count ≤ length f) ⊎ (at + size * r.count ≡ at)
rising_ends size f at n {r} e = go r.count (let up : Risen size f at n r = rw e (risen size f at n 0) in up.within)
  where
    go : (k : ℕ) → (1 ≤ k → at + size * k ≤ length f) → (at + size * k ≤ length f) ⊎ (at + size * k ≡ at)
    go zero h = inr (omega arith)
    go (suc k) h = inl (h (omega arith))

-- a number that is refused refuses the list, however many pointers are left
number_refused : (size : ℕ) (f : List ℕ) (at k last : ℕ) {n p : ℕ} → run (number size) f at ≡ refused n p → run (tiles size k last) f at ≡ refused n p
unfolding tiles
number_refused size f at zero last h = run_here f at _ ∙ run_bind (number size) _ f at ∙ rw h refl
number_refused size f at (suc k) last h = run_here f at _ ∙ run_length f at _ ∙ run_bind (number size) _ f at ∙ rw h refl

-- the number behind those passed over
module _ (size n : ℕ) (c : Cursor) {next : Cursor} {r : Rising} (e : r ≡ rising size c.file.now c.at n 0) (s : next ≡ record { file = c.file; at = c.at + size * r.count }) where
  past : run (tiles size n 0) c.file.now c.at ≡ run (tiles size (n - r.count) r.last) next.file.now next.at
  past = rw (s, e) (past_rising size c.file.now n c.at 0)

  same_file : next.file.now ≡ c.file.now
  same_file = ap (λ x. x.file.now) s

  pub tiles_stop : {d : Cursor} {x : Refused} {res : Result (Unit {0}) Refused} → Walks (number size) next (Err x) d → IsErrAnd res (λ y. y ≡ x) → Walks (tiles size n 0) c res d
  tiles_stop {res = Ok y} t h = absurd h
  tiles_stop {res = Err y} t h = record { gives = past ∙ number_refused size next.file.now next.at (n - r.count) r.last (rw h t.gives); file = t.file ∙ same_file; stands = rw h t.stands }

  module _ {d : Cursor} (end : Cursor) {p : ℕ} (res : Result (Unit {0}) Refused) (t : Walks (number size) next (Ok p) d) where
    -- what the last test gives
    abbrev Tested : Bool → Type 0
    Tested b = run (must b Refusal.bad_tile_pointer next.at) next.file.now d.at ≡ outcome (λ x. x) res end.at

    closed : n - r.count ≡ 0 → Tested (eqb p 0) → run (tiles size (n - r.count) r.last) next.file.now next.at ≡ outcome (λ x. x) res end.at
    unfolding tiles
    closed none g = rw none (run_here next.file.now next.at _ ∙ run_bind (number size) _ next.file.now next.at ∙ rw t.gives g)

    not_right : (k : ℕ) → n - r.count ≡ suc k → (ltb r.last p && ltb p (length next.file.now)) ≡ false → Tested false
        → run (tiles size (n - r.count) r.last) next.file.now next.at ≡ outcome (λ x. x) res end.at
    unfolding run tiles must
    not_right k one misses g =
        rw one (run_here next.file.now next.at _ ∙ run_length next.file.now next.at _ ∙ run_bind (number size) _ next.file.now next.at ∙ rw (t.gives, misses) g)

    not_risen : r.count < n → (ltb r.last p && ltb p (length next.file.now)) ≡ false
    not_risen less =
        let up : Risen size c.file.now c.at n r = rw e (risen size c.file.now c.at n 0) in
        let w = got_number size next.file.now next.at (sym t.gives) in
        let last : rises size next.file.now next.at r.last ≡ false = rw s (up.stops less) in
        rw (le-leb _ _ w.1, ← w.2) at last

    pub tiles_end : Walks (must (eqb r.count n && eqb p 0) Refusal.bad_tile_pointer (c.at + size * r.count)) d res end → Walks (tiles size n 0) c res end
    tiles_end g = record {
      gives = past ∙ go (eqb r.count n) refl (rw (← ap (λ x. x.at) s, t.file) at g.gives);
      file = g.file ∙ t.file ∙ same_file;
      stands = g.stands;
    }
      where
        few : r.count ≤ n
        few = let up : Risen size c.file.now c.at n r = rw e (risen size c.file.now c.at n 0) in up.few

        go : (b : Bool) → eqb r.count n ≡ b → Tested (b && eqb p 0) → run (tiles size (n - r.count) r.last) next.file.now next.at ≡ outcome (λ x. x) res end.at
        go true h k = let same : r.count ≡ n = eqb-true _ _ h in closed (omega arith) k
        go false h k =
            let less : r.count < n = omega (arith, few, eqb-false r.count n h) in
            not_right (n - (r.count + 1)) (omega arith) (not_risen less) k
