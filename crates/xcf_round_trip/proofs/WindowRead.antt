-- A row's pointers that were written as words are read as the numbers written (`pointer_read`); and where lists stand one behind
-- the other and a row's pointers are their starts (`Pointed`), each tile's window begins with its list (`window_begins`): the
-- next pointer, or the file's end, is behind it.
-- Assumes nothing.
use Prim.Native.Nat.{ℕ, zero, suc, ◌+◌, ◌-◌, ◌*◌, ◌≤◌, ◌<◌}
use mathlib.Core.Path.{◌≡◌, refl, sym, ap, ◌∙◌}
use mathlib.Core.List.{List, [], ◌∷◌, ◌++◌, flatten}
use native.Mathlib.Numerals.{add-one}
use native.Mathlib.Omega.{arith}
use borrow.Author.Tests.{ltb-true}
use lib.Dec.{ltb}
use lib.ListN.{length, get_or, take, drop, take-append-drop}
use lib.Seq.{take-take}
use Rattle.std.proofs.lemmas.Bool.{cond_both}
use Rattle.xcf_numbers.specs.Limit.{file_limit}
use Rattle.xcf_store.specs.Word.{part, words}
use Rattle.xcf_table.specs.declared.Row.{Row}
use Rattle.xcf_tile.specs.Tile.{tile_of}
use Rattle.xcf_store.specs.Pointer.{narrow, number_at}
use Rattle.xcf_window.specs.Window.{pointer_at, window_end, window_length, window}
use Rattle.xcf_window.proofs.Cuts.{cut_same}
use Rattle.xcf_drawable.specs.Drawable.{starts}
use Rattle.xcf_store.proofs.Words.{word_length}
use Rattle.xcf_round_trip.proofs.Parts.{Stands, Rises}
use Rattle.xcf_round_trip.proofs.Stands.{stands_front, stands_behind}
use Rattle.xcf_round_trip.proofs.WordsRead.{word_value, words_first, words_rest}

pub pointer_read : {f : List ℕ} {p : ℕ} (before : ℕ) (ps : List ℕ) → length f ≤ file_limit → Rises before ps (length f)
    → Stands f p (words (ps ++ (0 ∷ []))) → (t : ℕ) → t < length ps
    → number_at narrow f (p + narrow * t) ≡ get_or ps t 0
unfolding Rises
pointer_read before [] small rises s t below = absurd (omega arith)
pointer_read {f} {p} before (n ∷ ps) small rises s zero below =
    let first : p + narrow * 0 ≡ p = omega arith in
    let same = (words_first n (ps ++ (0 ∷ [])) s).same in
    rw (first, rw word_length at same) (word_value n (omega (arith, rises.1.0)))
pointer_read {f} {p} before (n ∷ ps) small rises s (suc t) below =
    let next : p + narrow * suc t ≡ p + narrow + narrow * t = omega arith in
    rw next (pointer_read {p = p + narrow} n ps small rises.1.1 (words_rest n (ps ++ (0 ∷ [])) s) t (omega arith))

-- lists one behind the other: the next start, and that each list stands at its own
start_next : (xss : List (List ℕ)) (q t : ℕ) → suc t < length xss
    → get_or (starts xss q) (suc t) 0 ≡ get_or (starts xss q) t 0 + length (get_or xss t [])
unfolding starts
start_next [] q t below = absurd (omega arith)
start_next (xs ∷ []) q t below = absurd (omega arith)
start_next (xs ∷ ys ∷ yss) q zero below = refl
start_next (xs ∷ ys ∷ yss) q (suc t) below = start_next (ys ∷ yss) (q + length xs) t (omega arith)

stands_start : {f : List ℕ} {q : ℕ} (xss : List (List ℕ)) → Stands f q (flatten xss) → (t : ℕ) → t < length xss
    → Stands f (get_or (starts xss q) t 0) (get_or xss t [])
unfolding starts flatten
stands_start [] s t below = absurd (omega arith)
stands_start (xs ∷ xss) s zero below = stands_front xs (flatten xss) s
stands_start {q = q} (xs ∷ xss) s (suc t) below = stands_start {q = q + length xs} xss (stands_behind xs (flatten xss) s) t (omega arith)

-- a longer part of the file begins with what stands there
part_begins : {f : List ℕ} {p : ℕ} (bs : List ℕ) → Stands f p bs → (n : ℕ) → length bs ≤ n
    → part f p n ≡ bs ++ drop (length bs) (part f p n)
part_begins {f} {p} bs s n long =
    let front : take (length bs) (part f p n) ≡ bs = take-take (length bs) n (drop p f) long ∙ s.same in
    sym (take-append-drop (length bs) (part f p n)) ∙ ap (λ (l : List ℕ). l ++ drop (length bs) (part f p n)) front

-- a row's pointers are the starts of these lists, which stand in the file
pub record Pointed (size : ℕ) (f : List ℕ) (r : Row) (xss : List (List ℕ)) (q : ℕ) : Type 0 where
  pub all : length xss ≡ r.count
  pub pointers : (t : ℕ) → t < r.count → pointer_at size f r t ≡ get_or (starts xss q) t 0
  pub stands : Stands f q (flatten xss)

module _ {size : ℕ} {f : List ℕ} {r : Row} {xss : List (List ℕ)} {q : ℕ} (s : Pointed size f r xss q) (t : ℕ) (below : t < r.count) where
  at_pointer : Stands f (pointer_at size f r t) (get_or xss t [])
  at_pointer = rw (s.pointers t below) (stands_start xss s.stands t (omega (arith, s.all)))

  before_end : pointer_at size f r t + length (get_or xss t []) ≤ window_end size f r t
  unfolding window_end
  before_end =
      cond_both (ltb (t + 1) r.count) _ _ (λ (end : ℕ). pointer_at size f r t + length (get_or xss t []) ≤ end)
      (λ more.
      let next : t + 1 < r.count = ltb-true (t + 1) r.count more in
      rw (s.pointers t below, s.pointers (t + 1) next, add-one t) (omega (arith, start_next xss q t (omega (arith, s.all)))))
      (λ _. at_pointer.inside)

  pub window_begins : (w h depth compression : ℕ) → (rest : List ℕ)
      × (tile_of (window size f r t) w h depth compression ≡ tile_of (get_or xss t [] ++ rest) w h depth compression)
  unfolding window window_length
  window_begins w h depth compression =
      let start = pointer_at size f r t in
      let long = window_end size f r t - start in (
        drop (length (get_or xss t [])) (part f start long),
        cut_same f start long w h depth compression
            ∙ ap (λ (l : List ℕ). tile_of l w h depth compression)
            (part_begins (get_or xss t []) at_pointer long (omega (arith, before_end))),
      )
