-- Bytes stored one after the other: what was stored in two goes is what `sets` stores, by induction on the bytes. `Put` says it with
-- the place behind the bytes, `PutWithin` with a bound on how many they are.
-- Assumes nothing.
use mathlib.Core.Path.{◌≡◌, refl, sym, ap, ◌∙◌}
use mathlib.Core.List.{List, [], ◌∷◌, ◌++◌, append_assoc, append-nil}
use Prim.Native.Nat.{ℕ, suc, ◌+◌, ◌*◌, ◌≤◌}
use native.Mathlib.Nat.{add-zero, zero-add, le_refl}
use native.Mathlib.Omega.{arith}
use lib.ListN.{length, take, drop, set, length-append, length-take, length-drop, take-append-drop, drop_of_length-le}
use lib.Seq.{sets, sets-eq, length-sets, take-take, drop-drop, drop-append-le}
use Rattle.xcf_store.specs.Put.{Put, PutWithin}

-- xs and then ys
pub sets_append : (l : List ℕ) (i : ℕ) (xs ys : List ℕ) → sets l i (xs ++ ys) ≡ sets (sets l i xs) (i + length xs) ys
sets_append l i [] ys = rw add-zero
sets_append l i (x ∷ xs) ys =
    sets_append (set l i x) (suc i) xs ys ∙ ap (λ (n : ℕ). sets (sets (set l i x) (suc i) xs) n ys) (omega arith)

-- what is left of a part behind its first n bytes, and what lies behind the part
part_rest : (l : List ℕ) (a k n : ℕ) → a + k ≤ length l → n ≤ k → drop n (take k (drop a l)) ++ drop k (drop a l) ≡ drop (a + n) l
part_rest l a k n h i =
    let long : length (take k (drop a l)) ≡ k = rw (length-take, length-drop) (omega arith) in
    sym (drop-append-le n (take k (drop a l)) (drop k (drop a l)) (omega arith)) ∙ rw (take-append-drop, drop-drop)

-- stores at the start of the part of k bytes from a on are stores from a on
part_sets : (l : List ℕ) (a k : ℕ) (bs : List ℕ) → a + k ≤ length l → length bs ≤ k → take a l ++ (sets (take k (drop a l)) 0 bs ++ drop k (drop a l)) ≡ sets l a bs
part_sets l a k bs h s =
    let long : length (take k (drop a l)) ≡ k = rw (length-take, length-drop) (omega arith) in
    let rest = part_rest l a k (length bs) h s in
    rw (sets-eq bs (take k (drop a l)) 0 (omega arith), sets-eq bs l a (omega arith), zero-add)
    (ap (λ (r : List ℕ). take a l ++ r) (append_assoc bs _ _ ∙ ap (λ (r : List ℕ). bs ++ r) rest) ∙ sym (append_assoc (take a l) bs _))

-- nothing
pub put_nothing : (l : List ℕ) (to : ℕ) → Put l to [] to l
put_nothing l to = record { behind = rw add-zero; output = refl }

-- xs, and ys behind them
pub put_append : {old : List ℕ} {to : ℕ} {xs : List ℕ} {r : ℕ} {mid : List ℕ} {ys : List ℕ} {r' : ℕ} {new : List ℕ} → Put old to xs r mid → Put mid r ys r' new → Put old to (xs ++ ys) r' new
put_append {old} {to} {xs} {r} {mid} {ys} p q = record {
  behind = q.behind ∙ rw (p.behind, length-append) (omega arith);
  output = q.output ∙ rw (p.behind, p.output, sets_append);
}

-- the same of bytes with bounds: the bounds are added
pub within_append : {old : List ℕ} {to : ℕ} {xs : List ℕ} {m r : ℕ} {mid : List ℕ} {ys : List ℕ} {n r' : ℕ} {new : List ℕ} → PutWithin old to xs m r mid → PutWithin mid r ys n r' new → PutWithin old to (xs ++ ys) (m + n) r' new
within_append p q = record { put = put_append p.put q.put; few = rw length-append (omega (arith, p.few, q.few)) }

-- bytes are put within their own number, and within any larger bound
pub put_within : {old : List ℕ} {to : ℕ} {bs : List ℕ} {r : ℕ} {new : List ℕ} → Put old to bs r new → PutWithin old to bs (length bs) r new
put_within p = record { put = p; few = le_refl _ }

pub within_more : {old : List ℕ} {to : ℕ} {bs : List ℕ} {m r : ℕ} {new : List ℕ} (n : ℕ) → m ≤ n → PutWithin old to bs m r new → PutWithin old to bs n r new
within_more n h p = record { put = p.put; few = omega (arith, p.few) }

-- one part more behind i parts of at most m bytes each
pub within_next : {old : List ℕ} {to : ℕ} {xs : List ℕ} {m r : ℕ} {mid : List ℕ} {ys : List ℕ} {r' : ℕ} {new : List ℕ} (i : ℕ) → PutWithin old to xs (m * i) r mid → PutWithin mid r ys m r' new → PutWithin old to (xs ++ ys) (m * (i + 1)) r' new
within_next i p q = within_more _ (omega arith) (within_append p q)

-- bytes put at the start of the part of k bytes from a on are put from a on
pub put_part : {l : List ℕ} {a k : ℕ} {bs : List ℕ} {r : ℕ} {part : List ℕ} → Put (take k (drop a l)) 0 bs r part → a + k ≤ length l → length bs ≤ k → Put l a bs (a + r) (take a l ++ (part ++ drop k (drop a l)))
put_part {l} {a} {k} {bs} p h s = record {
  behind = omega (arith, p.behind);
  output = rw p.output (part_sets l a k bs h s);
}

-- what is put in front of the place where a list is cut, and up to it, and what is put at the start behind it, are put one behind the other
pub put_halves : {l : List ℕ} {n at : ℕ} {xs : List ℕ} {r : ℕ} {front ys : List ℕ} {r' : ℕ} {behind : List ℕ} → Put (take n l) at xs r front → r ≡ n
    → n ≤ length l → Put (drop n l) 0 ys r' behind → n + length ys ≤ length l → Put l at (xs ++ ys) (n + r') (front ++ behind)
put_halves {l} {n} {at} {xs} {r} {front} {ys} {r'} {behind} p e h q room =
    let reaches : at + length xs ≡ n = sym p.behind ∙ e in
    let long : length (take n l) ≡ n = rw length-take (omega arith) in
    let rest = length-drop n l in
    let whole : at + length (xs ++ ys) ≡ n + length ys = rw length-append (omega arith) in
    let head : take at (take n l) ≡ take at l = take-take at n l (omega arith) in
    let none : drop (at + length xs) (take n l) ≡ [] = drop_of_length-le (take n l) {i = at + length xs} (omega arith) in
    record {
      behind = omega (arith, q.behind, whole);
      output =
          rw (p.output, q.output, sets-eq xs (take n l) at (omega arith), sets-eq ys (drop n l) 0 (omega arith), head, none, append-nil, zero-add, drop-drop)
          (rw (sets-eq (xs ++ ys) l at (omega arith), whole) (simp append_assoc));
    }

-- stores change no length
pub put_length : {old : List ℕ} {to : ℕ} {bs : List ℕ} {r : ℕ} {new : List ℕ} → Put old to bs r new → length new ≡ length old
put_length {old} {to} {bs} p = ap length p.output ∙ length-sets old to bs
