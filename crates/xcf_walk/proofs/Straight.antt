-- Walks that follow no pointer: they only go forward (`straight_forward`), what they pass over lies between their place and their
-- end (`between`), and they pass over all of it (`all_passed`). By induction over the walk; each structure is straight by its do block.
-- Assumes nothing.
use Prim.Native.Nat.{ℕ, zero, suc, ◌+◌, ◌≤◌, ◌<◌}
use mathlib.Core.Path.{◌≡◌}
use mathlib.Core.List.{List}
use mathlib.Core.Bool.{Bool, true, false, cond}
use mathlib.Core.Logic.{inl, inr, ⊎_elim}
use native.Mathlib.Omega.{arith}
use lib.ListN.{length}
use Rattle.xcf_walk.specs.Walk.{Walk, done, refuse, pass, ask, move, got, ◌>>=◌, run, PassedOver, bytes, here, file_length, must, Turn, more, last, onward, turns, loop}
use Rattle.xcf_store.specs.Word.{part}
use Rattle.xcf_walk.specs.Fields.{number, word}
use Rattle.xcf_property.specs.declared.Properties.{Properties}
use Rattle.xcf_walk.specs.Property.{payload, colour_map, content, property, property_turn, properties}
use Rattle.xcf_property.specs.Property.{is_colour_map}
use Rattle.xcf_laws.proofs.Cases.{below_or}
use Rattle.xcf_walk.proofs.Walks.{got_not_refused, got_done, got_pass}

-- no step moves to another place
pub data Straight {A : Type 0} : Walk A → Type 0 where
  straight_done : {a : A} → Straight (done a)
  straight_refuse : {n p : ℕ} → Straight (refuse n p)
  straight_pass : {n : ℕ} {h : List ℕ → Walk A} → ((b : List ℕ) → Straight (h b)) → Straight (pass n h)
  straight_ask : {h : ℕ → ℕ → Walk A} → ((at size : ℕ) → Straight (h at size)) → Straight (ask h)

pub straight_bind : {A B : Type 0} {w : Walk A} (k : A → Walk B) → Straight w → ((a : A) → Straight (k a)) → Straight (w >>= k)
straight_bind k straight_done j = j _
straight_bind k straight_refuse j = straight_refuse
straight_bind k (straight_pass h) j = straight_pass (λ b. straight_bind k (h b) j)
straight_bind k (straight_ask h) j = straight_ask (λ at size. straight_bind k (h at size) j)

-- the steps
pub straight_bytes : (n : ℕ) → Straight (bytes n)
unfolding bytes
straight_bytes n = straight_pass (λ b. straight_done)

pub straight_here : Straight here
unfolding here
straight_here = straight_ask (λ at size. straight_done)

pub straight_length : Straight file_length
unfolding file_length
straight_length = straight_ask (λ at size. straight_done)

pub straight_must : (t : Bool) (n p : ℕ) → Straight (must t n p)
unfolding must
straight_must true n p = straight_done
straight_must false n p = straight_refuse

pub straight_onward : {S A : Type 0} {go : S → Walk A} → ((s : S) → Straight (go s)) → (t : Turn S A) → Straight (onward go t)
straight_onward h (more s) = h s
straight_onward h (last a) = straight_done

pub straight_turns : {S A : Type 0} (n : ℕ) (body : S → Walk (Turn S A)) (s : S) → ((t : S) → Straight (body t)) → Straight (turns n body s)
unfolding turns
straight_turns zero body s h = straight_refuse
straight_turns (suc n) body s h = straight_bind _ (h s) (straight_onward (λ t. straight_turns n body t h))

pub straight_loop : {S A : Type 0} (body : S → Walk (Turn S A)) (s : S) → ((t : S) → Straight (body t)) → Straight (loop body s)
unfolding loop
straight_loop body s h = straight_bind _ straight_length (λ n. straight_turns (suc n) body s h)

-- the structures
pub straight_number : (size : ℕ) → Straight (number size)
unfolding number
straight_number size = straight_bind _ (straight_bytes _) (λ b. straight_done)

pub straight_word : Straight word
unfolding word
straight_word = straight_number 4

pub straight_payload : (size kind length_at n : ℕ) → Straight (payload size kind length_at n)
unfolding payload
straight_payload size kind length_at n = search (straight_bind, straight_must, straight_bytes, straight_done)

pub straight_colour_map : (length_at n : ℕ) → Straight (colour_map length_at n)
unfolding colour_map
straight_colour_map length_at n =
    straight_bind _ (straight_must _ _ _) λ _. straight_bind _ straight_here λ at. straight_bind _ straight_word λ count.
    straight_bind _ (straight_must _ _ _) λ _. straight_bind _ (straight_must _ _ _) λ _. straight_bind _ (straight_bytes _) λ b. straight_done

straight_cond : {A : Type 0} (b : Bool) {w v : Walk A} → Straight w → Straight v → Straight (cond b w v)
straight_cond true x y = x
straight_cond false x y = y

pub straight_content : (size list kind length_at n : ℕ) → Straight (content size list kind length_at n)
unfolding content
straight_content size list kind length_at n =
    straight_cond (is_colour_map list kind) (straight_colour_map length_at n) (straight_payload size kind length_at n)

pub straight_property : (size list : ℕ) → Straight (property size list)
unfolding property
straight_property size list =
    straight_bind _ straight_here λ start. straight_bind _ straight_word λ kind. straight_bind _ straight_here λ at. straight_bind _ straight_word λ n.
    straight_bind _ straight_here λ place. straight_bind _ (straight_content size list kind at n) λ c. straight_done

pub straight_property_turn : (size list : ℕ) (p : Properties) → Straight (property_turn size list p)
unfolding property_turn
straight_property_turn size list p =
    straight_bind _ (straight_property size list) λ x. straight_bind _ (straight_must _ _ _) λ _. straight_bind _ (straight_must _ _ _) λ _.
    straight_bind _ (straight_must _ _ _) λ _. straight_done

pub straight_properties : (size list unmapped : ℕ) → Straight (properties size list unmapped)
unfolding properties
straight_properties size list unmapped = straight_loop _ _ (straight_property_turn size list)

-- it goes forward, and not past the file's end
pub straight_forward : {A : Type 0} {w : Walk A} (f : List ℕ) (at : ℕ) {a : A} {q : ℕ} → Straight w → got a q ≡ run w f at
    → (at ≤ q) × (at ≤ length f → q ≤ length f)
unfolding run
straight_forward f at straight_done e = let h = got_done f at e in (omega (arith, h.0), λ le. omega (arith, h.0))
straight_forward f at straight_refuse e = absurd (got_not_refused e)
straight_forward f at (straight_pass {n} {h} s) e =
    let g = got_pass f at n h e in
    let r = straight_forward f (at + n) (s (part f at n)) g.1 in
    (omega (arith, r.0), λ _. r.1 g.0)
straight_forward f at (straight_ask s) e = straight_forward f at (s at (length f)) e

-- the parts of a straight walk are straight, the second after a first that was taken
module _ {A B : Type 0} (k : A → Walk B) where
  pub straight_first : (w : Walk A) → Straight (w >>= k) → Straight w
  straight_first (done a) s = straight_done
  straight_first (refuse n p) s = straight_refuse
  straight_first (pass n h) (straight_pass s) = straight_pass (λ b. straight_first (h b) (s b))
  straight_first (ask h) (straight_ask s) = straight_ask (λ at size. straight_first (h at size) (s at size))
  straight_first (move _ _) s = elim s [ ]

  pub straight_rest : (w : Walk A) (f : List ℕ) (at : ℕ) {a : A} {q : ℕ} → Straight (w >>= k) → got a q ≡ run w f at → Straight (k a)
  unfolding run
  straight_rest (done b) f at s e = rw (got_done f at e).1 s
  straight_rest (refuse n p) f at s e = absurd (got_not_refused e)
  straight_rest (pass n h) f at (straight_pass s) e = straight_rest (h (part f at n)) f (at + n) (s (part f at n)) (got_pass f at n h e).1
  straight_rest (ask h) f at (straight_ask s) e = straight_rest (h at (length f)) f at (s at (length f)) e
  straight_rest (move _ _) f at s e = elim s [ ]

-- what it passes over lies between its place and its end
pub between : {A : Type 0} {w : Walk A} (f : List ℕ) (at : ℕ) {a : A} {q : ℕ} → Straight w → got a q ≡ run w f at
    → (i : ℕ) → PassedOver w f at i → (at ≤ i) × (i < q)
unfolding run PassedOver
between f at straight_done e i p = absurd p
between f at straight_refuse e i p = absurd p
between f at (straight_pass {n} {h} s) e i p =
    let g = got_pass f at n h e in
    ⊎_elim (λ x. (x.0, omega (arith, x.1, (straight_forward f (at + n) (s (part f at n)) g.1).0)))
    (λ x. let r = between f (at + n) (s (part f at n)) g.1 i x in (omega (arith, r.0), r.1)) p.1
between f at (straight_ask s) e i p = between f at (s at (length f)) e i p

-- and it passes over every byte between them
pub all_passed : {A : Type 0} {w : Walk A} (f : List ℕ) (at : ℕ) {a : A} {q : ℕ} → Straight w → got a q ≡ run w f at
    → (i : ℕ) → at ≤ i → i < q → PassedOver w f at i
unfolding run PassedOver
all_passed f at straight_done e i lo hi = let h = got_done f at e in absurd (omega (arith, h.0))
all_passed f at straight_refuse e i lo hi = absurd (got_not_refused e)
all_passed f at (straight_pass {n} {h} s) e i lo hi =
    let g = got_pass f at n h e in
    (g.0, ⊎_elim (λ below. inl (lo, below)) (λ above. inr (all_passed f (at + n) (s (part f at n)) g.1 i above hi)) (below_or i (at + n)))
all_passed f at (straight_ask s) e i lo hi = all_passed f at (s at (length f)) e i lo hi

-- a walk in two parts passes over what its parts pass over
module _ {A B : Type 0} (k : A → Walk B) (f : List ℕ) where
  pub passed_first : (w : Walk A) (at i : ℕ) → PassedOver w f at i → PassedOver (w >>= k) f at i
  unfolding PassedOver
  passed_first (done a) at i p = absurd p
  passed_first (refuse n q) at i p = absurd p
  passed_first (pass n h) at i p = (p.0, ⊎_elim inl (λ x. inr (passed_first (h (part f at n)) (at + n) i x)) p.1)
  passed_first (ask h) at i p = passed_first (h at (length f)) at i p
  passed_first (move q w) at i p = passed_first w q i p

  pub passed_next : (w : Walk A) (at i : ℕ) {a : A} {q : ℕ} → got a q ≡ run w f at → PassedOver (k a) f q i → PassedOver (w >>= k) f at i
  unfolding run PassedOver
  passed_next (done b) at i e p = let h = got_done f at e in rw (← h.0, ← h.1) p
  passed_next (refuse n r) at i e p = absurd (got_not_refused e)
  passed_next (pass n h) at i e p = let g = got_pass f at n h e in (g.0, inr (passed_next (h (part f at n)) (at + n) i g.1 p))
  passed_next (ask h) at i e p = passed_next (h at (length f)) at i e p
  passed_next (move r w) at i e p = passed_next w r i e p
