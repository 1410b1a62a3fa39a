-- Planes gathered from pixels. `GatherLeft`: at the head of the loop over the pixels, what is left to gather from here on
-- gives the whole plane; one turn is one step of `plane`. `Gathered`: at the head of the loop over the planes, each plane
-- passed stands in its part, and stays there when a later part is replaced. `one_plane`: pixels of one byte are their only
-- plane as they stand, byte by byte.
-- Assumes nothing.
use mathlib.Core.Path.{◌≡◌, refl, sym, ap, ◌∙◌}
use mathlib.Core.List.{List, ◌∷◌, ◌++◌, append-nil}
use Prim.Native.Nat.{ℕ, zero, suc, ◌+◌, ◌*◌, ◌-◌, ◌≤◌, ◌<◌}
use native.Mathlib.Nat.{zero-add, add-zero, zero-mul, sub-zero, add-sub_cancel_left}
use native.Mathlib.Numerals.{add-one}
use native.Mathlib.Omega.{arith}
use borrow.Author.Count.{below_more}
use lib.ListN.{length, get_or, set, take, drop, length-append, length-take, length-drop, length-set, take-append-drop, drop_of_length-le}
use lib.Seq.{sets, sets-eq, take-append-le, drop-append-le, take_at, drop_at, drop-cons}
use Rattle.xcf_encode.specs.Tile.{plane, planes}
use Rattle.xcf_encode.specs.Parts.{parts}
use Rattle.xcf_laws.proofs.Steps.{one_more}

pub plane_length : (n at depth : ℕ) (pixels : List ℕ) → length (plane n at depth pixels) ≡ n
unfolding plane
plane_length zero at depth pixels = refl
plane_length (suc n) at depth pixels = ap suc (plane_length n (at + depth) depth pixels)

plane_next : (n i at depth : ℕ) (pixels : List ℕ) → i < n → plane (n - i) at depth pixels ≡ get_or pixels at 0 ∷ plane (n - (i + 1)) (at + depth) depth pixels
unfolding plane
plane_next n i at depth pixels h = let e : n - i ≡ suc (n - (i + 1)) = omega arith in rw e

-- stores over all of a list
sets_all : (l bs : List ℕ) → length bs ≡ length l → sets l 0 bs ≡ bs
sets_all l bs e = rw (sets-eq bs l 0 (omega arith), zero-add, drop_of_length-le l {i = length bs} (omega arith)) (append-nil bs)

-- the stream so far
pub record GatherLeft (pixels start : List ℕ) (k depth i : ℕ) (stream : List ℕ) : Type 0 where
  pub same : length stream ≡ length start
  pub whole : sets stream i (plane (length start - i) (k + i * depth) depth pixels) ≡ sets start 0 (plane (length start) k depth pixels)

pub gather_start : (pixels start : List ℕ) (k depth : ℕ) → GatherLeft pixels start k depth 0 start
gather_start pixels start k depth = record { same = refl; whole = rw (sub-zero, zero-mul, add-zero) }

-- byte k of pixel i
pub pixel_inside : (pixels : List ℕ) (n k depth i : ℕ) → length pixels ≡ n * depth → k < depth → i < n → k + i * depth < length pixels
pixel_inside pixels n k depth i e h l = omega (arith, e, one_more i n depth l)

module _ {pixels start : List ℕ} {k depth i : ℕ} {stream : List ℕ} (g : GatherLeft pixels start k depth i stream) where
  pub gather_turn : i < length start → GatherLeft pixels start k depth (i + 1) (set stream i (get_or pixels (k + i * depth) 0))
  gather_turn h =
      let e : k + i * depth + depth ≡ k + (i + 1) * depth = omega arith in
      record {
        same = length-set stream i (get_or pixels (k + i * depth) 0) ∙ g.same;
        whole = rw (← e, add-one) (rw (plane_next (length start) i (k + i * depth) depth pixels h, add-one) at g.whole);
      }

  pub gather_whole : length start ≤ i → stream ≡ plane (length start) k depth pixels
  unfolding plane
  gather_whole h =
      let z : length start - i ≡ 0 = omega arith in
      rw z at g.whole ∙ sets_all start (plane (length start) k depth pixels) (plane_length (length start) k depth pixels)

-- the part of n bytes from `at` on
part_length : (at n : ℕ) (l : List ℕ) → at + n ≤ length l → length (take (at + n - at) (drop at l)) ≡ n
part_length at n l h = rw (length-take, length-drop) (omega arith)

-- what stands in front stays
front_kept : (p r : List ℕ) (m n : ℕ) → m + n ≤ length p → take n (drop m (p ++ r)) ≡ take n (drop m p)
front_kept p r m n h =
    rw (drop-append-le m p r (omega arith)) (take-append-le n (drop m p) r (rw length-drop (omega arith)))

before_kept : (l r : List ℕ) (a m n : ℕ) → a ≤ length l → m + n ≤ a → take n (drop m (take a l ++ r)) ≡ take n (drop m l)
before_kept l r a m n h i =
    let long : length (take a l) ≡ a = rw length-take (omega arith) in
    front_kept (take a l) r m n (omega arith)
    ∙ sym (front_kept (take a l) (drop a l) m n (omega arith))
    ∙ ap (λ (x : List ℕ). take n (drop m x)) (take-append-drop a l)

-- the planes so far
pub record Gathered (pixels start : List ℕ) (n depth k : ℕ) (planar : List ℕ) : Type 0 where
  pub same : length planar ≡ length start
  pub each : (j : ℕ) → j < k → take n (drop (j * n) planar) ≡ plane n j depth pixels

module _ {pixels start : List ℕ} {n depth k : ℕ} {planar : List ℕ} (g : Gathered pixels start n depth k planar) (s : depth * n ≤ length start) (h : k < depth) where
  pub plane_room : k * n + n ≤ length planar
  plane_room = omega (arith, g.same, s, one_more k depth n h)

  replaced : (part : List ℕ) → part ≡ plane n k depth pixels → Gathered pixels start n depth (k + 1) (take (k * n) planar ++ (part ++ drop n (drop (k * n) planar)))
  replaced part e =
      let at = k * n in
      let room : at + n ≤ length planar = plane_room in
      let long : length (take at planar) ≡ at = rw length-take (omega arith) in
      let size : length part ≡ n = ap length e ∙ plane_length n k depth pixels in
      record {
        same = rw (length-append, length-append, long, size, length-drop, length-drop) (omega (arith, g.same));
        each =
            below_more (λ j. take n (drop (j * n) (take at planar ++ (part ++ drop n (drop at planar)))) ≡ plane n j depth pixels) k
            (λ j l. before_kept planar _ at (j * n) n (omega arith) (omega (arith, one_more j k n l)) ∙ g.each j l)
            (rw (drop_at (take at planar) (part ++ drop n (drop at planar)) (k * n) long, take_at part (drop n (drop at planar)) n size) e);
      }

  pub gathered_turn : (part : List ℕ) → part ≡ plane n k depth pixels → Gathered pixels start n depth (k + 1) (take (k * n) planar ++ (part ++ drop (k * n + n - k * n) (drop (k * n) planar)))
  gathered_turn part e = rw add-sub_cancel_left (replaced part e)

-- parts that are planes one by one are the planes
parts_planes : (count k n depth : ℕ) (pixels planar : List ℕ) → ((j : ℕ) → j < k + count → take n (drop (j * n) planar) ≡ plane n j depth pixels) → parts count (k * n) n planar ≡ planes count k n depth pixels
unfolding parts planes
parts_planes zero k n depth pixels planar each = refl
parts_planes (suc count) k n depth pixels planar each =
    let e : k * n + n ≡ (k + 1) * n = omega arith in
    rw (each k (omega arith), e, parts_planes count (k + 1) n depth pixels planar (λ j l. each j (omega arith)))

pub gathered_all : {pixels start : List ℕ} {n depth k : ℕ} {planar : List ℕ} → Gathered pixels start n depth k planar → depth ≤ k → parts depth 0 n planar ≡ planes depth 0 n depth pixels
gathered_all {pixels} {start} {n} {depth} {k} {planar} g h =
    rw (zero-mul n) at (parts_planes depth 0 n depth pixels planar (λ j l. g.each j (omega arith)))

-- pixels of one byte
plane_bytes : (n at : ℕ) (pixels : List ℕ) → at + n ≤ length pixels → plane n at 1 pixels ≡ take n (drop at pixels)
unfolding plane
plane_bytes zero at pixels h = refl
plane_bytes (suc n) at pixels h =
    rw (drop-cons pixels at 0 (omega arith), plane_bytes n (at + 1) pixels (omega arith), add-one)

pub one_plane : (n : ℕ) (pixels : List ℕ) → length pixels ≡ n → parts 1 0 n pixels ≡ planes 1 0 n 1 pixels
unfolding parts planes
one_plane n pixels e = rw (plane_bytes n 0 pixels (omega arith))
