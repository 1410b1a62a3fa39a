-- A good tile is kept where the structure bytes are the same and the bytes that it consumed. The structure bytes give the same reading,
-- the tile pointers among them; so the tile is the same (`tile_kept`), and is shown so in both files (`given_shown`, `same_shown`).
-- Assumes nothing.
use Prim.Native.Nat.{ℕ}
use mathlib.Core.Path.{◌≡◌}
use mathlib.Core.Logic.{inl, inr, ⊎_elim}
use mathlib.Core.List.{List}
use lib.ListN.{length}
use Rattle.xcf_numbers.specs.Limit.{table_size}
use Rattle.xcf_read.specs.Answer.{reading}
use Rattle.xcf_read_laws.proofs.ReadDepends.{accepted_depends}
use Rattle.xcf_decode_laws.specs.Given.{tile_given}
use Rattle.xcf_isolation.specs.Kept.{GoodTile, Consumed, TileByte, Agree, Kept, GoodTileKept, GoodTilesKept}
use Rattle.xcf_isolation.proofs.ConsumedBytes.{tile_kept}
use Rattle.xcf_isolation.proofs.Given.{pointers_passed, given_shown, same_shown}

-- a good tile of an accepted file, and a file that agrees on the bytes that decide it
module _ (f g lent other : List ℕ) (k t : ℕ) (accepted : (reading f lent).answer.number ≡ 0) (size : length other ≡ table_size)
    (good : GoodTile f (reading f lent) k t) (agree : Agree f g (TileByte f (reading f lent) k t)) where
  read : reading g other ≡ reading f lent
  read = accepted_depends f g lent other accepted size agree.long (λ i s. agree.same i (inl s))

  same : tile_given g (reading f lent) k t ≡ tile_given f (reading f lent) k t
  unfolding Consumed
  same =
      tile_kept _ f g _ agree.long (λ i lo hi. agree.same i (inl (pointers_passed f lent accepted k good.is.row i lo hi))) _ t
      good.is.tile good.good (λ i lo hi. agree.same i (inr (lo, hi)))

  kept : Kept f g (reading f lent) (reading g other) k t
  kept = record {
    good = record { is = rw read good.is; good = rw (read, same) good.good };
    same = rw read same;
    before = given_shown f lent accepted k t good.is;
    after = same_shown f g lent other accepted read k t good.is same;
  }

pub good_tile_kept : GoodTileKept
good_tile_kept f g lent other k t accepted size good agree =
    (read f g lent other k t accepted size good agree, kept f g lent other k t accepted size good agree)

pub good_tiles_kept : GoodTilesKept
good_tiles_kept f g lent other accepted size agree = (
  accepted_depends f g lent other accepted size agree.long (λ i s. agree.same i (inl s)),
  λ k t good. (good_tile_kept f g lent other k t accepted size good (record {
    long = agree.long;
    same = λ i. ⊎_elim (λ s. agree.same i (inl s)) (λ c. agree.same i (inr (record { k = k; t = t; good = good; consumed = c })));
  })).1,
)
