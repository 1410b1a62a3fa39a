-- Of bytes that stand in a file the front and what is behind it stand there too.
-- Assumes nothing.
use Prim.Native.Nat.{ℕ, ◌+◌}
use mathlib.Core.Path.{sym, ap, ◌∙◌}
use mathlib.Core.List.{List, ◌++◌}
use native.Mathlib.Omega.{arith}
use lib.ListN.{length, take, drop, length-append}
use lib.Seq.{take-take, take-length, take-append_seam, drop-append_seam}
use Rattle.xcf_store.specs.Word.{part}
use Rattle.xcf_store.proofs.Parts.{part_part}
use Rattle.xcf_round_trip.proofs.Parts.{Stands}

module _ {f : List ℕ} {p : ℕ} (xs ys : List ℕ) (s : Stands f p (xs ++ ys)) where
  pub stands_front : Stands f p xs
  stands_front = record {
    inside = omega (arith, length-append xs ys);
    same =
        sym (take-take (length xs) (length (xs ++ ys)) (drop p f) (omega (arith, length-append xs ys)))
        ∙ ap (take (length xs)) s.same
        ∙ take-append_seam xs ys;
  }

  pub stands_behind : Stands f (p + length xs) ys
  stands_behind = record {
    inside = omega (arith, length-append xs ys);
    same =
        sym (part_part f p (length (xs ++ ys)) (length xs) (length ys) (omega (arith, length-append xs ys)))
        ∙ ap (λ l. part l (length xs) (length ys)) s.same
        ∙ rw drop-append_seam (take-length ys);
  }
