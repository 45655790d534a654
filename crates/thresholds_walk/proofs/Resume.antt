-- A walk begun at the root, and one whose stack is empty.
-- Assumes nothing.
use mathlib.Core.Path.{◌≡◌}
use mathlib.Core.List.{List, [], ◌∷◌, append-nil}
use Prim.Native.Nat.{ℕ, ◌≤◌}
use native.Mathlib.Omega.{arith}
use lib.ListN.{length, drop, drop_of_length-le}
use lib.Seq.{sets}
use Rattle.mass.specs.Split.{whole}
use Rattle.plan.specs.Lists.{events_of}
use Rattle.walk.specs.Ends.{ends}
use Rattle.walk.specs.Stack.{branch_of}
use Rattle.walk.proofs.StackLaws.{root_ends}
use Rattle.thresholds_walk.specs.Stack.{shared_to_come, SharedStack}
use Rattle.thresholds_walk.proofs.Words.{laid-size, laid-words}
use Rattle.thresholds_walk.proofs.Stops.{entry-some}

module _ (at : ℕ) (stack stack' : List ℕ) (place : at ≡ 635) (laid : stack' ≡ sets stack 635 (0 ∷ whole ∷ 0 ∷ 0 ∷ whole ∷ [])) (size : length stack ≡ 640) where
  only : drop at stack' ≡ 0 ∷ whole ∷ 0 ∷ 0 ∷ whole ∷ []
  only =
      rw (place, ← drop_of_length-le stack {i = 640} (omega arith))
      (laid-words stack stack' 635 0 whole 0 0 whole laid size (omega arith))

  -- a walk begun may be gone on with
  pub begun-stack : (count : ℕ) → SharedStack count at stack'
  begun-stack count =
      record {
        fives = rw place;
        within = omega arith;
        sized = laid-size stack stack' 635 0 whole 0 0 whole laid size;
        entries =
            rw only (
              record {
                deep = omega arith;
                lighter = omega arith;
                light = omega arith;
                word = omega arith;
                decided = omega arith;
                room = omega arith;
              },
              tt,
            );
      }

  -- its ends are those of the whole walk, for every threshold of at most one whole
  pub begun-ends : (count t : ℕ) (words : List ℕ) → t ≤ whole → shared_to_come count t words at stack' ≡ ends t whole (events_of count words)
  begun-ends count t words h =
      rw (only, entry-some whole t (events_of count words) (branch_of 0 whole 0 0) h, append-nil) (root_ends t whole (events_of count words))

-- law: nothing is to come where the stack is empty
pub none-to-come : (count t : ℕ) (words stack : List ℕ) → length stack ≡ 640 → shared_to_come count t words 640 stack ≡ []
none-to-come count t words stack h = rw (drop_of_length-le stack {i = 640} (omega arith))
