-- A walk gone on with: from the test of its state to what the loop asks, and from what the loop promises to what a go-on does.
-- Assumes nothing.
use mathlib.Core.Path.{◌≡◌, refl, sym, ap, subst, ◌∙◌}
use mathlib.Core.List.{List, [], ◌∷◌}
use Prim.Native.Nat.{ℕ, zero, suc, ◌+◌, ◌-◌, ◌≤◌, ◌<◌, min}
use native.Mathlib.Omega.{arith}
use lib.ListN.{length, take, drop, length-drop, length-take}
use lib.Seq.{take-add, drop-drop}
use Rattle.mass.specs.Split.{whole}
use Rattle.sets.specs.Sets.{digit}
use Rattle.plan.specs.Plan.{Plan}
use Rattle.plan.specs.Held.{Held}
use Rattle.plan.specs.LentLists.{plan_of_lists}
use Rattle.plan_lists.proofs.Accepted.{plan-held, plan-cap-small}
use Rattle.network.specs.Outage.{intact}
use Rattle.walk.specs.Scenario.{Scenario}
use Rattle.walk.specs.Ends.{End, sum_ends}
use Rattle.walk.specs.Stack.{Stack}
use Rattle.walk.specs.Walk.{plan_ends, mass_examined}
use Rattle.walk.proofs.EndsLaws.{sum_ends-append, count-sum}
use Rattle.walk.proofs.PendingMass.{pending-covers}
use Rattle.walk.proofs.Valid.{held-probable}
use Rattle.bounds.specs.Bounds.{cuts}
use Rattle.bounds.specs.Tallied.{walked_plan, run_state, Ready, Tallied}
use Rattle.bounds.specs.Summed.{Summed}
use Rattle.bounds.specs.declared.Tally.{Tally}
use Rattle.panel.specs.Walks.{capped, walk_plan, ends_to_come, WalkAt}
use Rattle.panel.specs.Steps.{WalkedOn}
use Rattle.walk_state.specs.declared.Walk.{Walk}
use Rattle.walk_state.proofs.SoundLaws.{SoundWalk}
use Rattle.walk_state.proofs.StateLaws.{entries-are, below-is}

-- ---- what the loop asks

-- the tally of a walk that may reach so many ends more
abbrev pub tally_of : Walk → ℕ → Tally
tally_of w allowed = record { at = w.at; left = allowed; count = w.count; mass = w.mass }

module _ (w : Walk) (s : SoundWalk w) where
  pub held : Held w.header w.links w.events
  held = plan-held w.header w.links w.events s.valid

  pub cap-small : w.header.cap < 4294967296
  cap-small = plan-cap-small w.header w.links w.events s.valid

  module _ (stack-size : length w.stack ≡ 512) where
    pub sound-stack : Stack w.header.events w.at w.stack
    sound-stack =
        record {
          fours = s.fours;
          within = s.within;
          sized = stack-size;
          entries = (entries-are _ (whole - w.mass) (drop w.at w.stack) (omega arith) s.entries).0;
        }

    pub ready : (allowed : ℕ) → allowed + w.reached ≤ w.header.cap → length w.sums ≡ 2016
        → Ready w.header w.links w.events (run_state w.stack w.sums (tally_of w allowed))
    ready allowed fits size =
        record {
          held = held;
          stacked = sound-stack;
          sized = size;
          below = below-is w.mass w.sums s.below;
          fits =
              omega (
                arith,
                s.light,
                (entries-are _ (whole - w.mass) (drop w.at w.stack) (omega arith) s.entries).1,
                pending-covers w.header.events w.header.threshold w.events (drop w.at w.stack)
                    (held-probable w.header w.links w.events held)
                    allowed,
              );
          counted = omega (arith, s.few, cap-small);
        }

-- ---- the first ends of a list, and more of them

-- so many as there are
pub take-there : (k : ℕ) (list : List End) → take (length (take k list)) list ≡ take k list
take-there zero list = refl
take-there (suc k) [] = refl
take-there (suc k) (x ∷ list) = ap {B = List End} (λ l. x ∷ l) (take-there k list)

drop-there : (k : ℕ) (list : List End) → drop (length (take k list)) list ≡ drop k list
drop-there zero list = refl
drop-there (suc k) [] = refl
drop-there (suc k) (x ∷ list) = drop-there k list

module _ (n k : ℕ) (list : List End) where
  -- how many of the k ends after the first n there are
  abbrev there : ℕ
  there = length (take k (drop n list))

  -- law: a sum over the first n, then over those after them
  pub sum_more : (f : Scenario → ℕ → ℕ) → sum_ends f (take (n + there) list) ≡ sum_ends f (take n list) + sum_ends f (take k (drop n list))
  sum_more f =
      ap (sum_ends f) (take-add n there list)
      ∙ sum_ends-append f (take n list) (take there (drop n list))
      ∙ ap (λ (l : List End). sum_ends f (take n list) + sum_ends f l) (take-there k (drop n list))

  pub drop_more : drop k (drop n list) ≡ drop (n + there) list
  drop_more = sym (drop-there k (drop n list)) ∙ drop-drop there n list

-- ---- what the loop promises

module _ (w : Walk) (allowed : ℕ) (stack' sums' : List ℕ) (r : Tally)
    (t :
    Tallied (walked_plan intact w.header w.links w.events) (run_state w.stack w.sums (tally_of w allowed)) (run_state stack' sums' r)) where
  -- the walk after so many ends more
  abbrev walk_on : ℕ → Walk
  walk_on got =
      record {
        header = w.header;
        links = w.links;
        events = w.events;
        stack = stack';
        sums = sums';
        at = r.at;
        reached = w.reached + got;
        count = r.count;
        mass = r.mass;
      }

  -- how many ends it has reached
  got-is : allowed - r.left ≡ min allowed (length (ends_to_come w))
  got-is = omega (arith, t.left, length-take allowed (ends_to_come w))

  -- what it has so far is that of the plan with a cap of so many ends
  module _ (n : ℕ) (at : WalkAt intact (walk_plan w) n w) (fits : allowed + n ≤ w.header.cap) where
    abbrev p : Plan
    p = walk_plan w

    abbrev all : List End
    all = plan_ends p

    abbrev got : ℕ
    got = there n allowed all

    sum-on : (f : Scenario → ℕ → ℕ) → sum_ends f (take (n + got) all) ≡ sum_ends f (take n all) + sum_ends f (take allowed (ends_to_come w))
    sum-on f = sum_more n allowed all f ∙ ap (λ (l : List End). sum_ends f (take n all) + sum_ends f (take allowed l)) (sym at.ends)

    mass-on : r.mass ≡ mass_examined (capped p (n + got))
    mass-on = omega (arith, t.masses, at.masses, sum-on (λ s m. m))

    sums_on : Summed intact (capped p (n + got)) p.nodes sums'
    unfolding plan_of_lists
    sums_on =
        record {
          sized = t.sized;
          below = λ i. omega (arith, t.below i, mass-on);
          each =
              λ v x l k.
              omega (arith, t.entries v x l k, at.sums.each v x l k, sum-on (λ s m. Prim.Native.Nat.◌*◌ m (digit (cuts intact p v x s))));
        }

    own-kept : WalkAt intact p (n + got) (walk_on got)
    unfolding plan_of_lists
    own-kept =
        record {
          plan = refl;
          valid = at.valid;
          reached = omega (arith, at.reached);
          under-cap = omega (arith, length-take allowed (drop n all));
          within = omega (arith, at.within, length-take allowed (drop n all), length-drop n all);
          stacked = t.stacked;
          ends = t.rest ∙ ap (drop allowed) at.ends ∙ drop_more n allowed all;
          counts = omega (arith, t.counts, at.counts, count-sum (capped p n), count-sum (capped p (n + got)), sum-on (λ s m. 1));
          masses = mass-on;
          sums = sums_on;
          pending = omega (arith, t.lighter, at.pending);
        }

    same-got : allowed - r.left ≡ got
    same-got = omega (arith, t.left, ap (λ (l : List End). length (take allowed l)) at.ends)

    kept_here : WalkAt intact p (n + (allowed - r.left)) (walk_on (allowed - r.left))
    kept_here = subst (λ (x : ℕ). WalkAt intact p (n + x) (walk_on x)) (sym same-got) own-kept

  kept : (q : Plan) (n : ℕ) → WalkAt intact q n w → allowed + w.reached ≤ w.header.cap
      → WalkAt intact q (n + (allowed - r.left)) (walk_on (allowed - r.left))
  kept q n at fits =
      subst (λ (x : Plan). WalkAt intact x n w → WalkAt intact x (n + (allowed - r.left)) (walk_on (allowed - r.left))) at.plan
      (λ (here : WalkAt intact (walk_plan w) n w). kept_here n here (omega (arith, here.reached)))
      at

  -- law: it has reached so many ends more as there are of those allowed, and a walk of a plan stays one
  pub walked : allowed + w.reached ≤ w.header.cap → WalkedOn w allowed (walk_on (allowed - r.left))
  walked fits =
      record {
        reached = ap (λ (x : ℕ). w.reached + x) got-is;
        moved = λ q n at. subst (λ (x : ℕ). WalkAt intact q (n + x) (walk_on (allowed - r.left))) got-is (kept q n at fits);
      }
