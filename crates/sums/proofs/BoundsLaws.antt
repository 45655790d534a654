-- Laws of the bounds of a pair.
-- Assumes nothing.
use mathlib.Core.Path.{◌≡◌, ap}
use mathlib.Core.Bool.{Bool, true, false, not}
use Prim.Native.Nat.{ℕ, ◌+◌, ◌-◌, ◌*◌, ◌≤◌}
use native.Mathlib.Omega.{arith}
use lib.ListN.{length}
use Rattle.mass.specs.Split.{whole}
use Rattle.plan.specs.Plan.{Plan}
use Rattle.walk.specs.Scenario.{Scenario}
use Rattle.plan.specs.Held.{Probabilities}
use Rattle.sets.specs.Sets.{digit}
use Rattle.walk.specs.Walk.{first_ends, mass_examined, count}
use Rattle.walk.proofs.EndsLaws.{count-sum}
use Rattle.walk.proofs.Theorems.{mass_examined-le}
use Rattle.sums.specs.Exact.{scale, exact_cut, exact_missed}
use Rattle.sums.proofs.Enclosure.{Enclosed, enclosure, weighed-split, one-or-other}
use Rattle.sums.specs.Bounds.{lower, connected, upper, Demand3}

-- from the enclosure with B = 1 to the bounds: h for one whole, S for 10^(9n), E for the mass examined
above_step : (h S L U E X : ℕ) → h * X + 1 * E * S ≤ (L + 1 * h) * S → U + E ≡ L + h → X * h ≤ U * S
above_step h S L U E X a e = omega (arith, ap (λ (x : ℕ). x * S) e)

gap_step : (h S L U E n c R : ℕ) → h * S ≤ (E + n * c) * S + h * R → U + E ≡ L + h → U * S ≤ L * S + (R * h + n * c * S)
gap_step h S L U E n c R a e = omega (arith, ap (λ (x : ℕ). x * S) e)

difference-step : (S L U X : ℕ) → L ≤ U → U * S ≤ L * S + X → (U - L) * S ≤ X
difference-step S L U X h a = omega (arith, ap (λ (x : ℕ). x * S) restores)
  where
    restores : L + (U - L) ≡ U
    restores = omega arith

module _ (p : Plan) (q : Probabilities p.events) (cut : Scenario → Bool) where
  -- law: every examined mass is in one of the two sums
  pub lower-connected : connected p cut + lower p cut ≡ mass_examined p
  lower-connected = omega (arith, weighed-split 1 (λ s. digit (not (cut s))) (λ s. digit (cut s)) (λ s. one-or-other (cut s)) (first_ends p))

  -- law: upper + E = lower + 10^18
  pub upper-lower : upper p cut + mass_examined p ≡ lower p cut + whole
  upper-lower = omega (arith, lower-connected, mass_examined-le p q)

  -- law: lower is at most upper, and upper at most 10^18
  pub lower-upper : lower p cut ≤ upper p cut
  lower-upper = omega (arith, lower-connected, mass_examined-le p q)

  pub upper-le : upper p cut ≤ whole
  upper-le = omega arith

  -- DEMAND 3, for every plan whose probabilities are at most 1, whatever its threshold and cap
  pub demand3 : Demand3 (length p.events) (lower p cut) (upper p cut) (exact_cut p cut) (exact_missed p) (count p)
  demand3 =
      record {
        below = omega (arith, held.below);
        above = above_step whole S (lower p cut) (upper p cut) (mass_examined p) (exact_cut p cut) held.above upper-lower;
        gap =
            gap_step
            whole
            S
            (lower p cut)
            (upper p cut)
            (mass_examined p)
            (length p.events)
            (count p)
            (exact_missed p)
            (rw (count-sum p) at held.gap)
            upper-lower;
      }
    where
      S : ℕ
      S = scale (length p.events)

      at_most : (b : Bool) → digit b ≤ 1
      at_most true = omega arith
      at_most false = omega arith

      held : Enclosed whole p.events (first_ends p) 1 (λ s. digit (cut s))
      held = enclosure p.threshold p.cap whole p.events q 1 (λ s. digit (cut s)) (λ s. at_most (cut s))

  -- law: its gap as a difference, which loses nothing since lower is at most upper
  pub demand3-gap : (upper p cut - lower p cut) * scale (length p.events)
      ≤ exact_missed p * whole + length p.events * count p * scale (length p.events)
  demand3-gap = difference-step (scale (length p.events)) (lower p cut) (upper p cut) _ lower-upper demand3.gap
