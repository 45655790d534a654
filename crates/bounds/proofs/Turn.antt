-- One turn of the loop over the relevant scenarios of the walk.
-- Assumes nothing.
use mathlib.Core.Path.{◌≡◌, sym, ◌∙◌}
use mathlib.Core.List.{List}
use Rattle.std.specs.Prelude.{None, Some}
use Prim.Native.Nat.{ℕ, ◌+◌, ◌*◌, ◌≤◌, ◌<◌}
use native.Mathlib.Omega.{arith}
use Rattle.mass.specs.Split.{whole}
use Rattle.sets.specs.Sets.{joined, digit}
use Rattle.plan.specs.LentLists.{plan_of_lists}
use Rattle.walk.specs.Scenario.{Scenario, scenario_of}
use Rattle.walk.specs.Ends.{sum_ends}
use Rattle.walk.specs.Steps.{StepTaken}
use Rattle.walk.specs.declared.Examined.{Examined}
use Rattle.walk.specs.declared.WalkStep.{WalkStep}
use Rattle.walk.proofs.Resume.{left_less, left-found, left-none, drop-found, drop-none, sum-found, sum-none}
use Rattle.bounds.specs.Bounds.{cuts}
use Rattle.bounds.specs.Tallied.{Room, MassAdded, WalkedPlan, RunState, run_state, reached, Ready, Tallied}

-- in the loop: what it promises from here on gives what it promises from the start
pub record Turn (p : WalkedPlan) (start here : RunState) : Type 0 where
  pub ready : Ready p.header p.links p.words here
  pub goes : (r : RunState) → Tallied p here r → Tallied p start r

-- a step of the walk
module _ (p : WalkedPlan) (start here : RunState) (g : Turn p start here) (stack' : List ℕ) (step : WalkStep)
    (s : StepTaken p.header.events p.header.threshold p.words here.sums.at here.stack here.sums.left stack' step) where
  ready : Ready p.header p.links p.words here
  ready = g.ready

  -- no relevant scenario is left
  none : (f : Scenario → ℕ → ℕ) → step.found ≡ None → sum_ends f (reached p.header p.words here) ≡ 0
  none = sum-none _ _ _ _ _ _ _ _ s

  pub stopped : step.found ≡ None
      → Tallied p start
      (run_state stack' here.lower (record { at = step.at; left = step.left; count = here.sums.count; mass = here.sums.mass }))
  stopped e =
      g.goes _
      (record {
        counts = omega (arith, none (λ s m. 1) e);
        masses = omega (arith, none (λ s m. m) e);
        entries = λ v w l k. omega (arith, none (λ s m. m * digit (cuts p.out (plan_of_lists p.header p.links p.words) v w s)) e);
        below = ready.below;
        left = left-none _ _ _ _ _ _ _ _ s e;
        rest = sym (drop-none _ _ _ _ _ _ _ _ s e);
        stacked = s.held;
        sized = ready.sized;
        lighter = omega (arith, rw e at s.lighter);
      })

  -- one is handed out
  module _ {x : Examined} (e : step.found ≡ Some x) where
    abbrev scenario : Scenario
    scenario = scenario_of p.header.events (joined x.failing.low x.failing.high)

    -- then the loop is in this state, with the entries that it leaves
    abbrev next : List ℕ → RunState
    next lower = run_state stack' lower (record { at = step.at; left = step.left; count = here.sums.count + 1; mass = here.sums.mass + x.mass })

    one : (lower : List ℕ) (f : Scenario → ℕ → ℕ) → sum_ends f (reached p.header p.words here)
        ≡ f scenario x.mass + sum_ends f (reached p.header p.words (next lower))
    one lower f = sum-found _ _ _ _ _ _ _ _ s f e

    less : step.left < here.sums.left
    less = left_less _ _ _ _ _ _ _ _ s e

    mass-fits : here.sums.mass + x.mass ≤ whole
    mass-fits = omega (arith, ready.fits, one here.lower (λ s m. m))

    pub room : Room x.mass here.lower
    room = record { sized = ready.sized; fits = λ i. omega (arith, ready.below i, mass-fits) }

    module _ (lower' : List ℕ)
        (added :
        MassAdded p.header.nodes (λ v w. cuts p.out (plan_of_lists p.header p.links p.words) v w scenario) x.mass here.lower
        lower') where
      ready-next : Ready p.header p.links p.words (next lower')
      ready-next =
          record {
            held = ready.held;
            stacked = s.held;
            sized = added.sized;
            below = λ i. omega (arith, added.most i, ready.below i);
            fits = omega (arith, ready.fits, one lower' (λ s m. m));
            counted = omega (arith, ready.counted, less);
          }

      from_next : (r : RunState) → Tallied p (next lower') r → Tallied p here r
      from_next r t =
          record {
            counts = omega (arith, t.counts, one lower' (λ s m. 1));
            masses = omega (arith, t.masses, one lower' (λ s m. m));
            entries =
                λ v w l k.
                omega (
                  arith,
                  t.entries v w l k,
                  added.each v w l k,
                  one lower' (λ s m. m * digit (cuts p.out (plan_of_lists p.header p.links p.words) v w s)),
                );
            below = t.below;
            left = omega (arith, t.left, left-found _ _ _ _ _ _ _ _ s e);
            rest = t.rest ∙ sym (drop-found _ _ _ _ _ _ _ _ s e);
            stacked = t.stacked;
            sized = t.sized;
            lighter = omega (arith, t.lighter, rw e at s.lighter);
          }

      pub turned : Turn p start (next lower')
      turned = record { ready = ready-next; goes = λ r t. g.goes r (from_next r t) }
