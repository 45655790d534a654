-- The search for a witness over the relevant scenarios of the walk.
-- Assumes nothing.
use Rattle.std.specs.Prelude.{Some, None}
use mathlib.Core.Path.{◌≡◌, refl, sym, ap, ap₂, ◌∙◌}
use mathlib.Core.Bool.{true, false}
use mathlib.Core.List.{List, [], ◌∷◌}
use Prim.Native.Nat.{ℕ, ◌/◌, ◌%◌, ◌^◌, ◌<◌}
use lib.Pow.{low, high}
use Rattle.sets.specs.Sets.{joined}
use Rattle.plan.specs.Plan.{Plan}
use Rattle.plan.specs.Lists.{links_of, events_of}
use Rattle.plan.specs.LentLists.{plan_of_lists}
use Rattle.plan.specs.declared.Header.{Header}
use Rattle.network.specs.Outage.{Outage, intact, outage_of}
use Rattle.network.specs.Topology.{network_of}
use Rattle.topology.specs.Paths.{disconnected}
use Rattle.network.specs.Code.{outage, network_in}
use Rattle.network.specs.declared.Failed.{Failed}
use Rattle.walk.specs.Scenario.{Scenario, scenario_of, failing_set}
use Rattle.walk.proofs.ScenarioLaws.{failing-scenario}
use Rattle.walk.specs.Steps.{StepTaken}
use Rattle.walk.specs.declared.Examined.{Examined}
use Rattle.walk.specs.declared.WalkStep.{WalkStep}
use Rattle.walk.proofs.Resume.{scenarios-found, scenarios-none}
use Rattle.bounds.specs.Bounds.{cuts}
use Rattle.readings.specs.Witness.{some, failing_of}
use Rattle.readings.specs.Search.{found, reached_scenarios, searched, Seeking}
use Rattle.readings.proofs.FirstLaws.{some-here, some-passed, first-here, first-passed}

-- what the code finds out of a scenario's topology
pub cut-is : (h : Header) (links words : List ℕ) (low high : ℕ) → joined low high < 2 ^ h.events → (failed : Failed)
    → outage failed ≡ outage_of intact (events_of h.events words) (joined low high) → (v w : ℕ)
    → disconnected (network_in h.nodes failed links h.links) v w ≡ cuts intact (plan_of_lists h links words) v w (scenario_of h.events (joined low high))
unfolding plan_of_lists
cut-is h links words low high decided failed gathered v w =
    ap (λ (o : Outage). disconnected (network_of h.nodes (links_of h.links links) o) v w)
    (gathered ∙ ap (outage_of intact (events_of h.events words)) (sym (failing-scenario h.events (joined low high) decided)))

-- ---- a search of a list of scenarios

-- the two words that a step hands out are those of its scenario
words_of : (lo hi : ℕ) → lo < 2 ^ 64 → (s : Scenario) → joined lo hi ≡ failing_set s → (record { low = lo; high = hi }) ≡ failing_of s
words_of lo hi fits s e = λ i. record { low = below i; high = above i }
  where
    below : lo ≡ failing_set s % 2 ^ 64
    below = sym (low hi 64 fits) ∙ ap (λ (k : ℕ). k % 2 ^ 64) e

    above : hi ≡ failing_set s / 2 ^ 64
    above = sym (high hi 64 fits) ∙ ap (λ (k : ℕ). k / 2 ^ 64) e

module _ (p : Plan) (v w : ℕ) where
  -- of no scenario
  nothing : None ≡ searched intact p v w []
  unfolding some
  nothing = refl

  module _ (here : Scenario) (later : List Scenario) where
    -- the first one disconnects the pair
    first-cuts : cuts intact p v w here ≡ true → Some (failing_of here) ≡ searched intact p v w (here ∷ later)
    first-cuts c =
        sym
        (ap₂
        found
        (some-here (cuts intact p v w) here later c)
        (first-here (cuts intact p v w) here later c))

    -- it does not: the answer is that of a search of the others
    first-joins : cuts intact p v w here ≡ false → searched intact p v w later ≡ searched intact p v w (here ∷ later)
    first-joins c =
        sym
        (ap₂
        found
        (some-passed (cuts intact p v w) here later c)
        (first-passed (cuts intact p v w) here later c))

-- ---- the loop: what a search of what is left answers, a search of the whole answers

pub record Seek (h : Header) (links words : List ℕ) (at₀ : ℕ) (stack₀ : List ℕ) (v w k : ℕ) (stack : List ℕ) (at left : ℕ) : Type 0 where
  pub seeking : Seeking h links words at stack v w
  pub answers : searched intact (plan_of_lists h links words) v w (reached_scenarios h words at stack left)
      ≡ searched intact (plan_of_lists h links words) v w (reached_scenarios h words at₀ stack₀ k)

module _ (h : Header) (links words : List ℕ) (at₀ : ℕ) (stack₀ : List ℕ) (v w k : ℕ) (stack : List ℕ) (at left : ℕ)
    (g : Seek h links words at₀ stack₀ v w k stack at left)
    (stack' : List ℕ) (r : WalkStep) (s : StepTaken h.events h.threshold words at stack left stack' r) where
  abbrev p : Plan
  p = plan_of_lists h links words

  abbrev all : List Scenario
  all = reached_scenarios h words at₀ stack₀ k

  abbrev later : List Scenario
  later = reached_scenarios h words r.at stack' r.left

  -- no scenario is left
  pub ended : r.found ≡ None → None ≡ searched intact p v w all
  ended e = nothing p v w ∙ ap (searched intact p v w) (sym (scenarios-none h.events h.threshold words at stack left stack' r s e)) ∙ g.answers

  -- one is
  module _ {x : Examined} (e : r.found ≡ Some x) where
    abbrev here : Scenario
    here = scenario_of h.events (joined x.failing.low x.failing.high)

    from_first : searched intact p v w (here ∷ later) ≡ searched intact p v w all
    from_first = ap (searched intact p v w) (sym (scenarios-found h.events h.threshold words at stack left stack' r s e)) ∙ g.answers

    decided : joined x.failing.low x.failing.high < 2 ^ h.events
    decided = s.decided x e

    pub found_here : cuts intact p v w here ≡ true → x.failing.low < 2 ^ 64 → Some x.failing ≡ searched intact p v w all
    found_here c fits =
        ap Some (words_of x.failing.low x.failing.high fits here (sym (failing-scenario h.events (joined x.failing.low x.failing.high) decided)))
        ∙ first-cuts p v w here later c
        ∙ from_first

    pub turned : cuts intact p v w here ≡ false → Seek h links words at₀ stack₀ v w k stack' r.at r.left
    turned c =
        record {
          seeking = record { held = g.seeking.held; stacked = s.held; inside = g.seeking.inside };
          answers = first-joins p v w here later c ∙ from_first;
        }
