-- The mass of the pending branches covers the ends to come.
-- Assumes nothing.
use mathlib.Core.Path.{◌≡◌, refl}
use mathlib.Core.List.{List, [], ◌∷◌}
use Prim.Native.Nat.{ℕ, zero, suc, ◌-◌, ◌≤◌, ◌<◌}
use native.Mathlib.Decide.{dec_lt}
use native.Mathlib.Omega.{arith}
use lib.ListN.{length, take, drop, replicate}
use lib.Seq.{take-nil}
use Rattle.sets.specs.Sets.{joined}
use Rattle.plan.specs.Plan.{Event}
use Rattle.plan.specs.Lists.{events_of}
use Rattle.plan.specs.Held.{Probabilities}
use Rattle.walk.specs.Scenario.{Scenario, scenario_of}
use Rattle.walk.specs.Ends.{End, dropped, after, ends, sum_ends}
use Rattle.walk.specs.Stack.{words_ends, stack_ends, entry_mass, pending_mass}
use Rattle.walk.proofs.ScenarioLaws.{probable-drop}
use Rattle.walk.proofs.EndsLaws.{sum_ends-append, sum_ends-after, take-append, take-map}
use Rattle.walk.proofs.StackLaws.{words-run, words-branch, mass-branch}
use Rattle.walk.proofs.Laws.{masses-le}

-- dropped ends have no mass
run_none : (k n : ℕ) → sum_ends (λ s m. m) (take k (replicate n dropped)) ≡ 0
run_none zero n = refl
run_none (suc k) zero = refl
run_none (suc k) (suc n) = run_none k n

module _ (count threshold : ℕ) (words : List ℕ) where
  abbrev events : List Event
  events = events_of count words

  -- the first k ends of one entry
  entry-covers : (depth mass low high : ℕ) → Probabilities events → (k : ℕ)
      → sum_ends (λ s m. m) (take k (words_ends threshold events depth mass low high)) ≤ entry_mass depth mass
  entry-covers depth mass low high p k = step (dec_lt 128 depth)
    where
      path : Scenario
      path = scenario_of depth (joined low high)

      step : Dec (128 < depth) → sum_ends (λ s m. m) (take k (words_ends threshold events depth mass low high)) ≤ entry_mass depth mass
      step (yes h) = rw (words-run threshold events depth mass low high h) (omega (arith, run_none k mass))
      step (no h) =
          let left : List Event = drop (length path) events in
          rw (
            words-branch threshold events depth mass low high (omega arith),
            mass-branch depth mass (omega arith),
            take-map (after path) k (ends threshold mass left),
            sum_ends-after (λ s m. m) path (take k (ends threshold mass left)),
          )
          (masses-le threshold k mass left (probable-drop (length path) events p))

  -- law: the masses of the first k ends that a list of words stands for sum to at most the mass of its pending branches
  pub pending-covers : (list : List ℕ) → Probabilities events → (k : ℕ)
      → sum_ends (λ s m. m) (take k (stack_ends threshold events list)) ≤ pending_mass list
  pending-covers [] p k = rw (take-nil {A = End} k) (omega arith)
  pending-covers (a ∷ []) p k = rw (take-nil {A = End} k) (omega arith)
  pending-covers (a ∷ b ∷ []) p k = rw (take-nil {A = End} k) (omega arith)
  pending-covers (a ∷ b ∷ c ∷ []) p k = rw (take-nil {A = End} k) (omega arith)
  pending-covers (depth ∷ mass ∷ low ∷ high ∷ rest) p k =
      let initial : List End = words_ends threshold events depth mass low high in
      let later : List End = stack_ends threshold events rest in
      rw (take-append k initial later, sum_ends-append (λ s m. m) (take k initial) (take (k - length initial) later))
      (omega (arith, entry-covers depth mass low high p k, pending-covers rest p (k - length initial)))
