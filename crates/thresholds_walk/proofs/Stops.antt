-- Where the "works" path of a branch stops for two thresholds, and the ends of a branch from which no "fails" side is pending.
-- Assumes nothing.
use mathlib.Core.Path.{◌≡◌, ap, sym, ◌∙◌}
use mathlib.Core.Bool.{false}
use mathlib.Core.List.{List, [], ◌∷◌, ◌++◌}
use Prim.Native.Nat.{ℕ, suc, ◌+◌, ◌-◌, ◌*◌, ◌^◌, ◌≤◌, ◌<◌}
use native.Mathlib.Decide.{dec_lt}
use native.Mathlib.Omega.{arith}
use borrow.Author.Tests.{le-leb, lt-leb, lt-ltb, le-ltb}
use lib.Dec.{leb}
use lib.ListN.{length, get_or, drop, replicate, drop_of_length-le}
use Rattle.mass.specs.Split.{certain, working}
use Rattle.mass.proofs.Theorems.{works-le}
use Rattle.sets.specs.Sets.{joined}
use Rattle.plan.specs.Plan.{Event}
use Rattle.plan.specs.Lists.{events_of}
use Rattle.plan.specs.Held.{Falling, Probabilities}
use Rattle.walk.specs.Scenario.{Scenario, scenario_of}
use Rattle.walk.specs.Ends.{dropped, after, ends}
use Rattle.walk.specs.Pending.{Branch, branch_ends}
use Rattle.walk.specs.Stack.{branch_of}
use Rattle.walk.specs.Steps.{Stopped, end_of}
use Rattle.walk.specs.WorksPath.{path_steps, path_mass, path_end}
use Rattle.walk.specs.declared.Stop.{Stop}
use Rattle.walk.proofs.ScenarioLaws.{falling-probable, probable-drop, scenario-length, scenario-works}
use Rattle.walk.proofs.EndsLaws.{ends-cut, ends-leaf}
use Rattle.walk.proofs.StackLaws.{path_end-cut, path_end-enough, path-last, path-cut, path-on}
use Rattle.walk.proofs.Branches.{events-length}
use Rattle.walk.proofs.Dropped.{run-after, works-path}
use Rattle.walk.proofs.Descents.{left_at, probable, falls-on}
use Rattle.thresholds_walk.specs.Stack.{entry_ends}
use Rattle.thresholds_walk.specs.Paths.{FailsBelow}

-- ---- two thresholds, the lower one s

path-le : (t m : ℕ) (events : List Event) → Probabilities events → path_mass t m events ≤ m
path-le t m [] p = omega (arith, (path-last t m).1)
path-le t m (e ∷ events) p = step (path-le t (working m e.probability) events p.1) (dec_lt m t)
  where
    step : path_mass t (working m e.probability) events ≤ working m e.probability → Dec (m < t) → path_mass t m (e ∷ events) ≤ m
    step below (yes c) = omega (arith, (path-cut t m (e ∷ events) c).1)
    step below (no c) = omega (arith, (path-on t m e events (omega arith)).1, works-le m e.probability p.0)

-- law: a path that ends with a mass of at least the higher one is the same path for both
pub path-shared : (s t m : ℕ) (events : List Event) → Probabilities events → s ≤ t → t ≤ path_mass s m events
    → (path_steps t m events ≡ path_steps s m events) × (path_mass t m events ≡ path_mass s m events)
path-shared s t m [] p l h = ((path-last t m).0 ∙ sym (path-last s m).0, (path-last t m).1 ∙ sym (path-last s m).1)
path-shared s t m (e ∷ events) p l h = step (path-shared s t (working m e.probability) events p.1 l) (dec_lt m t)
  where
    works : ℕ
    works = working m e.probability

    step : (t ≤ path_mass s works events → (path_steps t works events ≡ path_steps s works events) × (path_mass t works events ≡ path_mass s works events))
        → Dec (m < t) → (path_steps t m (e ∷ events) ≡ path_steps s m (e ∷ events)) × (path_mass t m (e ∷ events) ≡ path_mass s m (e ∷ events))
    step below (yes c) = absurd (omega (arith, path-le s m (e ∷ events) p))
    step below (no c) =
        let a = path-on t m e events (omega arith) in
        let b = path-on s m e events (omega arith) in
        let both = below (omega (arith, b.1)) in
        (a.0 ∙ ap suc both.0 ∙ sym b.0, a.1 ∙ both.1 ∙ sym b.1)

-- law: one that ends below the higher one ends below it for that one too
pub path-below : (s t m : ℕ) (events : List Event) → s ≤ t → path_mass s m events < t → path_mass t m events < t
path-below s t m [] l h = omega (arith, (path-last t m).1, (path-last s m).1)
path-below s t m (e ∷ events) l h = step (path-below s t (working m e.probability) events l) (dec_lt m t)
  where
    step : (path_mass s (working m e.probability) events < t → path_mass t (working m e.probability) events < t)
        → Dec (m < t) → path_mass t m (e ∷ events) < t
    step below (yes c) = omega (arith, (path-cut t m (e ∷ events) c).1)
    step below (no c) =
        let a = path-on t m e events (omega arith) in
        let b = path-on s m e events (omega arith) in
        omega (arith, a.1, below (omega (arith, b.1)))

-- ---- the ends of a branch

module _ (parent t : ℕ) (events : List Event) (b : Branch) where
  -- law: the two cases of an entry
  pub entry-none : parent < t → entry_ends t events parent b ≡ []
  unfolding entry_ends
  entry-none h = rw (lt-ltb parent t h, entry_ends)

  pub entry-some : t ≤ parent → entry_ends t events parent b ≡ branch_ends t events b
  unfolding entry_ends
  entry-some h = rw (le-ltb parent t h, entry_ends)

-- law: a branch below the threshold is one dropped end
pub branch-cut : (t : ℕ) (events : List Event) (b : Branch) → b.mass < t → branch_ends t events b ≡ dropped ∷ []
branch-cut t events b h = rw (ends-cut t b.mass (drop (length b.path) events) h)

module _ (count : ℕ) (words : List ℕ) (falls : Falling certain (events_of count words)) where
  pub probables : (depth : ℕ) → Probabilities (drop depth (events_of count words))
  probables depth = probable-drop depth (events_of count words) (falling-probable certain (events_of count words) (omega arith) falls)

  module _ (t depth mass low high : ℕ) (deep : depth ≤ count) (decided : joined low high < 2 ^ depth) (enough : t ≤ mass)
      (fails-below : FailsBelow count t words depth mass) (s : Stop) (stopped : Stopped count t words depth mass s) where
    abbrev path : Scenario
    path = scenario_of depth (joined low high)

    steps : s.depth - depth ≡ path_steps t mass (drop depth (events_of count words))
    steps = omega (arith, stopped.steps)

    ends-are : ends t mass (drop depth (events_of count words)) ≡ path_end t s.mass (count - depth) ∷ replicate (s.depth - depth) dropped
    ends-are = step (dec_lt depth count)
      where
        step : Dec (depth < count) → ends t mass (drop depth (events_of count words)) ≡ path_end t s.mass (count - depth) ∷ replicate (s.depth - depth) dropped
        step (yes l) =
            rw (← left_at count words depth, stopped.stops, steps)
            (works-path t (get_or words (depth * 4) 0) mass (drop depth (events_of count words)) (probable count words falls depth l) (falls-on count words falls depth l) (fails-below enough l))
        step (no l) =
            let over : drop depth (events_of count words) ≡ [] = drop_of_length-le (events_of count words) {i = depth} (omega (arith, events-length count words)) in
            let here : s.mass ≡ mass = stopped.stops ∙ ap (path_mass t mass) over ∙ (path-last t mass).1 in
            let none : s.depth - depth ≡ 0 = steps ∙ ap (path_steps t mass) over ∙ (path-last t mass).0 in
            let nothing : count - depth ≡ 0 = omega arith in
            rw (over, here, none, nothing, ends-leaf t mass enough, path_end-enough t mass 0 enough)

    whole-path : path ++ replicate (count - depth) false ≡ scenario_of count (joined low high)
    whole-path =
        let all : depth + (count - depth) ≡ count = omega arith in
        rw all at (sym (scenario-works depth (count - depth) (joined low high) decided))

    end_is : after path (path_end t s.mass (count - depth)) ≡ end_of count (leb t s.mass) s.mass low high
    end_is = step (dec_lt s.mass t)
      where
        step : Dec (s.mass < t) → after path (path_end t s.mass (count - depth)) ≡ end_of count (leb t s.mass) s.mass low high
        step (yes c) = rw (path_end-cut t s.mass (count - depth) c, lt-leb t s.mass c)
        step (no c) = rw (path_end-enough t s.mass (count - depth) (omega arith), le-leb t s.mass (omega arith), whole-path)

    -- law: a branch from which no "fails" side is pending is the end of its path, then one dropped end for each event that the path decides
    pub branch-path : branch_ends t (events_of count words) (branch_of depth mass low high)
        ≡ end_of count (leb t s.mass) s.mass low high ∷ replicate (s.depth - depth) dropped
    branch-path = rw (scenario-length depth (joined low high), ends-are, run-after path (s.depth - depth), end_is)
