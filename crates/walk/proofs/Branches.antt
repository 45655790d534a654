-- The events of a plan in words, and the two branches at an event in words.
-- Assumes nothing.
use mathlib.Core.Path.{◌≡◌, refl, ap, ap₂, sym, ◌∙◌}
use mathlib.Core.Bool.{true, false}
use mathlib.Core.List.{List, [], ◌∷◌, ◌++◌}
use Prim.Native.Nat.{ℕ, zero, suc, ◌+◌, ◌*◌, ◌^◌, ◌≤◌, ◌<◌}
use native.Mathlib.Numerals.{add-one}
use native.Mathlib.Omega.{arith}
use lib.ListN.{length, get_or, drop}
use lib.Seq.{get_or-drop}
use Rattle.mass.specs.Split.{certain, failing, working}
use Rattle.sets.specs.Sets.{joined}
use Rattle.plan.specs.Plan.{Event}
use Rattle.plan.specs.Lists.{events_of}
use Rattle.walk.specs.Scenario.{Scenario, scenario_of}
use Rattle.walk.proofs.ScenarioLaws.{scenario-next}
use Rattle.plan.specs.Held.{Probabilities}
use Rattle.walk.specs.Pending.{branch}
use Rattle.walk.specs.Stack.{branch_of}

-- the events that a list of words denotes
pub events-length : (count : ℕ) (words : List ℕ) → length (events_of count words) ≡ count
unfolding events_of
events-length zero words = refl
events-length (suc count) words = ap suc (events-length count (drop 4 words))

pub events-probability : (count : ℕ) (words : List ℕ) (i : ℕ) (none : Event) → i < count
    → (get_or (events_of count words) i none).probability ≡ get_or words (i * 4) 0
unfolding events_of
events-probability zero words i none h = absurd (omega arith)
events-probability (suc count) words zero none h = refl
events-probability (suc count) words (suc i) none h =
    events-probability count (drop 4 words) i none (omega arith) ∙ get_or-drop 4 words (i * 4) 0 ∙ ap (λ (n : ℕ). get_or words n 0) further
  where
    further : 4 + i * 4 ≡ suc i * 4
    further = omega arith

pub probability-le : (count : ℕ) (words : List ℕ) (i : ℕ) → Probabilities (events_of count words) → i < count → get_or words (i * 4) 0 ≤ certain
unfolding events_of
probability-le zero words i p h = absurd (omega arith)
probability-le (suc count) words zero p h = p.0
probability-le (suc count) words (suc i) p h =
    rw (further, ← get_or-drop 4 words (i * 4) 0) (probability-le count (drop 4 words) i p.1 (omega arith))
  where
    further : suc i * 4 ≡ 4 + i * 4
    further = omega arith

-- the two branches at the next event, in words
pub next-works : (depth mass low high q : ℕ) → joined low high < 2 ^ depth
    → branch (branch_of depth mass low high) q false ≡ branch_of (depth + 1) (working mass q) low high
next-works depth mass low high q h = ap (λ (s : Scenario). record { path = s; mass = working mass q }) same
  where
    same : scenario_of depth (joined low high) ++ (false ∷ []) ≡ scenario_of (depth + 1) (joined low high)
    same = sym (scenario-next depth (joined low high) false h) ∙ ap₂ scenario_of (sym (add-one depth)) same_set
      where
        same_set : joined low high + 2 ^ depth * 0 ≡ joined low high
        same_set = omega arith

pub next-fails : (depth mass low high q low' high' : ℕ) → joined low high < 2 ^ depth → joined low' high' ≡ joined low high + 2 ^ depth
    → branch (branch_of depth mass low high) q true ≡ branch_of (depth + 1) (failing mass q) low' high'
next-fails depth mass low high q low' high' h e = ap (λ (s : Scenario). record { path = s; mass = failing mass q }) same
  where
    same : scenario_of depth (joined low high) ++ (true ∷ []) ≡ scenario_of (depth + 1) (joined low' high')
    same = sym (scenario-next depth (joined low high) true h) ∙ ap₂ scenario_of (sym (add-one depth)) same_set
      where
        same_set : joined low high + 2 ^ depth * 1 ≡ joined low' high'
        same_set = omega arith
