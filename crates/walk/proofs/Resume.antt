-- A walk begun, and gone on with: what a loop over its relevant scenarios uses.
-- Assumes nothing.
use mathlib.Core.Path.{◌≡◌, refl, ap, sym, ◌∙◌}
use mathlib.Core.Bool.{Bool, true, false}
use mathlib.Core.List.{List, [], ◌∷◌, ◌++◌, append-nil}
use Rattle.std.specs.Prelude.{None, Some}
use Prim.Native.Nat.{ℕ, zero, suc, ◌+◌, ◌≤◌, ◌<◌}
use native.Mathlib.Decide.{dec_le, dec_lt}
use native.Mathlib.Nat.{zero-add, suc-add}
use native.Mathlib.Numerals.{one-add}
use native.Mathlib.Omega.{arith}
use lib.Dec.{ltb, leb}
use lib.ListN.{length, take, drop, replicate, length-append, length-map, length-drop, length-replicate, drop_of_length-le}
use lib.Seq.{take-nil, drop-nil}
use borrow.Author.Tests.{ltb-true, ltb-false, le-leb, lt-leb}
use Rattle.mass.specs.Split.{whole, working}
use Rattle.sets.specs.Sets.{joined, digit}
use Rattle.plan.specs.Plan.{Plan, Event}
use Rattle.plan.specs.Lists.{events_of}
use Rattle.walk.specs.Scenario.{Scenario, scenario_of}
use Rattle.walk.proofs.ScenarioLaws.{scenario-length}
use Rattle.walk.specs.Ends.{End, dropped, relevant, after, ends, ends_after, sum_ends, scenarios}
use Rattle.walk.proofs.EndsLaws.{ends-cut, ends-leaf, ends-node}
use Rattle.walk.proofs.StackLaws.{root_ends, words-run, words-branch, mass-branch}
use Rattle.walk.proofs.Words.{laid-size, laid-words}
use Rattle.walk.specs.Walk.{plan_ends, complete}
use Rattle.walk.specs.Stack.{Begun, SoundBranch, words_ends, stack_ends, to_come, pending_mass, SoundEntry, SoundEntries, Stack}
use Rattle.walk.specs.Steps.{StepTaken}
use Rattle.walk.specs.declared.Examined.{Examined}
use Rattle.walk.specs.declared.WalkStep.{WalkStep}

-- ---- the beginning

-- a stack with one branch alone
pub record Alone (depth mass low high at : ℕ) (stack : List ℕ) : Type 0 where
  pub place : at ≡ 508
  pub only : drop at stack ≡ depth ∷ mass ∷ low ∷ high ∷ []
  pub sized : length stack ≡ 512

pub begun-alone : (at : ℕ) (stack stack' : List ℕ) → length stack ≡ 512 → Begun at stack stack' → Alone 0 whole 0 0 at stack'
begun-alone at stack stack' size b =
    record {
      place = b.place;
      only =
          rw (← drop_of_length-le stack {i = at + 4} (omega (arith, b.place)))
          (laid-words stack stack' at 0 whole 0 0 b.laid size (omega (arith, b.place)));
      sized = laid-size stack stack' at 0 whole 0 0 b.laid size;
    }

module _ (depth mass low high at : ℕ) (stack : List ℕ) (b : Alone depth mass low high at stack) (few : depth ≤ 128) where
  -- a walk that begins at a branch may be gone on with
  pub begun-stack : (count : ℕ) → SoundBranch count depth mass low high 0 → Stack count at stack
  begun-stack count e =
      record {
        fours = rw b.place;
        within = omega (arith, b.place);
        sized = b.sized;
        entries = rw b.only (record { run = λ (z : 128 < depth). absurd (omega arith); branch = λ (z : depth ≤ 128). e }, tt);
      }

  -- its ends are those that follow the branch's path
  pub begun-ends : (count threshold : ℕ) (words : List ℕ)
      → to_come count threshold words at stack ≡ ends_after (scenario_of depth (joined low high)) threshold mass (drop depth (events_of count words))
  begun-ends count threshold words =
      rw (b.only, words-branch threshold (events_of count words) depth mass low high few, append-nil, scenario-length)

  -- its mass is the branch's
  pub begun-mass : pending_mass (drop at stack) ≡ mass
  begun-mass = rw (b.only, mass-branch depth mass few) (omega arith)

-- at the root: the whole walk
pub begun-whole : (at : ℕ) (stack : List ℕ) → Alone 0 whole 0 0 at stack → (count threshold : ℕ) (words : List ℕ)
    → to_come count threshold words at stack ≡ ends threshold whole (events_of count words)
begun-whole at stack b count threshold words =
    rw (b.only, words-branch threshold (events_of count words) 0 whole 0 0 (omega arith), append-nil) (root_ends threshold whole (events_of count words))

pub root-entry : (count : ℕ) → SoundBranch count 0 whole 0 0 0
root-entry count = record { deep = omega arith; light = omega arith; word = omega arith; decided = omega arith; room = omega arith }

-- ---- nothing is to come exactly where the stack is empty, at 512

pub ends_some : (t m : ℕ) (events : List Event) → 0 < length (ends t m events)
ends_some t m [] = step (ltb m t) refl
  where
    step : (b : Bool) → ltb m t ≡ b → 0 < length (ends t m [])
    step true e = rw (ends-cut t m [] (ltb-true m t e)) (omega arith)
    step false e = rw (ends-leaf t m (ltb-false m t e)) (omega arith)
ends_some t m (x ∷ events) = step (ends_some t (working m x.probability) events) (ltb m t) refl
  where
    step : 0 < length (ends t (working m x.probability) events) → (b : Bool) → ltb m t ≡ b → 0 < length (ends t m (x ∷ events))
    step some true e = rw (ends-cut t m (x ∷ events) (ltb-true m t e)) (omega arith)
    step some false e =
        rw (ends-node t m x events (ltb-false m t e), length-append, length-map (ends t (working m x.probability) events) (after (false ∷ [])))
        (omega arith)

entry-some : (count t : ℕ) (events : List Event) (depth mass low high below : ℕ) → SoundEntry count depth mass low high below
    → 0 < length (words_ends t events depth mass low high)
entry-some count t events depth mass low high below laid = step (dec_lt 128 depth)
  where
    step : Dec (128 < depth) → 0 < length (words_ends t events depth mass low high)
    step (yes h) = rw (words-run t events depth mass low high h, length-replicate mass dropped) (laid.run h)
    step (no h) =
        let left : List Event = drop (length (scenario_of depth (joined low high))) events in
        rw (words-branch t events depth mass low high (omega arith), length-map (ends t mass left) (after (scenario_of depth (joined low high))))
        (ends_some t mass left)

stack_some : (count t : ℕ) (events : List Event) (words : List ℕ) → SoundEntries count words → 0 < length words → 0 < length (stack_ends t events words)
stack_some count t events [] e h = absurd (omega arith)
stack_some count t events (a ∷ []) e h = absurd e
stack_some count t events (a ∷ b ∷ []) e h = absurd e
stack_some count t events (a ∷ b ∷ c ∷ []) e h = absurd e
stack_some count t events (a ∷ b ∷ c ∷ d ∷ rest) e h =
    rw (length-append (words_ends t events a b c d) (stack_ends t events rest)) (omega (arith, entry-some count t events a b c d (length rest) e.0))

module _ (count threshold : ℕ) (words : List ℕ) where
  pub none-to-come : (stack : List ℕ) → length stack ≡ 512 → to_come count threshold words 512 stack ≡ []
  none-to-come stack h = rw (drop_of_length-le stack {i = 512} (omega arith))

  pub some-to-come : (at : ℕ) (stack : List ℕ) → Stack count at stack → at < 512 → 0 < length (to_come count threshold words at stack)
  some-to-come at stack s h =
      stack_some count threshold (events_of count words) (drop at stack) s.entries (omega (arith, length-drop at stack, s.sized))

  -- so complete is 1 where the stack is empty after the first cap ends, else 0
  pub complete-at : (p : Plan) (at : ℕ) (stack : List ℕ) → Stack count at stack → drop p.cap (plan_ends p) ≡ to_come count threshold words at stack
      → complete p ≡ digit (leb 512 at)
  complete-at p at stack s e = step (dec_le 512 at)
    where
      step : Dec (512 ≤ at) → complete p ≡ digit (leb 512 at)
      step (yes h) =
          let last : at ≡ 512 = omega (arith, s.within) in
          let nothing : drop p.cap (plan_ends p) ≡ [] = e ∙ ap (λ (i : ℕ). to_come count threshold words i stack) last ∙ none-to-come stack s.sized in
          ap digit (le-leb (length (plan_ends p)) p.cap (omega (arith, length-drop p.cap (plan_ends p), ap length nothing)) ∙ sym (le-leb 512 at h))
      step (no h) =
          let some : 0 < length (drop p.cap (plan_ends p)) = rw e (some-to-come at stack s (omega arith)) in
          ap digit (lt-leb (length (plan_ends p)) p.cap (omega (arith, length-drop p.cap (plan_ends p), some)) ∙ sym (lt-leb 512 at (omega arith)))

-- ---- a step

-- the first ends of a list that begins with dropped ones, and the ends after those
take-run : (n k : ℕ) (list : List End) → take (n + k) (replicate n dropped ++ list) ≡ replicate n dropped ++ take k list
take-run zero k list = rw (zero-add k)
take-run (suc n) k list = rw (suc-add n k) (ap {B = List End} (λ l. dropped ∷ l) (take-run n k list))

drop-run : (n k : ℕ) (list : List End) → drop (n + k) (replicate n dropped ++ list) ≡ drop k list
drop-run zero k list = rw (zero-add k)
drop-run (suc n) k list = rw (suc-add n k) (drop-run n k list)

module _ (count threshold : ℕ) (words : List ℕ) (at : ℕ) (stack : List ℕ) (allowed : ℕ) (stack' : List ℕ) (r : WalkStep)
    (s : StepTaken count threshold words at stack allowed stack' r) where
  -- the ends to come before and after the step
  abbrev before : List End
  before = to_come count threshold words at stack

  abbrev next : List End
  next = to_come count threshold words r.at stack'

  -- no scenario was handed out
  module _ (e : r.found ≡ None) where
    ends-none : before ≡ replicate s.passed dropped ++ next
    ends-none = rw e at s.ends

    counted_none : allowed ≡ s.passed + r.left
    counted_none = rw (e, zero-add) at s.counted

    -- no end is left that may be reached, or none at all
    none-taken : (k : ℕ) → r.left ≡ k → take k next ≡ []
    none-taken zero same = refl
    none-taken (suc k) same = rw (s.ended e (omega arith), take-nil {A = End} (suc k))

    none_dropped : (k : ℕ) → r.left ≡ k → drop k next ≡ next
    none_dropped zero same = refl
    none_dropped (suc k) same = rw (s.ended e (omega arith), drop-nil {A = End} (suc k))

    take_none : take allowed before ≡ replicate s.passed dropped ++ []
    take_none =
        rw (ends-none, counted_none)
        (take-run s.passed r.left next ∙ ap (λ l. replicate s.passed dropped ++ l) (none-taken r.left refl))

    -- law: how many ends are reached
    pub left-none : r.left + length (take allowed before) ≡ allowed
    left-none = rw (take_none, length-append, length-replicate s.passed dropped) (omega (arith, counted_none))

    -- law: the ends after those that may be reached
    pub drop-none : drop allowed before ≡ next
    drop-none = rw (ends-none, counted_none) (drop-run s.passed r.left next ∙ none_dropped r.left refl)

  -- one was
  module _ {x : Examined} (e : r.found ≡ Some x) where
    abbrev scenario : Scenario
    scenario = scenario_of count (joined x.failing.low x.failing.high)

    ends_found : before ≡ replicate s.passed dropped ++ (relevant scenario x.mass ∷ next)
    ends_found = rw e at s.ends

    counted-found : allowed ≡ s.passed + suc r.left
    counted-found = rw (e, one-add) at s.counted

    take_found : take allowed before ≡ replicate s.passed dropped ++ (relevant scenario x.mass ∷ take r.left next)
    take_found = rw (ends_found, counted-found) (take-run s.passed (suc r.left) (relevant scenario x.mass ∷ next))

    -- law: fewer ends may be reached after it
    pub left_less : r.left < allowed
    left_less = omega (arith, counted-found)

    -- law: how many ends are reached
    pub left-found : length (take allowed before) + r.left ≡ allowed + length (take r.left next)
    left-found = rw (take_found, length-append, length-replicate s.passed dropped) (omega (arith, counted-found))

    -- law: the ends after those that may be reached
    pub drop-found : drop allowed before ≡ drop r.left next
    drop-found = rw (ends_found, counted-found) (drop-run s.passed (suc r.left) (relevant scenario x.mass ∷ next))

  -- law: any value of a list of ends that passes over dropped ones
  module _ {A : Type 0} (value : List End → A) (passes : (list : List End) → value (dropped ∷ list) ≡ value list) where
    passes-run : (n : ℕ) (list : List End) → value (replicate n dropped ++ list) ≡ value list
    passes-run zero list = refl
    passes-run (suc n) list = passes (replicate n dropped ++ list) ∙ passes-run n list

    pub value_found : {x : Examined} → r.found ≡ Some x
        → value (take allowed before) ≡ value (relevant (scenario_of count (joined x.failing.low x.failing.high)) x.mass ∷ take r.left next)
    value_found {x} e = rw (take_found e) (passes-run s.passed (relevant (scenario e) x.mass ∷ take r.left next))

    pub value_none : r.found ≡ None → value (take allowed before) ≡ value []
    value_none e = rw (take_none e) (passes-run s.passed [])

  -- sums
  pub sum-found : (f : Scenario → ℕ → ℕ) → {x : Examined} → r.found ≡ Some x
      → sum_ends f (take allowed before) ≡ f (scenario_of count (joined x.failing.low x.failing.high)) x.mass + sum_ends f (take r.left next)
  sum-found f e = value_found (sum_ends f) (λ list. refl) e

  pub sum-none : (f : Scenario → ℕ → ℕ) → r.found ≡ None → sum_ends f (take allowed before) ≡ 0
  sum-none f = value_none (sum_ends f) (λ list. refl)

  -- scenarios
  pub scenarios-found : {x : Examined} → r.found ≡ Some x
      → scenarios (take allowed before) ≡ scenario_of count (joined x.failing.low x.failing.high) ∷ scenarios (take r.left next)
  scenarios-found e = value_found scenarios (λ list. refl) e

  pub scenarios-none : r.found ≡ None → scenarios (take allowed before) ≡ []
  scenarios-none = value_none scenarios (λ list. refl)
