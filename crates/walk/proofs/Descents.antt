-- From a branch in hand down to its first end, as laws of the stack's words.
-- Assumes nothing.
use mathlib.Core.Path.{◌≡◌, refl, ap, ap₂, sym, ◌∙◌}
use mathlib.Core.Bool.{true, false}
use mathlib.Core.List.{List, [], ◌∷◌, ◌++◌, append_assoc}
use Prim.Native.Nat.{ℕ, suc, ◌+◌, ◌-◌, ◌*◌, ◌^◌, ◌≤◌, ◌<◌}
use native.Mathlib.Decide.{dec_lt}
use native.Mathlib.Nat.{pow-succ'}
use native.Mathlib.Numerals.{add-one}
use native.Mathlib.Omega.{arith}
use lib.ListN.{length, get_or, drop, replicate, length-drop, drop_of_length-le}
use lib.Pow.{pow_mono}
use lib.Seq.{sets, drop-cons}
use Rattle.std.specs.Prelude.{Option, None, Some}
use Rattle.std.specs.Option.{SomeIff}
use Rattle.std.proofs.lemmas.Option.{none-some, same_Some}
use Rattle.mass.specs.Split.{certain, whole, failing, working}
use Rattle.mass.proofs.Theorems.{parts-le, fails-le, works-le}
use Rattle.sets.specs.Sets.{joined}
use Rattle.plan.specs.Plan.{Event}
use Rattle.plan.specs.Lists.{events_of}
use Rattle.walk.specs.Scenario.{Scenario, scenario_of}
use Rattle.walk.proofs.ScenarioLaws.{falling-probable, falling-drop, scenario-length, scenario-works}
use Rattle.plan.specs.Held.{Falling}
use Rattle.walk.specs.Ends.{End, dropped, after, ends}
use Rattle.walk.proofs.EndsLaws.{ends-cut, ends-leaf}
use Rattle.walk.specs.Pending.{Branch, branch, branch_ends}
use Rattle.walk.proofs.StackLaws.{branch-node, path_end-cut, path_end-enough, path-last, path-cut, path-on, words-run, words-branch}
use Rattle.walk.proofs.StackLaws.{mass-run, mass-branch}
use Rattle.walk.specs.WorksPath.{path_steps, path_mass, path_end}
use Rattle.walk.specs.Stack.{branch_of, SoundBranch, to_come, pending_mass, SoundEntry, SoundEntries, Stack}
use Rattle.walk.specs.Steps.{Stopped, Pushed, Delayed, Descended}
use Rattle.walk.specs.declared.Examined.{Examined}
use Rattle.walk.specs.declared.Failing.{Failing}
use Rattle.walk.specs.declared.Stop.{Stop}
use Rattle.walk.proofs.Branches.{events-length, events-probability, probability-le, next-works, next-fails}
use Rattle.walk.proofs.Dropped.{run-after, works-path}
use Rattle.walk.proofs.Words.{words-at, laid-size, laid-words}

pub none : Event
none = record { probability = 0; nodes = 0; links = 0 }

-- the events that are left at a depth
pub left_at : (count : ℕ) (words : List ℕ) (depth : ℕ) → length (drop depth (events_of count words)) ≡ count - depth
left_at count words depth = omega (arith, length-drop depth (events_of count words), events-length count words)

-- the end of a descent that stops at a mass
abbrev pub StopsAs : ℕ → ℕ → Failing → Option Examined → Type 0
StopsAs threshold mass f end = SomeIff end (threshold ≤ mass) (record { mass = mass; failing = f })

-- on a "works" path: it stops where it stops from the start, and the mass is not above that at the start
pub record OnPath (count threshold : ℕ) (words : List ℕ) (depth₀ mass₀ depth mass : ℕ) : Type 0 where
  pub steps : depth₀ + path_steps threshold mass₀ (drop depth₀ (events_of count words)) ≡ depth + path_steps threshold mass (drop depth (events_of count words))
  pub stops : path_mass threshold mass₀ (drop depth₀ (events_of count words)) ≡ path_mass threshold mass (drop depth (events_of count words))
  pub within : depth ≤ count
  pub light : mass ≤ whole
  pub lighter : mass ≤ mass₀

pub path-begun : (count threshold : ℕ) (words : List ℕ) (depth mass mass' : ℕ) → mass' ≡ mass → depth ≤ count → mass ≤ whole
    → OnPath count threshold words depth mass depth mass'
path-begun count threshold words depth mass mass' e h l = rw e (record { steps = refl; stops = refl; within = h; light = l; lighter = omega arith })

module _ (count : ℕ) (words : List ℕ) (falls : Falling certain (events_of count words)) where
  -- the event at a depth: its probability, and that later ones fall from it
  pub probable : (depth : ℕ) → depth < count → get_or words (depth * 4) 0 ≤ certain
  probable depth l = probability-le count words depth (falling-probable certain (events_of count words) (omega arith) falls) l

  pub falls-on : (depth : ℕ) → depth < count → Falling (get_or words (depth * 4) 0) (drop depth (events_of count words))
  falls-on depth l =
      rw (events-probability count words depth none l) at (falling-drop certain (events_of count words) depth none falls (omega (arith, events-length count words)))

  module _ (threshold depth₀ mass₀ depth mass : ℕ) (on : OnPath count threshold words depth₀ mass₀ depth mass) where
    pub path-stopped : mass < threshold → Stopped count threshold words depth₀ mass₀ (record { depth = depth; mass = mass })
    path-stopped h =
        let s = path-cut threshold mass (drop depth (events_of count words)) h in
        record {
          steps = omega (arith, on.steps, s.0);
          stops = omega (arith, on.stops, s.1);
          within = on.within;
          light = on.light;
          lighter = on.lighter;
        }

    pub path-ended : count ≤ depth → Stopped count threshold words depth₀ mass₀ (record { depth = count; mass = mass })
    path-ended h =
        record {
          steps = omega (arith, on.steps, ap (path_steps threshold mass) over, (path-last threshold mass).0);
          stops = omega (arith, on.stops, ap (path_mass threshold mass) over, (path-last threshold mass).1);
          within = omega arith;
          light = on.light;
          lighter = on.lighter;
        }
      where
        over : drop depth (events_of count words) ≡ []
        over = drop_of_length-le (events_of count words) {i = depth} (omega (arith, events-length count words))

    pub path-further : threshold ≤ mass → depth < count → (mass' : ℕ) → mass' ≡ working mass (get_or words (depth * 4) 0) → OnPath count threshold words depth₀ mass₀ (depth + 1) mass'
    path-further h l mass' e =
        record {
          steps = omega (arith, on.steps, rw same at s.0, add-one depth, ap (λ (n : ℕ). path_steps threshold mass' (drop n events)) (add-one depth));
          stops = on.stops ∙ rw same at s.1 ∙ ap (λ (n : ℕ). path_mass threshold mass' (drop n events)) (sym (add-one depth));
          within = omega arith;
          light = omega (arith, on.light, less);
          lighter = omega (arith, on.lighter, less);
        }
      where
        events : List Event
        events = events_of count words

        less : mass' ≤ mass
        less = omega (arith, e, works-le mass (get_or words (depth * 4) 0) (probable depth l))

        same : working mass (get_or events depth none).probability ≡ mass'
        same = ap (working mass) (events-probability count words depth none l) ∙ sym e

        s : (path_steps threshold mass (drop depth events) ≡ suc (path_steps threshold (working mass (get_or events depth none).probability) (drop (suc depth) events)))
            × (path_mass threshold mass (drop depth events) ≡ path_mass threshold (working mass (get_or events depth none).probability) (drop (suc depth) events))
        s = rw (drop-cons events depth none (omega (arith, events-length count words))) (path-on threshold mass (get_or events depth none) (drop (suc depth) events) h)

-- a branch is its two parts at the next event, in words: its "works" side, then its "fails" side
module _ (count t : ℕ) (words : List ℕ) (depth mass low high : ℕ) (l : depth < count) (h : t ≤ mass) (decided : joined low high < 2 ^ depth) where
  pub branch-parts : (fails works set_low set_high : ℕ) → fails ≡ failing mass (get_or words (depth * 4) 0) → works ≡ working mass (get_or words (depth * 4) 0)
      → joined set_low set_high ≡ joined low high + 2 ^ depth
      → branch_ends t (events_of count words) (branch_of depth mass low high)
      ≡ branch_ends t (events_of count words) (branch_of (depth + 1) works low high) ++ branch_ends t (events_of count words) (branch_of (depth + 1) fails set_low set_high)
  branch-parts fails works set_low set_high failed worked set =
      branch-node t events (branch_of depth mass low high) none h (omega (arith, events-length count words, scenario-length depth (joined low high)))
      ∙ ap₂ (λ (a b : Branch). branch_ends t events a ++ branch_ends t events b)
      (ap (λ (x : ℕ). branch (branch_of depth mass low high) x false) same-q
      ∙ next-works depth mass low high q decided
      ∙ ap (λ (x : ℕ). branch_of (depth + 1) x low high) (sym worked))
      (ap (λ (x : ℕ). branch (branch_of depth mass low high) x true) same-q
      ∙ next-fails depth mass low high q set_low set_high decided set
      ∙ ap (λ (x : ℕ). branch_of (depth + 1) x set_low set_high) (sym failed))
    where
      events : List Event
      events = events_of count words

      q : ℕ
      q = get_or words (depth * 4) 0

      same-q : (get_or events (length (scenario_of depth (joined low high))) none).probability ≡ q
      same-q = ap (λ (n : ℕ). (get_or events n none).probability) (scenario-length depth (joined low high)) ∙ events-probability count words depth none l

-- on the way down: a branch in hand, the pending entries on the stack, and the same ends to come as at the start; the masses of the branch
-- and the entries are at most the mass pending at the start
pub record Going (count threshold : ℕ) (words : List ℕ) (all : List End) (pending depth mass : ℕ) (f : Failing) (top : ℕ) (stack : List ℕ) : Type 0 where
  pub hand : SoundBranch count depth mass f.low f.high (length (drop top stack))
  pub held : Stack count top stack
  pub ahead : all ≡ branch_ends threshold (events_of count words) (branch_of depth mass f.low f.high) ++ to_come count threshold words top stack
  pub lighter : mass + pending_mass (drop top stack) ≤ pending

module _ (count threshold : ℕ) (words : List ℕ) where
  module _ (all : List End) (pending depth mass : ℕ) (f : Failing) (top : ℕ) (stack : List ℕ)
      (g : Going count threshold words all pending depth mass f top stack) where
    abbrev low : ℕ
    low = f.low

    abbrev high : ℕ
    high = f.high

    -- the ends of the branch in hand are one end, which stops at the mass m, and n dropped ones
    come : (m n : ℕ) → ends threshold mass (drop depth (events_of count words)) ≡ path_end threshold m (count - depth) ∷ replicate n dropped
        → m ≤ mass → (0 < n → 4 ≤ top) → (end : Option Examined) → StopsAs threshold m f end
        → Descended count threshold words all pending stack (record { at = top; end = end; dropped = n })
    come m n below less room = step
      where
        k : ℕ
        k = joined low high

        path : Scenario
        path = scenario_of depth k

        initial : all ≡ after path (path_end threshold m (count - depth)) ∷ (replicate n dropped ++ to_come count threshold words top stack)
        initial = g.ahead ∙ rw (scenario-length depth k, below, run-after path n)

        deep : depth + (count - depth) ≡ count
        deep = omega (arith, g.hand.deep)

        whole-path : path ++ replicate (count - depth) false ≡ scenario_of count k
        whole-path = rw deep at (sym (scenario-works depth (count - depth) k g.hand.decided))

        found : Examined
        found = record { mass = m; failing = f }

        step : (end : Option Examined) → StopsAs threshold m f end → Descended count threshold words all pending stack (record { at = top; end = end; dropped = n })
        step None h =
            record {
              ends = initial ∙ rw (path_end-cut threshold m (count - depth) (omega (arith, h)));
              held = g.held;
              room = room;
              light = λ x (clash : None ≡ Some x). absurd (none-some x clash);
              decided = λ x (clash : None ≡ Some x). absurd (none-some x clash);
              lighter = omega (arith, g.lighter);
            }
        step (Some x) (h, e) =
            rw e
            (record {
              ends = initial ∙ rw (path_end-enough threshold m (count - depth) h, whole-path);
              held = g.held;
              room = room;
              light = λ y (same : Some found ≡ Some y). rw (← same_Some _ _ same) (omega (arith, g.hand.light));
              decided = λ y (same : Some found ≡ Some y). rw (← same_Some _ _ same) (omega (arith, g.hand.decided, pow_mono {i = depth} {j = count} g.hand.deep));
              lighter = omega (arith, g.lighter);
            })

    -- a branch below the threshold
    pub come-cut : mass < threshold → (end : Option Examined) → StopsAs threshold mass f end
        → Descended count threshold words all pending stack (record { at = top; end = end; dropped = 0 })
    come-cut h =
        come mass 0 (rw (ends-cut threshold mass (drop depth (events_of count words)) h, path_end-cut threshold mass (count - depth) h)) (omega arith) (λ (z : 0 < 0). omega arith)

    -- a branch with no event left
    pub come-leaf : count ≤ depth → (end : Option Examined) → StopsAs threshold mass f end
        → Descended count threshold words all pending stack (record { at = top; end = end; dropped = 0 })
    come-leaf l = step (dec_lt mass threshold)
      where
        over : drop depth (events_of count words) ≡ []
        over = drop_of_length-le (events_of count words) {i = depth} (omega (arith, events-length count words))

        nothing : count - depth ≡ 0
        nothing = omega arith

        step : Dec (mass < threshold) → (end : Option Examined) → StopsAs threshold mass f end
            → Descended count threshold words all pending stack (record { at = top; end = end; dropped = 0 })
        step (yes h) = come-cut h
        step (no h) =
            come mass 0 (rw (over, nothing, ends-leaf threshold mass (omega arith), path_end-enough threshold mass 0 (omega arith))) (omega arith) (λ (z : 0 < 0). omega arith)

    module _ (few : count ≤ 128) (falls : Falling certain (events_of count words)) (h : threshold ≤ mass) (l : depth < count) where
      room : 4 ≤ top
      room = omega (arith, g.hand.room, length-drop top stack, g.held.sized)

      worked-less : (works : ℕ) → works ≡ working mass (get_or words (depth * 4) 0) → works ≤ mass
      worked-less works e = omega (arith, e, works-le mass (get_or words (depth * 4) 0) (probable count words falls depth l))

      worked-le : (works : ℕ) → works ≡ working mass (get_or words (depth * 4) 0) → works ≤ whole
      worked-le works e = omega (arith, worked-less works e, g.hand.light)

      -- the "fails" side falls below the threshold
      pub come-straight : failing mass (get_or words (depth * 4) 0) < threshold → (works : ℕ) → works ≡ working mass (get_or words (depth * 4) 0)
          → (s : Stop) → Stopped count threshold words (depth + 1) works s → (end : Option Examined) → StopsAs threshold s.mass f end
          → Descended count threshold words all pending stack (record { at = top; end = end; dropped = s.depth - depth })
      come-straight less works worked s stopped =
          come s.mass (s.depth - depth) (rw (← left_at count words depth, stops, steps) path) (omega (arith, stopped.lighter, worked-less works worked))
          (λ (z : 0 < s.depth - depth). room)
        where
          events : List Event
          events = drop depth (events_of count words)

          on : OnPath count threshold words depth mass (depth + 1) works
          on = path-further count words falls threshold depth mass depth mass here h l works worked
            where
              here : OnPath count threshold words depth mass depth mass
              here = path-begun count threshold words depth mass mass refl g.hand.deep g.hand.light

          steps : s.depth - depth ≡ path_steps threshold mass events
          steps = omega (arith, on.steps, stopped.steps)

          stops : s.mass ≡ path_mass threshold mass events
          stops = omega (arith, on.stops, stopped.stops)

          path : ends threshold mass events ≡ path_end threshold (path_mass threshold mass events) (length events) ∷ replicate (path_steps threshold mass events) dropped
          path = works-path threshold (get_or words (depth * 4) 0) mass events (probable count words falls depth l) (falls-on count words falls depth l) less

      again : top - 4 + 4 ≡ top
      again = omega (arith, room)

      room_next : top - 4 + 4 ≤ 512
      room_next = omega (arith, again, g.held.within)

      -- else it is laid down, and the "works" side is in hand
      pub down : (stack' : List ℕ) (fails works : ℕ) → fails ≡ failing mass (get_or words (depth * 4) 0) → works ≡ working mass (get_or words (depth * 4) 0)
          → Pushed (record { depth = depth; mass = fails; failing = f }) (top - 4) stack stack'
          → Going count threshold words all pending (depth + 1) works f (top - 4) stack'
      down stack' fails works failed worked d =
          record {
            hand =
                record {
                  deep = omega arith;
                  light = worked-le works worked;
                  word = g.hand.word;
                  decided = omega (arith, g.hand.decided, pow-succ' 2 depth, ap (λ (n : ℕ). 2 ^ n) (add-one depth));
                  room = omega (arith, length-drop (top - 4) stack', size', g.hand.room, length-drop top stack, g.held.sized);
                };
            held =
                record {
                  fours = omega (arith, g.held.fours, room);
                  within = omega (arith, g.held.within);
                  sized = size';
                  entries = rw (four, again) (laid, g.held.entries);
                };
            ahead = g.ahead ∙ both;
            lighter = rw (four, again, mass-branch (depth + 1) fails (omega arith)) (omega (arith, failed, worked, parts-le mass q fits, g.lighter));
          }
        where
          events : List Event
          events = events_of count words

          q : ℕ
          q = get_or words (depth * 4) 0

          fits : q ≤ certain
          fits = probable count words falls depth l

          size' : length stack' ≡ 512
          size' = laid-size stack stack' (top - 4) (depth + 1) fails d.set_low d.set_high d.laid g.held.sized

          four : drop (top - 4) stack' ≡ (depth + 1) ∷ fails ∷ d.set_low ∷ d.set_high ∷ drop (top - 4 + 4) stack
          four = laid-words stack stack' (top - 4) (depth + 1) fails d.set_low d.set_high d.laid g.held.sized room_next

          laid : SoundEntry count (depth + 1) fails d.set_low d.set_high (length (drop top stack))
          laid =
              record {
                run = λ (z : 128 < depth + 1). omega arith;
                branch =
                    λ (z : depth + 1 ≤ 128).
                    record {
                      deep = omega arith;
                      light = omega (arith, failed, fails-le mass q fits, g.hand.light);
                      word = d.word;
                      decided = omega (arith, d.set, g.hand.decided, pow-succ' 2 depth, ap (λ (n : ℕ). 2 ^ n) (add-one depth));
                      room = omega (arith, g.hand.room);
                    };
              }

          parts : branch_ends threshold events (branch_of depth mass low high)
              ≡ branch_ends threshold events (branch_of (depth + 1) works low high) ++ branch_ends threshold events (branch_of (depth + 1) fails d.set_low d.set_high)
          parts = branch-parts count threshold words depth mass low high l h g.hand.decided fails works d.set_low d.set_high failed worked d.set

          both : branch_ends threshold events (branch_of depth mass low high) ++ to_come count threshold words top stack
              ≡ branch_ends threshold events (branch_of (depth + 1) works low high) ++ to_come count threshold words (top - 4) stack'
          both = rw (parts, append_assoc, four, again, words-branch threshold events (depth + 1) fails d.set_low d.set_high (omega arith))

  -- the next entry is taken off the stack
  module _ (at : ℕ) (stack : List ℕ) (s : Stack count at stack) (h : at < 512) where
    fits : at + 4 ≤ length stack
    fits = omega (arith, s.fours, s.sized)

    laid : SoundEntries count (get_or stack at 0 ∷ get_or stack (at + 1) 0 ∷ get_or stack (at + 2) 0 ∷ get_or stack (at + 3) 0 ∷ drop (at + 4) stack)
    laid = rw (words-at stack at fits) at s.entries

    under : Stack count (at + 4) stack
    under = record { fours = omega (arith, s.fours); within = omega (arith, s.fours); sized = s.sized; entries = laid.1 }

    pub taken-ends : get_or stack at 0 ≤ 128
        → to_come count threshold words at stack
        ≡ branch_ends threshold (events_of count words) (branch_of (get_or stack at 0) (get_or stack (at + 1) 0) (get_or stack (at + 2) 0) (get_or stack (at + 3) 0))
        ++ to_come count threshold words (at + 4) stack
    taken-ends l = rw (words-at stack at fits, words-branch threshold (events_of count words) (get_or stack at 0) (get_or stack (at + 1) 0) (get_or stack (at + 2) 0) (get_or stack (at + 3) 0) l)

    pub taken-mass : get_or stack at 0 ≤ 128 → pending_mass (drop at stack) ≡ get_or stack (at + 1) 0 + pending_mass (drop (at + 4) stack)
    taken-mass l = rw (words-at stack at fits, mass-branch (get_or stack at 0) (get_or stack (at + 1) 0) l)

    run-some : 128 < get_or stack at 0 → 0 < get_or stack (at + 1) 0
    run-some l = laid.0.run l

    pub taken-run : 128 < get_or stack at 0
        → Descended count threshold words (to_come count threshold words at stack) (pending_mass (drop at stack)) stack
        (record { at = at + 4; end = None; dropped = get_or stack (at + 1) 0 - 1 })
    taken-run l =
        record {
          ends =
              rw (words-at stack at fits, words-run threshold (events_of count words) (get_or stack at 0) (get_or stack (at + 1) 0) (get_or stack (at + 2) 0) (get_or stack (at + 3) 0) l)
              (ap (λ (n : ℕ). replicate n dropped ++ to_come count threshold words (at + 4) stack) more);
          held = under;
          room = λ (z : 0 < get_or stack (at + 1) 0 - 1). omega arith;
          light = λ x (clash : None ≡ Some x). absurd (none-some x clash);
          decided = λ x (clash : None ≡ Some x). absurd (none-some x clash);
          lighter = rw (words-at stack at fits) (omega arith);
        }
      where
        more : get_or stack (at + 1) 0 ≡ suc (get_or stack (at + 1) 0 - 1)
        more = omega (arith, run-some l)

-- dropped ends laid down
pub delayed-none : (run at : ℕ) (stack : List ℕ) → run ≡ 0 → Delayed run at stack stack at
delayed-none run at stack e = record { ahead = λ count threshold words s. rw e; held = λ count s. s; same = λ count s. refl }

pub delayed-some : (run at : ℕ) (stack stack' : List ℕ) → 0 < run → 4 ≤ at
    → stack' ≡ sets stack (at - 4) (129 ∷ run ∷ 0 ∷ 0 ∷ []) → Delayed run at stack stack' (at - 4)
delayed-some run at stack stack' some room laid =
    record {
      ahead = λ count threshold words s. rw (four count s, again, words-run threshold (events_of count words) 129 run 0 0 (omega arith));
      held =
          λ count (s : Stack count at stack).
          record {
            fours = omega (arith, s.fours);
            within = omega (arith, s.within);
            sized = laid-size stack stack' (at - 4) 129 run 0 0 laid s.sized;
            entries = rw (four count s, again) (record { run = λ (z : 128 < 129). some; branch = λ (z : 129 ≤ 128). absurd (omega arith) }, s.entries);
          };
      same = λ count s. rw (four count s, again, mass-run 129 run (omega arith)) (omega arith);
    }
  where
    again : at - 4 + 4 ≡ at
    again = omega arith

    four : (count : ℕ) → Stack count at stack → drop (at - 4) stack' ≡ 129 ∷ run ∷ 0 ∷ 0 ∷ drop (at - 4 + 4) stack
    four count s = laid-words stack stack' (at - 4) 129 run 0 0 laid s.sized (omega (arith, s.within))

-- for `delay`, whose goals have its test in their names
pub ruleset delays = (delayed-none)
