-- From a branch in hand down to where no "fails" side is left pending, as laws of the stack's words, for every threshold at once.
-- Assumes nothing.
use mathlib.Core.Path.{◌≡◌, ap, subst, ◌∙◌}
use mathlib.Core.List.{List, [], ◌∷◌, ◌++◌, append_assoc}
use Prim.Native.Nat.{ℕ, ◌+◌, ◌-◌, ◌*◌, ◌^◌, ◌≤◌, ◌<◌}
use native.Mathlib.Decide.{dec_lt}
use native.Mathlib.Nat.{pow-succ'}
use native.Mathlib.Numerals.{add-one}
use native.Mathlib.Omega.{arith}
use lib.ListN.{length, get_or, drop, length-drop, length-append, length-map}
use Rattle.mass.specs.Split.{certain, failing, working}
use Rattle.mass.proofs.Theorems.{fails-le, works-le}
use Rattle.sets.specs.Sets.{joined}
use Rattle.plan.specs.Plan.{Event}
use Rattle.plan.specs.Lists.{events_of}
use Rattle.plan.specs.Held.{Falling}
use Rattle.walk.specs.Scenario.{scenario_of}
use Rattle.walk.specs.Ends.{End, after, ends}
use Rattle.walk.specs.Pending.{branch_ends}
use Rattle.walk.specs.Stack.{branch_of, entry_at}
use Rattle.walk.specs.Steps.{Stopped}
use Rattle.walk.specs.declared.Stop.{Stop}
use Rattle.walk.proofs.Descents.{probable, branch-parts}
use Rattle.walk.proofs.Resume.{ends_some}
use Rattle.thresholds_walk.specs.Stack.{entry_ends, shared_to_come, shared_entry, SoundShared, AllSoundShared, SharedStack}
use Rattle.thresholds_walk.specs.Paths.{SharedWalk, shared_walk, SharedPushed, FailsBelow, Halted, path_ends, left_to_take, PathTaken}
use Rattle.thresholds_walk.specs.declared.Halt.{Halt}
use Rattle.thresholds_walk.specs.declared.SharedEntry.{SharedEntry}
use Rattle.thresholds_walk.specs.declared.WorksPath.{WorksPath}
use Rattle.thresholds_walk.proofs.Words.{words-at, laid-size, laid-words}
use Rattle.thresholds_walk.proofs.Stops.{entry-none, entry-some, branch-cut}

-- the branch in hand on the way down from an entry, where the way has come to
abbrev in_hand : SharedEntry → Halt → SharedEntry
in_hand e r = shared_entry r.depth r.mass e.branch.failing.low e.branch.failing.high e.parent

-- on the way down: a branch in hand, the pending entries on the stack, and for every threshold the same ends to come as at the start
pub record Going (k : SharedWalk) (at : ℕ) (e : SharedEntry) (stack₀ stack : List ℕ) (r : Halt) : Type 0 where
  pub hand : SoundShared k.count (in_hand e r) (length (drop r.at stack))
  pub held : SharedStack k.count r.at stack
  pub ahead : (t : ℕ)
      → branch_ends t (events_of k.count k.words) (branch_of e.branch.depth e.branch.mass e.branch.failing.low e.branch.failing.high) ++ shared_to_come k.count t k.words at stack₀
      ≡ branch_ends t (events_of k.count k.words) (branch_of r.depth r.mass e.branch.failing.low e.branch.failing.high) ++ shared_to_come k.count t k.words r.at stack
  pub lighter : r.mass ≤ e.branch.mass
  pub still : e.branch.mass < k.lowest → r.at ≡ at

module _ (k : SharedWalk) (at : ℕ) (e : SharedEntry) (stack₀ stack : List ℕ) (r : Halt) (g : Going k at e stack₀ stack r) where
  abbrev count : ℕ
  count = k.count

  abbrev words : List ℕ
  words = k.words

  abbrev low : ℕ
  low = e.branch.failing.low

  abbrev high : ℕ
  high = e.branch.failing.high

  abbrev depth : ℕ
  depth = r.depth

  abbrev mass : ℕ
  mass = r.mass

  abbrev top : ℕ
  top = r.at

  pub halts : FailsBelow k.count k.lowest k.words r.depth r.mass → Halted k at e stack₀ stack r
  halts fails-below =
      record {
        ends = λ t h. g.ahead t;
        held = g.held;
        deep = g.hand.deep;
        decided = g.hand.decided;
        lighter = g.lighter;
        fails-below = fails-below;
        still = g.still;
      }

  -- where no event is left
  pub ended : count ≤ depth → Halted k at e stack₀ stack (record { at = top; depth = count; mass = mass })
  ended over = subst (λ (d : ℕ). Halted k at e stack₀ stack (record { at = top; depth = d; mass = mass })) last (halts (λ a b. absurd (omega arith)))
    where
      last : depth ≡ count
      last = omega (arith, g.hand.deep)

  module _ (few : count ≤ 128) (falls : Falling certain (events_of count words)) (h : k.lowest ≤ mass) (l : depth < count) where
    pub room : 5 ≤ top
    room = omega (arith, g.hand.room, length-drop top stack, g.held.sized)

    again : top - 5 + 5 ≡ top
    again = omega (arith, room)

    pub room_next : top - 5 + 5 ≤ 640
    room_next = omega (arith, again, g.held.within)

    -- the "fails" side is laid down, and the "works" side is in hand
    module _ (stack' : List ℕ) (fails works : ℕ) (failed : fails ≡ failing mass (get_or words (depth * 4) 0))
        (worked : works ≡ working mass (get_or words (depth * 4) 0))
        (d : SharedPushed (shared_entry depth fails low high mass) (top - 5) stack stack') where
      events : List Event
      events = events_of count words

      fits : get_or words (depth * 4) 0 ≤ certain
      fits = probable count words falls depth l

      size' : length stack' ≡ 640
      size' = laid-size stack stack' (top - 5) (depth + 1) fails d.set_low d.set_high mass d.laid g.held.sized

      five : drop (top - 5) stack' ≡ (depth + 1) ∷ fails ∷ d.set_low ∷ d.set_high ∷ mass ∷ drop (top - 5 + 5) stack
      five = laid-words stack stack' (top - 5) (depth + 1) fails d.set_low d.set_high mass d.laid g.held.sized room_next

      next : 2 ^ (depth + 1) ≡ 2 ^ depth * 2
      next = omega (arith, pow-succ' 2 depth, ap (λ (n : ℕ). 2 ^ n) (add-one depth))

      less : works ≤ mass
      less = omega (arith, worked, works-le mass (get_or words (depth * 4) 0) fits)

      laid : SoundShared count (shared_entry (depth + 1) fails d.set_low d.set_high mass) (length (drop top stack))
      laid =
          record {
            deep = omega arith;
            lighter = omega (arith, failed, fails-le mass (get_or words (depth * 4) 0) fits);
            light = omega (arith, g.hand.lighter, g.hand.light);
            word = d.word;
            decided = omega (arith, d.set, g.hand.decided, next);
            room = omega (arith, g.hand.room);
          }

      -- for a threshold that the branch meets both sides are its ends, for any other it has ended
      both : (t : ℕ) → Dec (mass < t)
          → branch_ends t events (branch_of depth mass low high) ++ shared_to_come count t words top stack
          ≡ branch_ends t events (branch_of (depth + 1) works low high) ++ shared_to_come count t words (top - 5) stack'
      unfolding events
      both t (yes c) =
          rw (
            branch-cut t (events_of count words) (branch_of depth mass low high) c,
            branch-cut t (events_of count words) (branch_of (depth + 1) works low high) (omega (arith, less)),
            five,
            again,
            entry-none mass t (events_of count words) (branch_of (depth + 1) fails d.set_low d.set_high) c,
          )
      both t (no c) =
          rw (
            branch-parts count t words depth mass low high l (omega arith) g.hand.decided fails works d.set_low d.set_high failed worked d.set,
            append_assoc,
            five,
            again,
            entry-some mass t (events_of count words) (branch_of (depth + 1) fails d.set_low d.set_high) (omega arith),
          )

      pub down : Going k at e stack₀ stack' (record { at = top - 5; depth = depth + 1; mass = works })
      unfolding events
      down =
          record {
            hand =
                record {
                  deep = omega arith;
                  lighter = omega (arith, less, g.hand.lighter);
                  light = g.hand.light;
                  word = g.hand.word;
                  decided = omega (arith, g.hand.decided, next);
                  room = omega (arith, length-drop (top - 5) stack', size', g.hand.room, length-drop top stack, g.held.sized);
                };
            held =
                record {
                  fives = omega (arith, g.held.fives, room);
                  within = omega (arith, g.held.within);
                  sized = size';
                  entries = rw (five, again) (laid, g.held.entries);
                };
            ahead = λ t. g.ahead t ∙ both t (dec_lt mass t);
            lighter = omega (arith, less, g.lighter);
            still = λ z. absurd (omega (arith, g.lighter));
          }

-- the next branch is taken off the stack
module _ (count : ℕ) (words : List ℕ) (at : ℕ) (stack : List ℕ) (s : SharedStack count at stack) (h : at < 640) where
  abbrev e : SharedEntry
  e = record { branch = entry_at at stack; parent = get_or stack (at + 4) 0 }

  inside : at + 5 ≤ length stack
  inside = omega (arith, s.fives, s.sized)

  all_sound : AllSoundShared count (e.branch.depth ∷ e.branch.mass ∷ e.branch.failing.low ∷ e.branch.failing.high ∷ e.parent ∷ drop (at + 5) stack)
  all_sound = rw (words-at stack at inside) at s.entries

  pub under : SharedStack count (at + 5) stack
  under = record { fives = omega (arith, s.fives); within = omega (arith, s.fives); sized = s.sized; entries = all_sound.1 }

  pub taken : SoundShared count e (length (drop (at + 5) stack))
  taken = all_sound.0

  taken-ends : (t : ℕ) → shared_to_come count t words at stack
      ≡ entry_ends t (events_of count words) e.parent (branch_of e.branch.depth e.branch.mass e.branch.failing.low e.branch.failing.high) ++ shared_to_come count t words (at + 5) stack
  taken-ends t = rw (words-at stack at inside)

  -- and gone down from, to where its "works" path stops
  module _ (lowest : ℕ) (stack' : List ℕ) (halt : Halt) (d : Halted (shared_walk count lowest words) (at + 5) e stack stack' halt)
      (end : Stop) (stopped : Stopped count lowest words halt.depth halt.mass end) where
    abbrev path : WorksPath
    path =
        record {
          at = halt.at;
          parent = e.parent;
          depth = halt.depth;
          mass = halt.mass;
          low = e.branch.failing.low;
          high = e.branch.failing.high;
          stop = end.depth;
          last = end.mass;
        }

    cancel : {x : End} {xs ys : List End} → x ∷ xs ≡ x ∷ ys → xs ≡ ys
    cancel same = ap (λ (l : List End). drop 1 l) same

    -- for each threshold: where the walk does not come to the branch, nothing is to come off
    ends-both : (t : ℕ) → lowest ≤ t → Dec (e.parent < t)
        → shared_to_come count t words at stack ≡ path_ends count t words path ++ shared_to_come count t words halt.at stack'
    ends-both t l (yes c) =
        let same : shared_to_come count t words (at + 5) stack ≡ shared_to_come count t words halt.at stack' =
        cancel
        (rw (
          branch-cut t (events_of count words) (branch_of e.branch.depth e.branch.mass e.branch.failing.low e.branch.failing.high) (omega (arith, taken.lighter)),
          branch-cut t (events_of count words) (branch_of halt.depth halt.mass e.branch.failing.low e.branch.failing.high) (omega (arith, taken.lighter, d.lighter)),
        ) at (d.ends t l)) in
        taken-ends t
        ∙ rw (
          entry-none e.parent t (events_of count words) (branch_of e.branch.depth e.branch.mass e.branch.failing.low e.branch.failing.high) c,
          entry-none e.parent t (events_of count words) (branch_of halt.depth halt.mass e.branch.failing.low e.branch.failing.high) c,
        ) same
    ends-both t l (no c) =
        taken-ends t
        ∙ rw (
          entry-some e.parent t (events_of count words) (branch_of e.branch.depth e.branch.mass e.branch.failing.low e.branch.failing.high) (omega arith),
          entry-some e.parent t (events_of count words) (branch_of halt.depth halt.mass e.branch.failing.low e.branch.failing.high) (omega arith),
        ) (d.ends t l)

    ends-all : (t : ℕ) → lowest ≤ t → shared_to_come count t words at stack ≡ path_ends count t words path ++ shared_to_come count t words halt.at stack'
    ends-all t l = ends-both t l (dec_lt e.parent t)

    -- a branch has an end
    some : lowest ≤ e.parent → 0 < length (path_ends count lowest words path)
    some l =
        rw (
          entry-some e.parent lowest (events_of count words) (branch_of halt.depth halt.mass e.branch.failing.low e.branch.failing.high) l,
          length-map rest-ends (after (scenario_of halt.depth (joined e.branch.failing.low e.branch.failing.high))),
        ) (ends_some lowest halt.mass (drop (length (scenario_of halt.depth (joined e.branch.failing.low e.branch.failing.high))) (events_of count words)))
      where
        rest-ends : List End
        rest-ends = ends lowest halt.mass (drop (length (scenario_of halt.depth (joined e.branch.failing.low e.branch.failing.high))) (events_of count words))

    fewer : Dec (e.parent < lowest)
        → left_to_take (shared_walk count lowest words) halt.at stack' < left_to_take (shared_walk count lowest words) at stack
    fewer (yes c) =
        let none : path_ends count lowest words path ≡ [] =
        entry-none e.parent lowest (events_of count words) (branch_of halt.depth halt.mass e.branch.failing.low e.branch.failing.high) c in
        let same : shared_to_come count lowest words at stack ≡ shared_to_come count lowest words halt.at stack' =
        ends-all lowest (omega arith) ∙ ap (λ (l : List End). l ++ shared_to_come count lowest words halt.at stack') none in
        omega (arith, ap length same, d.still (omega (arith, taken.lighter)), d.held.within)
    fewer (no c) =
        omega (
          arith,
          ap length (ends-all lowest (omega arith)),
          length-append (path_ends count lowest words path) (shared_to_come count lowest words halt.at stack'),
          some (omega arith),
          d.held.within,
        )

    pub path-taken : PathTaken (shared_walk count lowest words) at stack stack' path
    path-taken =
        record {
          ends = ends-all;
          held = d.held;
          sound =
              record {
                deep = d.deep;
                lighter = omega (arith, d.lighter, taken.lighter);
                light = taken.light;
                decided = d.decided;
                fails-below = d.fails-below;
                stops = stopped;
              };
          fewer = fewer (dec_lt e.parent lowest);
        }
