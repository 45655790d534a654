-- One turn of the loop over the relevant scenarios of the walk, and the whole walk from its root.
-- Assumes nothing.
use Rattle.std.specs.Prelude.{Result, Ok, Some, None}
use Rattle.std.proofs.lemmas.Result.{IfOk-at_ok}
use mathlib.Core.Path.{◌≡◌, refl, sym, ap, subst, ◌∙◌}
use mathlib.Core.List.{List, [], ◌∷◌}
use Prim.Native.Nat.{ℕ, ◌+◌, ◌-◌, ◌*◌, ◌/◌, ◌≤◌}
use native.Mathlib.Omega.{arith}
use lib.ListN.{length, take, drop}
use lib.Seq.{drop-drop}
use Rattle.mass.specs.Split.{whole}
use Rattle.sets.specs.Sets.{joined}
use Rattle.plan.specs.Lists.{events_of}
use Rattle.plan.specs.LentLists.{plan_of_lists}
use Rattle.plan.specs.Held.{Held}
use Rattle.plan.specs.declared.Header.{Header}
use Rattle.network.specs.Outage.{intact}
use Rattle.walk.specs.Scenario.{Scenario, scenario_of}
use Rattle.walk.specs.Ends.{End, relevant, sum_ends}
use Rattle.walk.proofs.Laws.{masses-le}
use Rattle.walk.specs.Stack.{Stack}
use Rattle.walk.specs.Steps.{StepTaken}
use Rattle.walk.proofs.Valid.{held-probable}
use Rattle.walk.specs.declared.Examined.{Examined}
use Rattle.walk.specs.declared.WalkStep.{WalkStep}
use Rattle.walk.proofs.Resume.{Alone, begun-stack, begun-whole, root-entry, value_found, value_none, sum-found}
use Rattle.topology_list.specs.Entries.{masses_in, added, TopologyList, topology_list, fitted}
use Rattle.topology_list.specs.TopologyList.{placed, placed_all, topology_after, topology_list_of}
use Rattle.topology_list.proofs.ListLaws.{refused-stays, masses-placed}
use Rattle.topology_list.specs.Words.{entries_of, MassFits, HoldsList}
use Rattle.topology_list.specs.MassesFit.{next_ends, MassesFit}
use Rattle.topology_list.specs.declared.Topology.{Topology}
use Rattle.topology_list.proofs.PlaceLaws.{holds}
use Rattle.mass.specs.Refusal.{number_in}
use Rattle.mass.specs.declared.refusal.Refusal.{Refusal}

-- ---- one scenario's topology placed, then the others

-- what is given where no entry is added
pub none-given : (count : ℕ) (list : List ℕ) → 4 * count ≤ length list
    → HoldsList (topology_list (entries_of count list) 0) count list list (Ok count)
none-given count list room = holds (topology_list (entries_of count list) 0) count count list list (Ok count) refl refl refl (omega arith) room refl refl

module _ (T : Scenario → Topology) (count : ℕ) (list list₁ : List ℕ) (q : Result ℕ Refusal) (s : Scenario) (mass : ℕ) (later : List End)
    (given : HoldsList (placed (length list / 4) T (topology_list (entries_of count list) 0) (relevant s mass)) count list list₁ q) where
  abbrev out : TopologyList
  out = placed (length list / 4) T (topology_list (entries_of count list) 0) (relevant s mass)

  -- no entry was left for it: what is given is given for all
  full-given : (number_in q ≡ 0 → ⊥) → HoldsList (placed_all (length list / 4) T out later) count list list₁ q
  full-given full =
      subst (λ (l : TopologyList). HoldsList l count list list₁ q)
      (sym (refused-stays (length list / 4) T out later (λ z. full (given.number ∙ z)))) given

  -- what is given for the others, after it, is given for all
  then-given : (n : ℕ) → number_in q ≡ 0 → n ≡ length out.entries → (list₂ : List ℕ) (q₂ : Result ℕ Refusal)
      → HoldsList (placed_all (length list₁ / 4) T (topology_list (entries_of n list₁) 0) later) n list₁ list₂ q₂
      → HoldsList (placed_all (length list / 4) T out later) count list list₂ q₂
  then-given n z is list₂ q₂ next =
      record {
        number = next-all.number;
        count-is = next-all.count-is;
        entries = next-all.entries;
        grows = omega (arith, given.grows, next-all.grows, is);
        room = next-all.room;
        others =
            next-all.others
            ∙ ap (λ (k : ℕ). drop k list₁) more
            ∙ sym (drop-drop past (4 * length out.entries) list₁)
            ∙ ap (drop past) given.others
            ∙ drop-drop past (4 * length out.entries) list
            ∙ ap (λ (k : ℕ). drop k list) (sym more);
        sized = next-all.sized ∙ given.sized;
      }
    where
      entries-are : entries_of n list₁ ≡ out.entries
      entries-are = ap (λ (k : ℕ). entries_of k list₁) is ∙ given.entries

      same_list : placed_all (length list₁ / 4) T (topology_list (entries_of n list₁) 0) later ≡ placed_all (length list / 4) T out later
      same_list =
          ap (λ (k : ℕ). placed_all (k / 4) T (topology_list (entries_of n list₁) 0) later) given.sized
          ∙ ap (λ (l : TopologyList). placed_all (length list / 4) T l later)
          (λ i. record { entries = entries-are i; number = (sym z ∙ given.number) i })

      next-all : HoldsList (placed_all (length list / 4) T out later) n list₁ list₂ q₂
      next-all = subst (λ (l : TopologyList). HoldsList l n list₁ list₂ q₂) same_list next

      past : ℕ
      past = 4 * length (placed_all (length list / 4) T out later).entries - 4 * length out.entries

      more : 4 * length (placed_all (length list / 4) T out later).entries ≡ 4 * length out.entries + past
      more = omega (arith, next-all.grows, is)

-- ---- the loop: what is given for the ends that are left is given for the whole

pub record Turn (h : Header) (links words : List ℕ) (at₀ : ℕ) (stack₀ list₀ : List ℕ) (k : ℕ)
    (stack list : List ℕ) (at left count : ℕ) : Type 0 where
  pub gives : (list' : List ℕ) (q : Result ℕ Refusal)
      → HoldsList
      (placed_all (length list / 4) (topology_after intact (plan_of_lists h links words)) (topology_list (entries_of count list) 0)
      (next_ends h words at stack left))
      count list list' q
      → HoldsList
      (placed_all (length list₀ / 4) (topology_after intact (plan_of_lists h links words)) (topology_list [] 0) (next_ends h words at₀ stack₀ k))
      0 list₀ list' q
  pub room : 4 * count ≤ length list
  pub sized : length list ≡ length list₀
  pub held : Held h links words
  pub stacked : Stack h.events at stack
  pub fits : masses_in (entries_of count list) + sum_ends (λ s m. m) (next_ends h words at stack left) ≤ whole

pub turn-begun : (h : Header) (links words : List ℕ) (at₀ : ℕ) (stack₀ list₀ : List ℕ) → MassesFit h links words at₀ stack₀
    → Turn h links words at₀ stack₀ list₀ h.cap stack₀ list₀ at₀ h.cap 0
unfolding entries_of
turn-begun h links words at₀ stack₀ list₀ ready =
    record {
      gives = λ list' q given. given;
      room = omega arith;
      sized = refl;
      held = ready.held;
      stacked = ready.stacked;
      fits = omega (arith, ready.light);
    }

module _ (h : Header) (links words : List ℕ) (at₀ : ℕ) (stack₀ list₀ : List ℕ) (k : ℕ) (stack list : List ℕ) (at left count : ℕ)
    (g : Turn h links words at₀ stack₀ list₀ k stack list at left count)
    (stack' : List ℕ) (r : WalkStep) (s : StepTaken h.events h.threshold words at stack left stack' r) where
  abbrev T : Scenario → Topology
  T = topology_after intact (plan_of_lists h links words)

  abbrev aim : TopologyList
  aim = placed_all (length list₀ / 4) T (topology_list [] 0) (next_ends h words at₀ stack₀ k)

  abbrev later : List End
  later = next_ends h words r.at stack' r.left

  -- what is left to be placed, as a value of the ends
  abbrev left-to-place : List End → TopologyList
  left-to-place = placed_all (length list / 4) T (topology_list (entries_of count list) 0)

  -- no scenario is left
  pub ended : r.found ≡ None → HoldsList aim 0 list₀ list (Ok count)
  ended e =
      g.gives list _
      (subst (λ (l : TopologyList). HoldsList l count list list (Ok count))
      (sym (value_none h.events h.threshold words at stack left stack' r s left-to-place (λ l. refl) e))
      (none-given count list g.room))

  -- one is
  module _ {x : Examined} (e : r.found ≡ Some x) where
    abbrev here : Scenario
    here = scenario_of h.events (joined x.failing.low x.failing.high)

    masses : sum_ends (λ s m. m) (next_ends h words at stack left) ≡ x.mass + sum_ends (λ s m. m) later
    masses = sum-found h.events h.threshold words at stack left stack' r s (λ s m. m) e

    -- its mass has room
    pub may-place : MassFits count x.mass list
    may-place = record { room = g.room; fits = omega (arith, g.fits, masses) }

    -- its topology is placed
    module _ (t : Topology) (is : t ≡ T here) (list' : List ℕ) (q : Result ℕ Refusal)
        (placing : HoldsList (fitted (length list / 4) (entries_of count list) (added t x.mass (entries_of count list)))
        count list list' q) where
      given : HoldsList (placed (length list / 4) T (topology_list (entries_of count list) 0) (relevant here x.mass)) count list list' q
      given =
          subst
          (λ (t : Topology).
          HoldsList (fitted (length list / 4) (entries_of count list) (added t x.mass (entries_of count list))) count list list' q)
          is placing

      from_first : (list'' : List ℕ) (q' : Result ℕ Refusal)
          → HoldsList (left-to-place (relevant here x.mass ∷ later)) count list list'' q' → HoldsList aim 0 list₀ list'' q'
      from_first list'' q' first =
          g.gives list'' q'
          (subst (λ (l : TopologyList). HoldsList l count list list'' q')
          (sym (value_found h.events h.threshold words at stack left stack' r s left-to-place (λ l. refl) e)) first)

      pub stopped : (number_in q ≡ 0 → ⊥) → HoldsList aim 0 list₀ list' q
      stopped full = from_first list' q (full-given T count list list' q here x.mass later given full)

      pub turned : (n : ℕ) → q ≡ Ok n → Turn h links words at₀ stack₀ list₀ k stack' list' r.at r.left n
      turned n ok =
          record {
            gives = λ list'' q' next. from_first list'' q' (then-given T count list list' q here x.mass later given n (ap number_in ok) count-is list'' q' next);
            room = omega (arith, given.room, count-is);
            sized = given.sized ∙ g.sized;
            held = g.held;
            stacked = s.held;
            fits =
                omega (
                  arith,
                  g.fits,
                  masses,
                  ap (λ (k : ℕ). masses_in (entries_of k list')) count-is,
                  ap masses_in given.entries,
                  masses-placed (length list / 4) T (entries_of count list) here x.mass,
                );
          }
        where
          count-is : n ≡ length (placed (length list / 4) T (topology_list (entries_of count list) 0) (relevant here x.mass)).entries
          count-is = IfOk-at_ok (λ k. k ≡ length (placed (length list / 4) T (topology_list (entries_of count list) 0) (relevant here x.mass)).entries) ok given.count-is

-- ---- from the root

module _ (h : Header) (links words : List ℕ) (at : ℕ) (stack : List ℕ) (b : Alone 0 whole 0 0 at stack) where
  pub ready-whole : Held h links words → MassesFit h links words at stack
  ready-whole held =
      record {
        held = held;
        stacked = begun-stack 0 whole 0 0 at stack b (omega arith) h.events (root-entry h.events);
        light =
            rw (begun-whole at stack b h.events h.threshold words)
            (masses-le h.threshold h.cap whole (events_of h.events words) (held-probable h links words held));
      }

  pub whole-listing : (room : ℕ)
      → placed_all room (topology_after intact (plan_of_lists h links words)) (topology_list [] 0) (next_ends h words at stack h.cap)
      ≡ topology_list_of intact room (plan_of_lists h links words)
  unfolding plan_of_lists topology_list_of
  whole-listing room =
      ap
      (λ (l : List End). placed_all room (topology_after intact (plan_of_lists h links words)) (topology_list [] 0) (take h.cap l))
      (begun-whole at stack b h.events h.threshold words)
