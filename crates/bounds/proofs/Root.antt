-- The whole walk, from the root to its totals.
-- Assumes nothing.
use mathlib.Core.Path.{◌≡◌, sym, ap, ◌∙◌}
use mathlib.Core.List.{List}
use Prim.Native.Nat.{ℕ, ◌<◌}
use native.Mathlib.Omega.{arith}
use lib.Dec.{leb}
use lib.ListN.{take, drop}
use Rattle.mass.specs.Split.{whole}
use Rattle.sets.specs.Sets.{digit}
use Rattle.plan.specs.Plan.{Plan}
use Rattle.plan.specs.Lists.{events_of}
use Rattle.plan.specs.LentLists.{plan_of_lists}
use Rattle.plan.specs.Held.{Held}
use Rattle.plan.specs.declared.Header.{Header}
use Rattle.network.specs.Outage.{Outage}
use Rattle.walk.specs.Ends.{sum_ends, weighed}
use Rattle.walk.proofs.Laws.{masses-le}
use Rattle.walk.specs.Walk.{plan_ends, first_ends}
use Rattle.walk.proofs.EndsLaws.{count-sum}
use Rattle.walk.proofs.Valid.{held-probable}
use Rattle.walk.proofs.Resume.{Alone, begun-stack, begun-whole, root-entry, complete-at}
use Rattle.pairs.specs.Pairs.{place}
use Rattle.bounds.specs.Bounds.{cuts}
use Rattle.bounds.specs.Tallied.{walked_plan, RunState, run_state, coming, reached, Ready, Tallied}
use Rattle.bounds.specs.Summed.{Summed, Cleared}
use Rattle.bounds.specs.Calls.{totals_of}

module _ (h : Header) (links words : List ℕ) (at : ℕ) (stack lower : List ℕ) (b : Alone 0 whole 0 0 at stack) (clear : Cleared lower) where
  -- nothing is examined at the root
  abbrev start : RunState
  start = run_state stack lower (record { at = at; left = h.cap; count = 0; mass = 0 })

  pub ready-whole : Held h links words → h.cap < 4294967296 → Ready h links words start
  ready-whole held few =
      record {
        held = held;
        stacked = begun-stack 0 whole 0 0 at stack b (omega arith) h.events (root-entry h.events);
        sized = clear.sized;
        below = λ i. omega (arith, clear.zeros i);
        fits =
            rw (begun-whole at stack b h.events h.threshold words)
            (omega (arith, masses-le h.threshold h.cap whole (events_of h.events words) (held-probable h links words held)));
        counted = omega arith;
      }

  module _ (out : Outage) (r : RunState) (t : Tallied (walked_plan out h links words) start r) where
    abbrev p : Plan
    p = plan_of_lists h links words

    from-root : coming h words start ≡ plan_ends p
    unfolding plan_of_lists
    from-root = begun-whole at stack b h.events h.threshold words

    firsts : reached h words start ≡ first_ends p
    unfolding plan_of_lists
    firsts = ap (take h.cap) from-root

    left_over : drop p.cap (plan_ends p) ≡ coming h words r
    unfolding plan_of_lists
    left_over = sym (t.rest ∙ ap (drop h.cap) from-root)

    pub whole-totals : (c : ℕ) → c ≡ digit (leb 512 r.sums.at) → (record { count = r.sums.count; complete = c; mass = r.sums.mass }) ≡ totals_of p
    whole-totals c e =
        let one : r.sums.count ≡ (totals_of p).count = omega (arith, t.counts, ap (sum_ends (λ s m. 1)) firsts, count-sum p) in
        let two : c ≡ (totals_of p).complete = e ∙ sym (complete-at h.events h.threshold words p r.sums.at r.stack t.stacked left_over) in
        let three : r.sums.mass ≡ (totals_of p).mass = omega (arith, t.masses, ap (sum_ends (λ s m. m)) firsts) in
        λ i. record { count = one i; complete = two i; mass = three i }

    pub whole-sums : Summed out p h.nodes r.lower
    whole-sums =
        record {
          sized = t.sized;
          below = λ i. omega (arith, t.below i, t.masses, ap (sum_ends (λ s m. m)) firsts);
          each =
              λ v w l k.
              omega (
                arith,
                t.entries v w l k,
                clear.zeros (place h.nodes v w),
                ap (weighed (λ s. digit (cuts out p v w s))) firsts,
              );
        }
