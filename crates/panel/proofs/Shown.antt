-- What a look shows of a walk: what a run whose cap is the number of ends reached gives.
-- Assumes nothing.
use mathlib.Core.Path.{◌≡◌, refl, sym, ap, subst, ◌∙◌}
use mathlib.Core.Bool.{true, false, ◌&&◌}
use Prim.Native.Nat.{ℕ, ◌+◌, ◌-◌, ◌≤◌, ◌<◌}
use native.Mathlib.Decide.{dec_le}
use native.Mathlib.Omega.{arith}
use borrow.Author.Tests.{le-leb, lt-leb, leb-true}
use lib.Dec.{leb}
use lib.ListN.{get_or}
use Rattle.mass.specs.Split.{whole}
use Rattle.sets.specs.Sets.{digit}
use Rattle.sets.proofs.Bools.{and_left, and_right}
use Rattle.plan.specs.Plan.{Plan}
use Rattle.plan.specs.LentLists.{plan_of_lists}
use Rattle.plan_lists.proofs.Accepted.{plan-held}
use Rattle.network.specs.Outage.{intact}
use Rattle.walk.specs.Walk.{complete}
use Rattle.walk.proofs.Resume.{complete-at}
use Rattle.walk.proofs.Valid.{plan-probable}
use Rattle.sums.proofs.BoundsLaws.{upper-lower}
use Rattle.pairs.specs.Pairs.{place, pair_test}
use Rattle.bounds.specs.Bounds.{cuts, lower_of, upper_of}
use Rattle.bounds.specs.Calls.{totals_of, bounds_of}
use Rattle.panel.specs.Walks.{capped, walk_plan, WalkAt}
use Rattle.panel.specs.Calls.{look_of, may_show, bounds_shown, look_pair_of}
use Rattle.walk_state.specs.declared.Walk.{Walk}
use Rattle.walk_state.proofs.EntryLaws.{stops, goes}

-- ---- the test of what is shown

module _ (nodes mass sum : ℕ) where
  tests : may_show nodes mass sum ≡ (leb nodes 64 && (leb mass whole && leb sum mass))
  unfolding may_show
  tests = refl

  pub nodes-fail : 64 < nodes → false ≡ may_show nodes mass sum
  nodes-fail h = stops (leb nodes 64) _ tests (lt-leb nodes 64 h)

  module _ (few : nodes ≤ 64) where
    second : may_show nodes mass sum ≡ (leb mass whole && leb sum mass)
    second = goes (leb nodes 64) _ tests (le-leb nodes 64 few)

    pub mass-fails : whole < mass → false ≡ may_show nodes mass sum
    mass-fails h = stops (leb mass whole) _ second (lt-leb mass whole h)

    pub sum-decides : mass ≤ whole → leb sum mass ≡ may_show nodes mass sum
    sum-decides h = sym (goes (leb mass whole) _ second (le-leb mass whole h))

  pub may-is : may_show nodes mass sum ≡ true → (mass ≤ whole) × (sum ≤ mass)
  may-is e =
      let b = and_right (leb nodes 64) _ (sym tests ∙ e) in
      (leb-true mass whole (and_left _ _ b), leb-true sum mass (and_right (leb mass whole) _ b))

  pub shown-true : may_show nodes mass sum ≡ true → bounds_shown nodes mass sum ≡ record { lower = sum; upper = (whole - mass) + sum }
  unfolding bounds_shown
  shown-true e = rw (e, bounds_shown)

  pub shown-false : may_show nodes mass sum ≡ false → bounds_shown nodes mass sum ≡ record { lower = 0; upper = whole }
  unfolding bounds_shown
  shown-false e = rw (e, bounds_shown)

-- with more than 64 nodes the sum does not matter
pub shown-same : (nodes mass a b : ℕ) → (nodes ≤ 64 → a ≡ b) → bounds_shown nodes mass a ≡ bounds_shown nodes mass b
shown-same nodes mass a b e = step (dec_le nodes 64)
  where
    step : Dec (nodes ≤ 64) → bounds_shown nodes mass a ≡ bounds_shown nodes mass b
    step (yes h) = ap (bounds_shown nodes mass) (e h)
    step (no h) =
        let many : 64 < nodes = omega arith in
        shown-false nodes mass a (sym (nodes-fail nodes mass a many)) ∙ sym (shown-false nodes mass b (sym (nodes-fail nodes mass b many)))

-- ---- what is shown of a walk

pub looked : (p : Plan) (n : ℕ) (w : Walk) → WalkAt intact p n w → look_of w ≡ totals_of (capped p n)
looked p n w at =
    let whether : digit (leb 512 w.at) ≡ complete (capped p n) =
    sym (complete-at w.header.events w.header.threshold w.events (capped p n) w.at w.stack at.stacked (sym at.ends)) in
    λ i. record { count = at.counts i; complete = whether i; mass = at.masses i }

module _ (w : Walk) (n : ℕ) (at : WalkAt intact (walk_plan w) n w) (v x : ℕ) where
  abbrev p : Plan
  p = walk_plan w

  few : w.header.nodes ≤ 64
  few = (plan-held w.header w.links w.events at.valid).links-held.nodes-fit

  own_pair : v < x → x < w.header.nodes → look_pair_of w v x ≡ bounds_of intact (capped p n) v x
  unfolding plan_of_lists
  own_pair l k =
      let sum = get_or w.sums (place w.header.nodes v x) 0 in
      let low : sum ≡ lower_of intact (capped p n) v x = at.sums.each v x l k in
      let light : w.mass ≤ whole = omega (arith, at.pending) in
      let below : sum ≤ w.mass = omega (arith, at.sums.below (place w.header.nodes v x), at.masses) in
      let high : (whole - w.mass) + sum ≡ upper_of intact (capped p n) v x =
      omega (arith, low, at.masses, light, upper-lower (capped p n) (plan-probable p at.valid) (cuts intact p v x)) in
      shown-true w.header.nodes w.mass sum (sym (sum-decides w.header.nodes w.mass sum few light) ∙ le-leb sum w.mass below)
      ∙ λ i. record { lower = low i; upper = high i }

pub pair-looked : (p : Plan) (n : ℕ) (w : Walk) → WalkAt intact p n w → (v x : ℕ) → v < x → x < p.nodes → look_pair_of w v x ≡ bounds_of intact (capped p n) v x
unfolding plan_of_lists
pair-looked p n w at v x =
    subst (λ (q : Plan). WalkAt intact q n w → v < x → x < q.nodes → look_pair_of w v x ≡ bounds_of intact (capped q n) v x) at.plan
    (λ (here : WalkAt intact (walk_plan w) n w). own_pair w n here v x)
    at

-- the walk has as many nodes as its plan, so a look tests a pair as the plan does
pub nodes-same : (p : Plan) (n : ℕ) (w : Walk) → WalkAt intact p n w → w.header.nodes ≡ p.nodes
unfolding plan_of_lists
nodes-same p n w at = ap (λ (q : Plan). q.nodes) at.plan

pub tested-same : (p : Plan) (n : ℕ) (w : Walk) → WalkAt intact p n w → (v x : ℕ) → pair_test w.header.nodes v x ≡ pair_test p.nodes v x
tested-same p n w at v x = ap (λ (m : ℕ). pair_test m v x) (nodes-same p n w at)
