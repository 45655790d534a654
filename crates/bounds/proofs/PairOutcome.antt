-- The answer of one pair on lent lists, from what the walk of the arrays gave.
-- Assumes nothing.
use mathlib.Core.Path.{◌≡◌, sym, ap, subst, ◌∙◌}
use mathlib.Core.List.{List}
use Prim.Native.Nat.{ℕ, ◌+◌, ◌-◌, ◌≤◌, ◌<◌}
use native.Mathlib.Omega.{arith}
use lib.ListN.{length, get_or}
use Rattle.mass.specs.Split.{whole}
use Rattle.plan.specs.Plan.{Plan}
use Rattle.plan.specs.LentLists.{plan_refusal, plan_of_lists}
use Rattle.plan.specs.declared.Header.{Header}
use Rattle.plan_lists.specs.Taken.{Taken}
use Rattle.plan_lists.proofs.Accepted.{plan-held}
use Rattle.network.specs.Outage.{intact}
use Rattle.walk.specs.Walk.{count}
use Rattle.walk.proofs.Valid.{plan-probable}
use Rattle.sums.proofs.BoundsLaws.{lower-upper, upper-le}
use Rattle.pairs.specs.BoundsFit.{BoundsFit}
use Rattle.pairs.specs.Pairs.{pair_count, place}
use Rattle.pairs.proofs.PairLaws.{pairs-most}
use Rattle.bounds.specs.Bounds.{cuts, lower_of, upper_of, Encloses}
use Rattle.bounds.specs.Calls.{totals_of, bounds_of}
use Rattle.bounds.specs.Summed.{Summed}
use Rattle.bounds.specs.declared.Totals.{Totals}
use Rattle.bounds.specs.declared.PairBounds.{PairBounds}
use Rattle.bounds.proofs.Answers.{pair-bounds, enclosed}
use Rattle.bounds.proofs.Outcome.{may-give, mass-of}

-- the walk of the arrays of an accepted plan gave the totals and the sums
module _ (h : Header) (links words : List ℕ) (valid : plan_refusal (plan_of_lists h links words) ≡ 0) (totals : Totals) (sums : List ℕ)
    (is : totals ≡ totals_of (plan_of_lists h links words)) (s : Summed intact (plan_of_lists h links words) h.nodes sums) where
  few : h.nodes ≤ 64
  few = (plan-held h links words valid).links-held.nodes-fit

  pub may-give-own : BoundsFit h.nodes totals.mass sums sums sums
  may-give-own =
      let most : pair_count h.nodes ≤ length sums = rw s.sized (pairs-most h.nodes few) in
      may-give intact h links words valid few totals sums is s sums sums (most, most)

  -- the bounds of a pair from the sums are those of the plan
  pub own-bounds : (v w : ℕ) (r : PairBounds) → (v < w) × (w < h.nodes)
      → (r.lower ≡ get_or sums (place h.nodes v w) 0) × (r.upper ≡ (whole - totals.mass) + get_or sums (place h.nodes v w) 0)
      → r ≡ bounds_of intact (plan_of_lists h links words) v w
  own-bounds v w r i at =
      pair-bounds intact (plan_of_lists h links words) valid h.nodes totals.mass sums r s
      (mass-of intact h links words valid few totals sums is s sums sums) v w i.0 i.1 at

-- the bounds from the arrays that accepted lists were taken into
module _ (h : Header) (links events : List ℕ) (v w : ℕ) (bytes words : List ℕ) (t : Taken h links events bytes words) (r : PairBounds)
    (e : r ≡ bounds_of intact (plan_of_lists h bytes words) v w) where
  abbrev plan : Plan
  plan = plan_of_lists h links events

  pub bounds-are : r ≡ bounds_of intact plan v w
  bounds-are = e ∙ ap (λ (q : Plan). bounds_of intact q v w) t.denoted

  pub pair-enclosed : Encloses intact plan v w r.lower r.upper (count plan)
  pair-enclosed =
      subst (λ (b : PairBounds). Encloses intact plan v w b.lower b.upper (count plan)) (sym bounds-are) (enclosed intact plan t.valid v w)

  pub pair-ordered : (r.lower ≤ r.upper) × (r.upper ≤ whole)
  pair-ordered =
      let probable = plan-probable plan t.valid in
      let low : r.lower ≡ lower_of intact plan v w = ap (λ (b : PairBounds). b.lower) bounds-are in
      let high : r.upper ≡ upper_of intact plan v w = ap (λ (b : PairBounds). b.upper) bounds-are in
      let most : upper_of intact plan v w ≤ whole = upper-le plan probable (cuts intact plan v w) in
      (omega (arith, low, high, lower-upper plan probable (cuts intact plan v w)), omega (arith, high, most))
