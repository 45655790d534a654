-- The answers of the run and of one pair, and what they leave in the lists, from what the walk gave.
-- Assumes nothing.
use mathlib.Core.Path.{◌≡◌, sym, ap, subst₂, ◌∙◌}
use mathlib.Core.List.{List, map}
use Prim.Native.Nat.{ℕ, ◌+◌, ◌-◌, ◌<◌, ◌≤◌}
use native.Mathlib.Omega.{arith}
use lib.ListN.{length, get_or, take, get_or-append}
use lib.Seq.{sets, sets-eq}
use Rattle.mass.specs.Split.{whole}
use Rattle.plan.specs.Plan.{Plan}
use Rattle.plan.specs.LentLists.{plan_refusal}
use Rattle.network.specs.Outage.{Outage}
use Rattle.walk.specs.Walk.{mass_examined, count}
use Rattle.walk.proofs.Theorems.{mass_examined-le}
use Rattle.walk.proofs.Valid.{plan-probable}
use Rattle.sums.proofs.BoundsLaws.{upper-lower}
use Rattle.sums.proofs.Theorems.{demand3-valid}
use Rattle.pairs.specs.BoundsFit.{BoundsFit}
use Rattle.pairs.specs.Pairs.{table, place, pair_count}
use Rattle.pairs.proofs.PairLaws.{table_is, table_at, table-long, map-table, table_same, place-lt, pairs-most}
use Rattle.bounds.specs.Bounds.{cuts, lower_of, upper_of, lower_list, upper_list, Encloses, EnclosesAll}
use Rattle.bounds.specs.Calls.{bounds_of}
use Rattle.bounds.specs.Summed.{Summed}
use Rattle.bounds.specs.declared.PairBounds.{PairBounds}

-- ---- the bounds of an accepted plan

module _ (p : Plan) (valid : plan_refusal p ≡ 0) where
  pub mass-most : mass_examined p ≤ whole
  mass-most = mass_examined-le p (plan-probable p valid)

-- with some nodes and links out before the first event
module _ (out : Outage) (p : Plan) (valid : plan_refusal p ≡ 0) where
  -- upper is what is not examined, and lower
  pub raised : (v w : ℕ) → (whole - mass_examined p) + lower_of out p v w ≡ upper_of out p v w
  raised v w = omega (arith, upper-lower p (plan-probable p valid) (cuts out p v w), mass-most p valid)

  pub enclosed : (v w : ℕ) → Encloses out p v w (lower_of out p v w) (upper_of out p v w) (count p)
  enclosed v w = demand3-valid p valid (cuts out p v w)

  -- sums of the whole walk may be given out
  pub giving : (n mass : ℕ) (sums lower upper : List ℕ) → Summed out p n sums → mass ≡ mass_examined p → n ≤ 64
      → pair_count n ≤ length lower → pair_count n ≤ length upper → BoundsFit n mass sums lower upper
  giving n mass sums lower upper s e few l u =
      record {
        few = few;
        light = omega (arith, mass-most p valid);
        sized = s.sized;
        below = λ i. omega (arith, s.below i, mass-most p valid);
        lower-room = l;
        upper-room = u;
      }

  -- the bounds of a pair, from the sums
  pub pair-bounds : (n mass : ℕ) (sums : List ℕ) (r : PairBounds) → Summed out p n sums → mass ≡ mass_examined p → (v w : ℕ) → v < w → w < n
      → (r.lower ≡ get_or sums (place n v w) 0) × (r.upper ≡ (whole - mass) + get_or sums (place n v w) 0) → r ≡ bounds_of out p v w
  pair-bounds n mass sums r s e v w l k is =
      let low : r.lower ≡ lower_of out p v w = is.0 ∙ s.each v w l k in
      let high : r.upper ≡ upper_of out p v w = omega (arith, is.1, s.each v w l k, raised v w, e) in
      λ i. record { lower = low i; upper = high i }

  -- ---- the lists

  lowers-are : (sums : List ℕ) → Summed out p p.nodes sums → p.nodes ≤ 64 → take (pair_count p.nodes) sums ≡ lower_list out p
  lowers-are sums s few = table_is (lower_of out p) p.nodes sums (omega (arith, s.sized, pairs-most p.nodes few)) s.each

  uppers-are : (sums : List ℕ) → Summed out p p.nodes sums → p.nodes ≤ 64
      → map (λ x. (whole - mass_examined p) + x) (take (pair_count p.nodes) sums) ≡ upper_list out p
  uppers-are sums s few =
      ap (map (λ x. (whole - mass_examined p) + x)) (lowers-are sums s few)
      ∙ map-table (λ x. (whole - mass_examined p) + x) (lower_of out p) p.nodes
      ∙ table_same (λ v w. (whole - mass_examined p) + lower_of out p v w) (upper_of out p) p.nodes raised

  -- what was laid down is found at each pair's place
  at_place : (f : ℕ → ℕ → ℕ) (list : List ℕ) → pair_count p.nodes ≤ length list → p.nodes ≤ 64 → (v w : ℕ) → v < w → w < p.nodes
      → get_or (sets list 0 (table f p.nodes)) (place p.nodes v w) 0 ≡ f v w
  at_place f list room few v w l k =
      let long : length (table f p.nodes) ≡ pair_count p.nodes = table-long f p.nodes in
      rw (sets-eq (table f p.nodes) list 0 (omega arith))
      (get_or-append (table f p.nodes) _ 0 (place p.nodes v w) (omega (arith, place-lt p.nodes v w few l k))
      ∙ table_at f p.nodes v w l k)

  module _ (sums : List ℕ) (s : Summed out p p.nodes sums) (few : p.nodes ≤ 64) where
    pub lower-laid : (lower : List ℕ) → sets lower 0 (take (pair_count p.nodes) sums) ≡ sets lower 0 (lower_list out p)
    lower-laid lower = ap (sets lower 0) (lowers-are sums s few)

    pub upper-laid : (upper : List ℕ) (mass : ℕ) → mass ≡ mass_examined p
        → sets upper 0 (map (λ x. (whole - mass) + x) (take (pair_count p.nodes) sums)) ≡ sets upper 0 (upper_list out p)
    upper-laid upper mass e =
        ap (λ (m : ℕ). sets upper 0 (map (λ x. (whole - m) + x) (take (pair_count p.nodes) sums))) e
        ∙ ap (sets upper 0) (uppers-are sums s few)

  -- DEMAND 3 for the numbers in the lists
  pub all-enclosed : (lower upper : List ℕ) → p.nodes ≤ 64 → pair_count p.nodes ≤ length lower → pair_count p.nodes ≤ length upper
      → EnclosesAll out p (sets lower 0 (lower_list out p)) (sets upper 0 (upper_list out p)) (count p)
  all-enclosed lower upper few lr ur v w l k =
      subst₂ (λ (a c : ℕ). Encloses out p v w a c (count p))
      (sym (at_place (lower_of out p) lower lr few v w l k))
      (sym (at_place (upper_of out p) upper ur few v w l k))
      (enclosed v w)
