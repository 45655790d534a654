-- The answers of a run on lent lists, from what the walk of the arrays gave.
-- Assumes nothing.
use mathlib.Core.Path.{◌≡◌, sym, ap, subst, ◌∙◌}
use mathlib.Core.List.{List, map}
use Prim.Native.Nat.{ℕ, ◌+◌, ◌-◌, ◌≤◌}
use lib.ListN.{length, take}
use lib.Seq.{sets}
use Rattle.mass.specs.Split.{whole}
use Rattle.plan.specs.Plan.{Plan}
use Rattle.plan.specs.LentLists.{plan_refusal, plan_of_lists}
use Rattle.plan.specs.declared.Header.{Header}
use Rattle.plan_lists.specs.Taken.{Taken}
use Rattle.network.specs.Outage.{Outage}
use Rattle.walk.specs.Walk.{mass_examined}
use Rattle.pairs.specs.BoundsFit.{BoundsFit}
use Rattle.pairs.specs.Pairs.{pair_count}
use Rattle.bounds.specs.Bounds.{lower_list, upper_list, EnclosesAll}
use Rattle.bounds.specs.Calls.{totals_of}
use Rattle.bounds.specs.Summed.{Summed}
use Rattle.bounds.specs.declared.Totals.{Totals}
use Rattle.bounds.proofs.Answers.{giving, lower-laid, upper-laid, all-enclosed}

-- ---- a run over a network of which some nodes and links are out

-- the walk of the arrays that accepted lists were taken into filled the two lists
module _ (out : Outage) (h : Header) (links events bytes words : List ℕ) (t : Taken h links events bytes words) (lower upper : List ℕ) where
  abbrev p : Plan
  p = plan_of_lists h links events

  pub totals-are : (totals : Totals) → totals ≡ totals_of (plan_of_lists h bytes words) → totals ≡ totals_of p
  totals-are totals e = e ∙ ap totals_of t.denoted

  pub lowers-laid : (lower' : List ℕ) → lower' ≡ sets lower 0 (lower_list out (plan_of_lists h bytes words)) → lower' ≡ sets lower 0 (lower_list out p)
  lowers-laid lower' e = e ∙ ap (λ (q : Plan). sets lower 0 (lower_list out q)) t.denoted

  pub uppers-laid : (upper' : List ℕ) → upper' ≡ sets upper 0 (upper_list out (plan_of_lists h bytes words)) → upper' ≡ sets upper 0 (upper_list out p)
  uppers-laid upper' e = e ∙ ap (λ (q : Plan). sets upper 0 (upper_list out q)) t.denoted

  pub enclosed-all : (totals : Totals) (lower' upper' : List ℕ) → (pair_count h.nodes ≤ length lower) × (pair_count h.nodes ≤ length upper)
      → totals ≡ totals_of (plan_of_lists h bytes words)
      → lower' ≡ sets lower 0 (lower_list out (plan_of_lists h bytes words))
      → upper' ≡ sets upper 0 (upper_list out (plan_of_lists h bytes words))
      → EnclosesAll out p lower' upper' totals.count
  unfolding plan_of_lists
  enclosed-all totals lower' upper' fits e l u =
      subst (λ (c : ℕ). EnclosesAll out p lower' upper' c) (ap (λ (x : Totals). x.count) (sym (totals-are totals e)))
      (rw (lowers-laid lower' l, uppers-laid upper' u) (all-enclosed out p t.valid lower upper t.held.links-held.nodes-fit fits.0 fits.1))

-- the walk of the arrays gave the totals and the sums: what is laid down from them are the two lists of bounds
module _ (out : Outage) (h : Header) (links words : List ℕ) (valid : plan_refusal (plan_of_lists h links words) ≡ 0) (few : h.nodes ≤ 64)
    (totals : Totals) (sums : List ℕ) (is : totals ≡ totals_of (plan_of_lists h links words))
    (s : Summed out (plan_of_lists h links words) h.nodes sums) (lower upper : List ℕ) where
  pub mass-of : totals.mass ≡ mass_examined (plan_of_lists h links words)
  mass-of = ap (λ (x : Totals). x.mass) is

  pub may-give : (pair_count h.nodes ≤ length lower) × (pair_count h.nodes ≤ length upper)
      → BoundsFit h.nodes totals.mass sums lower upper
  may-give fits = giving out (plan_of_lists h links words) valid h.nodes totals.mass sums lower upper s mass-of few fits.0 fits.1

  pub lower-filled : (lower' : List ℕ) → lower' ≡ sets lower 0 (take (pair_count h.nodes) sums)
      → lower' ≡ sets lower 0 (lower_list out (plan_of_lists h links words))
  unfolding plan_of_lists
  lower-filled lower' l = l ∙ lower-laid out (plan_of_lists h links words) valid sums s few lower

  pub upper-filled : (upper' : List ℕ) → upper' ≡ sets upper 0 (map (λ x. (whole - totals.mass) + x) (take (pair_count h.nodes) sums))
      → upper' ≡ sets upper 0 (upper_list out (plan_of_lists h links words))
  unfolding plan_of_lists
  upper-filled upper' u = u ∙ upper-laid out (plan_of_lists h links words) valid sums s few upper totals.mass mass-of

-- accepted lists, taken into arrays, make a plan that meets no refusal there too
pub arrays-valid : (h : Header) (links events bytes words : List ℕ) → Taken h links events bytes words → plan_refusal (plan_of_lists h bytes words) ≡ 0
arrays-valid h links events bytes words t = subst (λ (q : Plan). plan_refusal q ≡ 0) (sym t.denoted) t.valid
