-- The host's calls: from the plan in arrays to the plan that a file stands for, and the two numbers in sixteen bytes.
-- Assumes nothing.
use Rattle.std.specs.Prelude.{Result, Ok, Err, OnOk}
use mathlib.Core.Path.{◌≡◌, sym, ap, subst, subst₂, ◌∙◌}
use mathlib.Core.List.{List, ◌++◌, append_assoc}
use Prim.Native.Nat.{ℕ, ◌+◌, ◌^◌, ◌<◌, ◌≤◌}
use native.Mathlib.Omega.{arith}
use lib.ListN.{length, drop, length-append}
use lib.Seq.{sets, sets-eq, take_at, drop_at}
use Rattle.mass.specs.Refusal.{number_in}
use Rattle.mass.specs.declared.refusal.Refusal.{Refusal}
use Rattle.mass.proofs.RefusalLaws.{number-some}
use Rattle.plan.specs.Plan.{Plan}
use Rattle.plan.specs.Layout.{little}
use Rattle.plan.specs.File.{plan_of, nodes_in}
use Rattle.plan.specs.LentLists.{plan_refusal, plan_of_lists}
use Rattle.plan.specs.Calls.{header_of}
use Rattle.plan.specs.declared.Header.{Header}
use Rattle.plan_lists.proofs.ListLaws.{sets_then}
use Rattle.plan_layout.proofs.LayoutNumbers.{length-little, value-little}
use Rattle.network.specs.Outage.{intact}
use Rattle.walk.specs.Walk.{count}
use Rattle.pairs.specs.Pairs.{pair_test}
use Rattle.bounds.specs.Bounds.{Encloses}
use Rattle.bounds.specs.Calls.{bounds_of}
use Rattle.bounds.specs.declared.PairBounds.{PairBounds}
use Rattle.bounds.proofs.Answers.{enclosed}
use Rattle.plan_reading.specs.Loaded.{Loaded}
use Rattle.wellember.specs.Host.{sixteen, lower_in, upper_in}

-- ---- from a file to its plan

-- the pair is tested by the number of nodes in the file
pub pair-same : (b : List ℕ) (h : Header) → h ≡ header_of b → (v w : ℕ) → pair_test h.nodes v w ≡ pair_test (nodes_in b) v w
unfolding header_of
pair-same b h e v w = ap (λ (x : Header). pair_test x.nodes v w) e

-- the bounds from the arrays are those of the plan that the file stands for
module _ (b links words : List ℕ) (l : Loaded b links words) (h : Header) (e : h ≡ header_of b) (v w : ℕ) (r : PairBounds)
    (is : r ≡ bounds_of intact (plan_of_lists h links words) v w) where
  pub bounds-are : r ≡ bounds_of intact (plan_of b) v w
  bounds-are =
      is
      ∙ ap (λ (x : Header). bounds_of intact (plan_of_lists x links words) v w) e
      ∙ ap (λ (p : Plan). bounds_of intact p v w) l.denoted

  pub bounds-enclose : Encloses intact (plan_of b) v w r.lower r.upper (count (plan_of b))
  bounds-enclose =
      let valid : plan_refusal (plan_of b) ≡ 0 = subst (λ (p : Plan). plan_refusal p ≡ 0) l.denoted l.valid in
      subst (λ (q : PairBounds). Encloses intact (plan_of b) v w q.lower q.upper (count (plan_of b))) (sym bounds-are)
      (enclosed intact (plan_of b) valid v w)

-- ---- the answer

-- what holds where an answer is given holds where its number is 0
pub where-given : {T P : Type 0} (r : Result T Refusal) → OnOk r P → number_in r ≡ 0 → P
where-given (Ok given) p z = p
where-given (Err r) p z = absurd (number-some r z)

-- ---- sixteen bytes

-- the two numbers laid down one after the other
pub bounds-laid : (out out₁ out₂ : List ℕ) (lower upper : ℕ)
    → out₁ ≡ sets out 0 (little 8 lower) → out₂ ≡ sets out₁ 8 (little 8 upper) → out₂ ≡ sets out 0 (sixteen lower upper)
unfolding sixteen
bounds-laid out out₁ out₂ lower upper e f =
    f ∙ sets_then (little 8 lower) (little 8 upper) out out₁ 0 8 e (omega (arith, length-little 8 lower))

-- and read back
module _ (out : List ℕ) (lower upper : ℕ) (room : 16 ≤ length out) where
  long : length (little 8 lower ++ little 8 upper) ≡ 16
  long = rw (length-append, length-little, length-little)

  laid : sets out 0 (sixteen lower upper) ≡ little 8 lower ++ (little 8 upper ++ drop (0 + length (little 8 lower ++ little 8 upper)) out)
  unfolding sixteen
  laid = sets-eq (little 8 lower ++ little 8 upper) out 0 (omega (arith, long)) ∙ append_assoc (little 8 lower) (little 8 upper) _

  pub lower-back : lower < 2 ^ 64 → lower_in (sets out 0 (sixteen lower upper)) ≡ lower
  lower-back h = rw (laid, take_at (little 8 lower) _ 8 (length-little 8 lower)) (value-little 8 lower h)

  pub upper-back : upper < 2 ^ 64 → upper_in (sets out 0 (sixteen lower upper)) ≡ upper
  upper-back h =
      rw (laid, drop_at (little 8 lower) _ 8 (length-little 8 lower), take_at (little 8 upper) _ 8 (length-little 8 upper))
      (value-little 8 upper h)

-- the bounds that are read back enclose the exact sum
pub laid-enclose : (p : Plan) (out out' : List ℕ) (v w : ℕ) (found : PairBounds) → 16 ≤ length out
    → out' ≡ sets out 0 (sixteen found.lower found.upper) → found.lower < 2 ^ 64 → found.upper < 2 ^ 64
    → Encloses intact p v w found.lower found.upper (count p) → Encloses intact p v w (lower_in out') (upper_in out') (count p)
laid-enclose p out out' v w found room e low high =
    let lower : found.lower ≡ lower_in out' = sym (ap lower_in e ∙ lower-back out found.lower found.upper room low) in
    let upper : found.upper ≡ upper_in out' = sym (ap upper_in e ∙ upper-back out found.lower found.upper room high) in
    subst₂ (λ (x y : ℕ). Encloses intact p v w x y (count p)) lower upper
