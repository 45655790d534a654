-- The run uses no record past the first 128.
-- Assumes nothing.
use Rattle.std.specs.Prelude.{Result, Ok, Err, IfOk}
use mathlib.Core.Path.{◌≡◌, refl, sym, ap, subst, ◌∙◌}
use mathlib.Core.List.{List, [], ◌∷◌}
use Prim.Native.Nat.{ℕ, zero, suc}
use lib.ListN.{length, take}
use Rattle.mass.specs.Refusal.{first, number_in}
use Rattle.mass.specs.declared.refusal.Refusal.{Refusal}
use Rattle.mass.proofs.RefusalLaws.{first-none}
use Rattle.refusals.specs.Tests.{room_test}
use Rattle.plan.specs.Plan.{Plan}
use Rattle.plan.specs.LentLists.{Lent, plan_lent, in_words, lists_number}
use Rattle.plan.specs.Calls.{filled}
use Rattle.plan.specs.declared.Header.{Header}
use Rattle.network.specs.Outage.{intact}
use Rattle.pairs.specs.Pairs.{pair_count}
use Rattle.bounds.specs.Bounds.{lower_list, upper_list, EnclosesAll}
use Rattle.bounds.specs.Calls.{run_number, totals_of}
use Rattle.bounds.specs.declared.Totals.{Totals}
use Rattle.record_lists.specs.Events.{words_of, in_records}
use Rattle.record_lists.specs.declared.Event.{Event}
use Rattle.record_lists.proofs.PlanLaws.{plan-same, told-all}

-- an answer of a run that is refused with number n, or done on plan p, with what it leaves in the lists of bounds
abbrev pub Promised : ℕ → Plan → List ℕ → List ℕ → Result Totals Refusal → List ℕ → List ℕ → Type 0
Promised n p lo up r lo' up' =
    (number_in r ≡ n)
    × (IfOk r (λ t. t ≡ totals_of p)
    × ((lo' ≡ filled (number_in r) (lower_list intact p) lo)
    × ((up' ≡ filled (number_in r) (upper_list intact p) up)
    × IfOk r (λ t. EnclosesAll intact p lo' up' t.count))))

-- that of the run on what is lent
abbrev pub Outcome : Lent → List ℕ → List ℕ → Result Totals Refusal → List ℕ → List ℕ → Type 0
Outcome l lo up = Promised (run_number l (length lo) (length up)) (plan_lent l) lo up

module _ (h : Header) (ks : List ℕ) (es : List Event) (lo up : List ℕ) where
  abbrev few : Lent
  few = in_words h ks (words_of (take 128 es))

  abbrev all : Lent
  all = in_records h ks es

  -- the tests of the run, from the number of the lists'
  abbrev after : ℕ → ℕ
  after n = first (n ∷ room_test (length lo) (pair_count h.nodes) ∷ room_test (length up) (pair_count h.nodes) ∷ [])

  lists-fine : run_number all (length lo) (length up) ≡ 0 → lists_number all ≡ 0
  unfolding run_number
  lists-fine z = (first-none _ _ z).0

  module _ (r : Result Totals Refusal) (lo' up' : List ℕ) (o : Outcome few lo up r lo' up') where
    number : number_in r ≡ run_number all (length lo) (length up)
    unfolding run_number first
    number = o.0 ∙ told-all h ks es (λ n p. after n) (λ n p q. refl)

    same : number_in r ≡ 0 → plan_lent few ≡ plan_lent all
    same z = plan-same h ks es (lists-fine (sym number ∙ z))

    -- what is told of an answer that is given
    told : (P : Plan → Totals → Type 0) → IfOk r (P (plan_lent few)) → IfOk r (P (plan_lent all))
    told P = go r same
      where
        go : (x : Result Totals Refusal) → (number_in x ≡ 0 → plan_lent few ≡ plan_lent all) → IfOk x (P (plan_lent few)) → IfOk x (P (plan_lent all))
        go (Ok t) e h = subst (λ (p : Plan). P p t) (e refl) h
        go (Err x) e h = tt

    -- what is left in a list, which bounds of a plan fill
    left : (bounds : Plan → List ℕ) (list : List ℕ) → filled (number_in r) (bounds (plan_lent few)) list ≡ filled (number_in r) (bounds (plan_lent all)) list
    left bounds list = go (number_in r) same
      where
        go : (n : ℕ) → (n ≡ 0 → plan_lent few ≡ plan_lent all) → filled n (bounds (plan_lent few)) list ≡ filled n (bounds (plan_lent all)) list
        go zero e = ap (λ (p : Plan). filled 0 (bounds p) list) (e refl)
        go (suc n) e = refl

    pub run-concluded : Outcome all lo up r lo' up'
    run-concluded = (
      number,
      (
        told (λ p t. t ≡ totals_of p) o.1.0,
        (
          o.1.1.0 ∙ left (lower_list intact) lo,
          (o.1.1.1.0 ∙ left (upper_list intact) up, told (λ p t. EnclosesAll intact p lo' up' t.count) o.1.1.1.1),
        ),
      ),
    )
