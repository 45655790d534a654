-- Planned work by the week: document 02, request U7. What is taken out never joins a pair; where no window holds the minute, all is as the run
-- gives it.
-- Assumes nothing.
use Rattle.std.specs.Prelude.{Result, IfOk}
use mathlib.Core.Path.{◌≡◌, refl, sym, ap₂, ◌∙◌}
use mathlib.Core.Bool.{Bool, true, false, not}
use mathlib.Core.List.{List, [], ◌∷◌, Memᴰ}
use Prim.Native.Nat.{ℕ, zero, suc, ◌≤◌}
use native.Mathlib.Nat.{mul-le-mul_left}
use native.Mathlib.Omega.{arith}
use lib.ListN.{length}
use Rattle.mass.specs.Refusal.{first, number_in}
use Rattle.mass.specs.declared.refusal.Refusal.{Refusal}
use Rattle.mass.proofs.RefusalLaws.{one_answer}
use Rattle.sets.specs.Sets.{digit}
use Rattle.plan.specs.Plan.{Plan}
use Rattle.plan.specs.LentLists.{Lent, plan_lent}
use Rattle.plan.specs.Calls.{filled}
use Rattle.network.specs.Outage.{Outage, intact}
use Rattle.topology.proofs.Theorems.{NoBetter, never-connects, outage-grows}
use Rattle.walk.specs.Scenario.{Scenario, failing_set}
use Rattle.walk.specs.Ends.{End, dropped, relevant, weighed}
use Rattle.walk.specs.Walk.{first_ends}
use Rattle.windows.specs.Windows.{Window, windows_in, holds, taken_out, work_refusal}
use Rattle.windows.proofs.Theorems.{no-window, more-windows}
use Rattle.bounds.specs.Bounds.{cuts, lower_of, upper_of, lower_list, upper_list}
use Rattle.bounds.specs.Calls.{run_number, run_at_number, totals_of}
use Rattle.bounds.specs.declared.Totals.{Totals}

-- a sum of masses grows with each weight
weighed-le : (f g : Scenario → ℕ) → ((s : Scenario) → f s ≤ g s) → (list : List End) → weighed f list ≤ weighed g list
weighed-le f g h [] = omega arith
weighed-le f g h (dropped ∷ list) = weighed-le f g h list
weighed-le f g h (relevant s m ∷ list) = omega (arith, mul-le-mul_left m (h s), weighed-le f g h list)

digit-le : (a b : Bool) → (a ≡ true → b ≡ true) → digit a ≤ digit b
digit-le true b h = rw (h refl) (omega arith)
digit-le false b h = omega arith

not-le : (a b : Bool) → (a ≡ true → b ≡ true) → digit (not b) ≤ digit (not a)
not-le true b h = rw (h refl) (omega arith)
not-le false true h = omega arith
not-le false false h = omega arith

-- "taking more out never lowers a pair's lower bound, nor its upper bound"; count, complete and E (`totals_of`) do not ask what is out
module _ (p : Plan) (out more : Outage) (worse : NoBetter out more) (v w : ℕ) where
  cut-kept : (s : Scenario) → cuts out p v w s ≡ true → cuts more p v w s ≡ true
  cut-kept s =
      never-connects p.nodes p.links _ _ (outage-grows p.events out more (failing_set s) (failing_set s) worse (λ i e. e)) v w

  pub more-lower : lower_of out p v w ≤ lower_of more p v w
  more-lower =
      weighed-le (λ s. digit (cuts out p v w s)) (λ s. digit (cuts more p v w s)) (λ s. digit-le _ _ (cut-kept s)) (first_ends p)

  pub more-upper : upper_of out p v w ≤ upper_of more p v w
  more-upper =
      omega (
        arith,
        weighed-le (λ s. digit (not (cuts more p v w s))) (λ s. digit (not (cuts out p v w s))) (λ s. not-le _ _ (cut-kept s)) (first_ends p),
      )

-- so with more windows neither bound falls
pub more-work : (p : Plan) (words more : List ℕ) (minute v w : ℕ) → ((x : Window) → Memᴰ x (windows_in words) → Memᴰ x (windows_in more))
    → (lower_of (taken_out words minute) p v w ≤ lower_of (taken_out more minute) p v w)
    × (upper_of (taken_out words minute) p v w ≤ upper_of (taken_out more minute) p v w)
more-work p words more minute v w all =
    let worse = more-windows (windows_in words) minute (windows_in more) all in
    (more-lower p _ _ worse v w, more-upper p _ _ worse v w)

-- a test that passes after another decides nothing
pub last-passes : (number later : ℕ) → later ≡ 0 → first (number ∷ later ∷ []) ≡ number
unfolding first
last-passes zero later e = rw e
last-passes (suc number) later e = refl

-- "where no window holds the minute, all is as `run` gives it": the number, the answer, and what is left in both lists
module _ (l : Lent) (windows : List ℕ) (minute : ℕ) (lower upper : List ℕ)
    (fair : work_refusal l.header.nodes l.header.links windows minute ≡ 0)
    (none : (x : Window) → Memᴰ x (windows_in windows) → holds x minute ≡ false) where
  abbrev p : Plan
  p = plan_lent l

  abbrev at_number : ℕ
  at_number = run_at_number l (length lower) (length upper) windows minute

  abbrev number₀ : ℕ
  number₀ = run_number l (length lower) (length upper)

  pub same_number : at_number ≡ number₀
  unfolding run_at_number
  same_number = last-passes number₀ _ fair

  nothing-out : taken_out windows minute ≡ intact
  nothing-out = no-window (windows_in windows) minute none

  -- two answers with these numbers, each with the totals of the plan where it is given, are one
  pub same_answer : (at plain : Result Totals Refusal) → number_in at ≡ at_number → IfOk at (λ t. t ≡ totals_of p)
      → number_in plain ≡ number₀ → IfOk plain (λ t. t ≡ totals_of p) → at ≡ plain
  same_answer at plain a ta b tb = one_answer at plain (totals_of p) (a ∙ same_number ∙ sym b) ta tb

  pub same-lowers : filled at_number (lower_list (taken_out windows minute) p) lower ≡ filled number₀ (lower_list intact p) lower
  same-lowers = ap₂ (λ (n : ℕ) (o : Outage). filled n (lower_list o p) lower) same_number nothing-out

  pub same-uppers : filled at_number (upper_list (taken_out windows minute) p) upper ≡ filled number₀ (upper_list intact p) upper
  same-uppers = ap₂ (λ (n : ℕ) (o : Outage). filled n (upper_list o p) upper) same_number nothing-out
