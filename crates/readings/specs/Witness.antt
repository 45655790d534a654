-- Witness: document 01, section "Further readings of a plan", as document 02, request U5, has it: the first one.
-- Assumes nothing.
use Rattle.std.specs.Prelude.{Bool, true, false, not, ◌||◌, List, [], ◌∷◌, ℕ, ◌/◌, ◌%◌, ◌^◌}
use Rattle.mass.specs.Refusal.{refuse, first}
use Rattle.plan.specs.Plan.{Plan}
use Rattle.plan.specs.LentLists.{Lent, plan_lent}
use Rattle.network.specs.Outage.{Outage}
use Rattle.walk.specs.Scenario.{Scenario, failing_set}
use Rattle.walk.specs.Walk.{examined}
use Rattle.walk.specs.declared.Failing.{Failing}
use Rattle.bounds.specs.Bounds.{cuts}
use Rattle.bounds.specs.Calls.{pair_number}

-- whether a test holds of one of the scenarios of a list
unfoldable pub some : (Scenario → Bool) → List Scenario → Bool
some test [] = false
some test (s ∷ list) = test s || some test list

-- the first scenario of a list of which a test holds; where there is none it is [], which is not shown: the answer is then 14
unfoldable pub first_where : (Scenario → Bool) → List Scenario → Scenario
first_where test [] = []
first_where test (s ∷ list) = elim (test s) [ true ↦ s | false ↦ first_where test list ]

-- 14: none of the scenarios of a list disconnects the pair (v, w)
abbrev pub none_test : Outage → Plan → ℕ → ℕ → List Scenario → ℕ
none_test out p v w list = refuse (not (some (cuts out p v w) list)) 14

-- the witness of a pair: the tests of the pair's bounds, then 14 where no examined scenario disconnects the pair
unfoldable pub witness_number : Outage → Lent → ℕ → ℕ → ℕ
witness_number out l v w = first (pair_number l v w ∷ none_test out (plan_lent l) v w (examined (plan_lent l)) ∷ [])

-- "the first examined scenario, in walk order, that disconnects the pair" (v, w)
abbrev pub first_cut : Outage → Plan → ℕ → ℕ → Scenario
first_cut out p v w = first_where (cuts out p v w) (examined p)

-- "the 128-bit set of its failing events": events 0 to 63 in the low word, 64 to 127 in the high one
abbrev pub failing_of : Scenario → Failing
failing_of s = record { low = failing_set s % 2 ^ 64; high = failing_set s / 2 ^ 64 }

-- THE WITNESS of the pair (v, w): the failing events of the first examined scenario that disconnects the pair
abbrev pub witness_of : Outage → Plan → ℕ → ℕ → Failing
witness_of out p v w = failing_of (first_cut out p v w)
