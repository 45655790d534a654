-- What the calls of the crate `panel` answer, for every input: document 02, request U4.
-- Assumes nothing.
use Rattle.std.specs.Prelude.{◌≡◌, Bool, true, false, ◌&&◌, ℕ, ◌+◌, ◌-◌, min, ltb, leb, eqb, get_or, Result, Ok, Err}
use Rattle.mass.specs.Refusal.{refuse, number_in}
use Rattle.mass.specs.declared.refusal.Refusal.{Refusal}
use Rattle.mass.specs.Split.{whole}
use Rattle.sets.specs.Sets.{digit}
use Rattle.plan.specs.Plan.{Plan}
use Rattle.network.specs.Outage.{intact}
use Rattle.pairs.specs.Pairs.{place}
use Rattle.bounds.specs.declared.Totals.{Totals}
use Rattle.bounds.specs.declared.PairBounds.{PairBounds}
use Rattle.walk_state.specs.Sound.{sound}
use Rattle.panel.specs.Walks.{WalkAt, ends_left}
use Rattle.walk_state.specs.declared.Walk.{Walk}
use Rattle.panel.specs.declared.Quota.{Quota}

-- "One quota of 10,000,000 ends serves all go-on calls": what is left of it at power-up
abbrev pub full_quota : Quota
full_quota = record { left = 10000000 }

-- 19: the quota is empty
abbrev pub quota_test : ℕ → ℕ
quota_test left = refuse (eqb left 0) 19

-- how many ends a go-on is to reach, the quota aside: the smaller of k and the ends the walk still has under the plan's cap; none from a
-- state that is no walk
unfoldable pub ends_wanted : Walk → ℕ → ℕ
ends_wanted w k = elim (sound w) [ true ↦ min k (ends_left w) | false ↦ 0 ]

-- "Refused: after those two cases, 19 where the quota is empty": an ended walk, or k = 0, is to reach no end
unfoldable pub go_on_number : Walk → Quota → ℕ → ℕ
go_on_number w quota k = elim (ltb 0 (ends_wanted w k)) [ true ↦ quota_test quota.left | false ↦ 0 ]

-- a go-on that was made: its number, which is 0 where nothing is refused; how many ends it reached; the walk and the quota after it
pub record GoneOn : Type 0 where
  pub number : ℕ
  pub reached : ℕ
  pub walk : Walk
  pub quota : Quota

-- how many ends an answer says were reached: none where it refuses
abbrev pub reached_in : Result ℕ Refusal → ℕ
reached_in (Ok reached) = reached
reached_in (Err refused) = 0

-- the go-on that has this answer and leaves this walk and this quota
abbrev pub gone_on : Result ℕ Refusal → Walk → Quota → GoneOn
gone_on answer walk quota = record { number = number_in answer; reached = reached_in answer; walk = walk; quota = quota }

-- what a go-on for at most k ends answers: its number, how many ends it reached ("exactly the smallest of k, the ends the walk still has
-- under the plan's cap, and what the quota still holds"), and what is left of the quota. Where it reached none, the walk is as it was; a
-- walk of a plan that has reached n ends has then reached so many more.
pub record WentOn (w : Walk) (quota : Quota) (k : ℕ) (r : GoneOn) : Type 0 where
  pub number : r.number ≡ go_on_number w quota k
  pub reached : r.reached ≡ min (ends_wanted w k) quota.left
  pub drawn : r.quota.left + r.reached ≡ quota.left
  pub unmoved : r.reached ≡ 0 → r.walk ≡ w
  pub moved : (p : Plan) (n : ℕ) → WalkAt intact p n w → WalkAt intact p (n + r.reached) r.walk

-- what a look shows: the count, whether the stack is empty (1 or 0), and E
abbrev pub look_of : Walk → Totals
look_of w = record { count = w.count; complete = digit (leb 512 w.at); mass = w.mass }

-- a node count, a mass and a pair's sum that may be those of a walk
unfoldable pub may_show : ℕ → ℕ → ℕ → Bool
may_show nodes mass sum = leb nodes 64 && (leb mass whole && leb sum mass)

-- the bounds of a pair that a look shows, from these three; where they are not those of a walk nothing is known of the pair: 0 and one
-- whole
unfoldable pub bounds_shown : ℕ → ℕ → ℕ → PairBounds
bounds_shown nodes mass sum =
    elim (may_show nodes mass sum) [
      | true ↦ record { lower = sum; upper = (whole - mass) + sum }
      | false ↦ record { lower = 0; upper = whole }
    ]

-- the bounds of the pair (v, x) that a look at it shows
abbrev pub look_pair_of : Walk → ℕ → ℕ → PairBounds
look_pair_of w v x = bounds_shown w.header.nodes w.mass (get_or w.sums (place w.header.nodes v x) 0)
