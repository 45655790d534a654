-- The loop of the run over the relevant scenarios of the walk: what it asks and promises, from any state.
-- Assumes nothing.
use Rattle.std.specs.Prelude.{◌≡◌, Bool, List, ℕ, ◌+◌, ◌*◌, ◌<◌, ◌≤◌, length, get_or, take, drop}
use Rattle.mass.specs.Split.{whole}
use Rattle.sets.specs.Sets.{digit}
use Rattle.plan.specs.declared.Header.{Header}
use Rattle.plan.specs.LentLists.{plan_of_lists}
use Rattle.plan.specs.Held.{Held}
use Rattle.network.specs.Outage.{Outage}
use Rattle.walk.specs.Ends.{End, sum_ends, weighed}
use Rattle.walk.specs.Stack.{Stack, to_come, pending_mass}
use Rattle.pairs.specs.Pairs.{place}
use Rattle.bounds.specs.Bounds.{cuts}
use Rattle.bounds.specs.declared.Tally.{Tally}

-- the entries of the pairs, each with room for a mass
pub record Room (mass : ℕ) (lower : List ℕ) : Type 0 where
  pub sized : length lower ≡ 2016
  pub fits : (i : ℕ) → get_or lower i 0 + mass ≤ whole

-- a mass is added to the entries of the pairs of n nodes that are cut
pub record MassAdded (n : ℕ) (cut : ℕ → ℕ → Bool) (mass : ℕ) (lower lower' : List ℕ) : Type 0 where
  pub sized : length lower' ≡ 2016
  pub most : (i : ℕ) → get_or lower' i 0 ≤ get_or lower i 0 + mass
  pub each : (v w : ℕ) → v < w → w < n → get_or lower' (place n v w) 0 ≡ get_or lower (place n v w) 0 + mass * digit (cut v w)

-- what is walked: what is out before the first event, a header, and the arrays of links and events
pub record WalkedPlan : Type 0 where
  pub out : Outage
  pub header : Header
  pub links : List ℕ
  pub words : List ℕ

abbrev pub walked_plan : Outage → Header → List ℕ → List ℕ → WalkedPlan
walked_plan out h links words = record { out = out; header = h; links = links; words = words }

-- a state of the loop: the stack, the entries of the pairs, and the sums so far
pub record RunState : Type 0 where
  pub stack : List ℕ
  pub lower : List ℕ
  pub sums : Tally

abbrev pub run_state : List ℕ → List ℕ → Tally → RunState
run_state stack lower sums = record { stack = stack; lower = lower; sums = sums }

-- the ends still to come of a walk over lent lists, in a state
abbrev pub coming : Header → List ℕ → RunState → List End
coming h words s = to_come h.events h.threshold words s.sums.at s.stack

-- those that are reached: so many as may still be
abbrev pub reached : Header → List ℕ → RunState → List End
reached h words s = take s.sums.left (coming h words s)

-- what the loop asks: a stack that denotes the ends to come, no entry above the mass so far, and room for the ends that are reached
pub record Ready (h : Header) (links words : List ℕ) (s : RunState) : Type 0 where
  pub held : Held h links words
  pub stacked : Stack h.events s.sums.at s.stack
  pub sized : length s.lower ≡ 2016
  pub below : (i : ℕ) → get_or s.lower i 0 ≤ s.sums.mass
  pub fits : s.sums.mass + sum_ends (λ e m. m) (reached h words s) ≤ whole
  pub counted : s.sums.count + s.sums.left < 4294967296

-- what it promises: the sums so far plus those over the ends that are reached, the others still to come, and how many of the allowed ends
-- were not used; the mass added comes off that of the pending branches
pub record Tallied (p : WalkedPlan) (s s' : RunState) : Type 0 where
  pub counts : s'.sums.count ≡ s.sums.count + sum_ends (λ e m. 1) (reached p.header p.words s)
  pub masses : s'.sums.mass ≡ s.sums.mass + sum_ends (λ e m. m) (reached p.header p.words s)
  pub entries : (v w : ℕ) → v < w → w < p.header.nodes
      → get_or s'.lower (place p.header.nodes v w) 0
      ≡ get_or s.lower (place p.header.nodes v w) 0
      + weighed (λ e. digit (cuts p.out (plan_of_lists p.header p.links p.words) v w e)) (reached p.header p.words s)
  pub below : (i : ℕ) → get_or s'.lower i 0 ≤ s'.sums.mass
  pub left : s'.sums.left + length (reached p.header p.words s) ≡ s.sums.left
  pub rest : coming p.header p.words s' ≡ drop s.sums.left (coming p.header p.words s)
  pub stacked : Stack p.header.events s'.sums.at s'.stack
  pub sized : length s'.lower ≡ 2016
  pub lighter : s'.sums.mass + pending_mass (drop s'.sums.at s'.stack) ≤ s.sums.mass + pending_mass (drop s.sums.at s.stack)
