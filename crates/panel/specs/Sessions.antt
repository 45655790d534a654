-- Lists of go-on calls on one quota: a walk, and others that draw on the same quota in between.
-- Assumes nothing.
use Rattle.std.specs.Prelude.{List, [], ◌∷◌, ℕ, ◌+◌}
use Rattle.panel.specs.Calls.{GoneOn, WentOn}
use Rattle.walk_state.specs.declared.Walk.{Walk}
use Rattle.panel.specs.declared.Quota.{Quota}

-- the walk that a call goes on with: the one in question, or another, in any state
pub data On : Type 0 where
  own : On
  other : Walk → On

-- a go-on call for at most `ends` ends, and its answer
pub record Call : Type 0 where
  pub on : On
  pub ends : ℕ
  pub answer : GoneOn

-- the walk that a call is made on, where w is the one in question
abbrev pub made_on : On → Walk → Walk
made_on own w = w
made_on (other v) w = v

-- the walk in question after a call
abbrev pub walk_after : On → GoneOn → Walk → Walk
walk_after own answer w = answer.walk
walk_after (other v) answer w = w

-- how many ends of the walk in question a call reached
abbrev pub own_ends : On → GoneOn → ℕ
own_ends own answer = answer.reached
own_ends (other v) answer = 0

-- a list of calls, the first one first, from a walk and a quota "handed on as the last call left them": each answer is one that `go_on`
-- gives
abbrev pub CallsAnswered : Walk → Quota → List Call → Type 0
CallsAnswered w quota [] = Unit {0}
CallsAnswered w quota (c ∷ calls) =
    WentOn (made_on c.on w) quota c.ends c.answer × CallsAnswered (walk_after c.on c.answer w) c.answer.quota calls

-- the walk in question and the quota after a list of calls
abbrev pub last_walk : Walk → List Call → Walk
last_walk w [] = w
last_walk w (c ∷ calls) = last_walk (walk_after c.on c.answer w) calls

abbrev pub last_quota : Quota → List Call → Quota
last_quota quota [] = quota
last_quota quota (c ∷ calls) = last_quota c.answer.quota calls

-- the ends that a list of calls reached: of the walk in question, and of all walks
abbrev pub ends_of_walk : List Call → ℕ
ends_of_walk [] = 0
ends_of_walk (c ∷ calls) = own_ends c.on c.answer + ends_of_walk calls

abbrev pub ends_of_all : List Call → ℕ
ends_of_all [] = 0
ends_of_all (c ∷ calls) = c.answer.reached + ends_of_all calls
