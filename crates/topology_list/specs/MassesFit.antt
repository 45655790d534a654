-- What the loop over the ends of the walk asks.
-- Assumes nothing.
use Rattle.std.specs.Prelude.{List, ℕ, ◌≤◌, take}
use Rattle.mass.specs.Split.{whole}
use Rattle.plan.specs.Held.{Held}
use Rattle.plan.specs.declared.Header.{Header}
use Rattle.walk.specs.Ends.{End, sum_ends}
use Rattle.walk.specs.Stack.{to_come, Stack}

-- the next k ends of a walk
abbrev pub next_ends : Header → List ℕ → ℕ → List ℕ → ℕ → List End
next_ends h words at stack k = take k (to_come h.events h.threshold words at stack)

-- what the loop over the ends asks: a stack that denotes the ends to come, whose masses have room in one whole
pub record MassesFit (h : Header) (links words : List ℕ) (at : ℕ) (stack : List ℕ) : Type 0 where
  pub held : Held h links words
  pub stacked : Stack h.events at stack
  pub light : sum_ends (λ s m. m) (next_ends h words at stack h.cap) ≤ whole
