-- The calls on words are those on walks: each goes on from what the one before it left.
-- Assumes nothing.
use mathlib.Core.Path.{sym, subst}
use mathlib.Core.List.{List}
use Prim.Native.Nat.{ℕ, ◌+◌}
use Rattle.plan.specs.Plan.{Plan}
use Rattle.network.specs.Outage.{intact}
use Rattle.panel.specs.Walks.{WalkAt}
use Rattle.walk_words.specs.WalkWords.{walk_of}
use Rattle.host_panel.specs.WordCalls.{WordsWent}

-- a go-on on words that hold a walk of a plan, n ends reached, leaves words that hold it with as many more reached as it says
pub gone-on : {state quota reached state' quota' reached' : List ℕ} {k r : ℕ} (went : WordsWent state quota k reached r state' quota' reached')
    (p : Plan) (n : ℕ) → WalkAt intact p n (walk_of state) → WalkAt intact p (n + went.answer.reached) (walk_of state')
gone-on went p n at = subst (WalkAt intact p (n + went.answer.reached)) (sym went.again) (went.went.moved p n at)
