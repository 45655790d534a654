-- The search for a witness from the root of the walk.
-- Assumes nothing.
use mathlib.Core.Path.{◌≡◌, ap}
use mathlib.Core.List.{List}
use Prim.Native.Nat.{ℕ, ◌<◌}
use native.Mathlib.Omega.{arith}
use lib.ListN.{take}
use Rattle.mass.specs.Split.{whole}
use Rattle.plan.specs.LentLists.{plan_of_lists}
use Rattle.plan.specs.declared.Header.{Header}
use Rattle.walk.specs.Ends.{End, scenarios}
use Rattle.walk.specs.Walk.{examined}
use Rattle.walk.proofs.Resume.{Alone, begun-stack, begun-whole, root-entry}
use Rattle.plan.specs.Held.{Held}
use Rattle.network.specs.Outage.{intact}
use Rattle.readings.specs.Search.{reached_scenarios, searched, Seeking}

module _ (h : Header) (links words : List ℕ) (at : ℕ) (stack : List ℕ) (v w : ℕ) (b : Alone 0 whole 0 0 at stack) where
  pub seeking-whole : Held h links words → (v < 64) × (w < 64) → Seeking h links words at stack v w
  seeking-whole held inside =
      record { held = held; stacked = begun-stack 0 whole 0 0 at stack b (omega arith) h.events (root-entry h.events); inside = inside }

  firsts : reached_scenarios h words at stack h.cap ≡ examined (plan_of_lists h links words)
  unfolding plan_of_lists
  firsts = ap (λ (l : List End). scenarios (take h.cap l)) (begun-whole at stack b h.events h.threshold words)

  pub answers-whole : searched intact (plan_of_lists h links words) v w (reached_scenarios h words at stack h.cap)
      ≡ searched intact (plan_of_lists h links words) v w (examined (plan_of_lists h links words))
  answers-whole = ap (searched intact (plan_of_lists h links words) v w) firsts
