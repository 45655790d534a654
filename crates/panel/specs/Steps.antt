-- What the parts of a go-on promise each other.
-- Assumes nothing.
use Rattle.std.specs.Prelude.{◌≡◌, true, false, ◌&&◌, ℕ, ◌+◌, ◌-◌, min, ltb, length}
use Rattle.plan.specs.Plan.{Plan}
use Rattle.network.specs.Outage.{intact}
use Rattle.walk_state.specs.Sound.{sound}
use Rattle.walk_state.specs.declared.Walk.{Walk}
use Rattle.panel.specs.Walks.{ends_to_come, WalkAt}

-- how many ends the cap still allows: none from a state that is no walk or has no end to come
unfoldable pub open_ends : Walk → ℕ
open_ends w = elim (sound w && ltb w.at 512) [ true ↦ w.header.cap - w.reached | false ↦ 0 ]

-- how many of so many ends there are
abbrev pub ends_there : Walk → ℕ → ℕ
ends_there w allowed = min allowed (length (ends_to_come w))

-- a walk gone on with for at most so many ends as are allowed
pub record WalkedOn (w : Walk) (allowed : ℕ) (r : Walk) : Type 0 where
  pub reached : r.reached ≡ w.reached + ends_there w allowed
  pub moved : (p : Plan) (n : ℕ) → WalkAt intact p n w → WalkAt intact p (n + ends_there w allowed) r
