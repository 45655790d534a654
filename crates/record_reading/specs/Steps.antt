-- The reader's steps over the members of an event: document 01, section "Plan file". Where a reader stands after a step, and what steps from
-- member to member give. Assumes nothing.
use Rattle.std.specs.Prelude.{◌≡◌, refl, List, [], ◌∷◌, ℕ, zero, suc, ◌+◌, get_or, drop}
use Rattle.mass.specs.Refusal.{first}
use Rattle.refusals.specs.Tests.{rank}
use Rattle.plan.specs.File.{member_refusal}

-- the position after a step whose member was refused with a number, or given with 0: past the member's two bytes where it was given, else
-- where it was
abbrev pub position_after : ℕ → ℕ → ℕ
position_after zero at = at + 2
position_after (suc number) at = at

-- a list where the number is 0, and nothing where it refuses
abbrev pub unless_refused : ℕ → List ℕ → List ℕ
unless_refused zero list = list
unless_refused (suc number) list = []

-- the ranks of the members that are given one after the other, up to the first that is refused
unfoldable pub ranks_given : ℕ → ℕ → ℕ → ℕ → List ℕ → List ℕ
ranks_given nodes links least zero b = []
ranks_given nodes links least (suc count) b =
    unless_refused (member_refusal nodes links least b)
    (rank (get_or b 0 0) (get_or b 1 0) ∷ ranks_given nodes links (rank (get_or b 0 0) (get_or b 1 0) + 1) count (drop 2 b))

-- examples: nodes 0 and 63 and link 1; and node 5 twice, which does not rise the second time
example-ranks : (ranks_given 64 2 0 3 (0 ∷ 0 ∷ 0 ∷ 63 ∷ 1 ∷ 1 ∷ []) ≡ 0 ∷ 63 ∷ 257 ∷ []) × (ranks_given 64 2 0 2 (0 ∷ 5 ∷ 0 ∷ 5 ∷ []) ≡ 5 ∷ [])
unfolding ranks_given member_refusal first
example-ranks = (refl, refl)
