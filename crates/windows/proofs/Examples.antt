-- Computed examples of windows: each refusal. They stand here, since an edit of the order of the tests would be refused by them before it is by
-- the contracts.
-- Assumes nothing.
use Rattle.std.specs.Prelude.{◌≡◌, refl, List, [], ◌∷◌, ℕ}
use Rattle.mass.specs.Refusal.{first}
use Rattle.windows.specs.Windows.{windows_of, work_refusal}

-- on two nodes and one link: accepted, and an empty list; a tail of one word and of four; start = end; an end past the week; a bit at the
-- node count and at the link count; a bad window before a bad minute; a bad minute, also where the list is empty
abbrev refused : List ℕ → ℕ → ℕ
refused words minute = work_refusal 2 1 words minute

pub example-refused : (refused (0 ∷ 10080 ∷ 3 ∷ 1 ∷ 0 ∷ []) 10079 ≡ 0) × (refused [] 0 ≡ 0)
    × (refused (0 ∷ []) 10080 ≡ 12) × (refused (0 ∷ 1 ∷ 0 ∷ 0 ∷ 0 ∷ 0 ∷ 0 ∷ 0 ∷ 0 ∷ []) 0 ≡ 12)
    × (refused (7 ∷ 7 ∷ 0 ∷ 0 ∷ 0 ∷ []) 0 ≡ 21) × (refused (0 ∷ 10081 ∷ 0 ∷ 0 ∷ 0 ∷ []) 0 ≡ 21)
    × (refused (0 ∷ 1 ∷ 4 ∷ 0 ∷ 0 ∷ []) 0 ≡ 21) × (refused (0 ∷ 1 ∷ 0 ∷ 2 ∷ 0 ∷ []) 0 ≡ 21)
    × (refused (0 ∷ 1 ∷ 3 ∷ 1 ∷ 0 ∷ 7 ∷ 7 ∷ 0 ∷ 0 ∷ 0 ∷ []) 10080 ≡ 21) × (refused [] 10080 ≡ 22)
unfolding work_refusal windows_of first
example-refused = (refl, refl, refl, refl, refl, refl, refl, refl, refl, refl)
