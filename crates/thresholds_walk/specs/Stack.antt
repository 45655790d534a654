-- The stack of a walk for several thresholds at once (document 02, request U8): what its words denote for any one threshold.
-- Assumes nothing.
use Rattle.std.specs.Prelude.{◌≡◌, refl, true, false, List, [], ◌∷◌, ◌++◌, ℕ, ◌*◌, ◌%◌, ◌^◌, ◌≤◌, ◌<◌, ltb, length, drop}
use Rattle.mass.specs.Split.{whole}
use Rattle.sets.specs.Sets.{joined}
use Rattle.plan.specs.Plan.{Event}
use Rattle.plan.specs.Lists.{events_of}
use Rattle.walk.specs.Ends.{End, dropped, relevant, ends}
use Rattle.walk.specs.Pending.{Branch, branch_ends}
use Rattle.walk.specs.Stack.{branch_of}
use Rattle.thresholds_walk.specs.declared.SharedEntry.{SharedEntry}

-- the ends of a pending branch in the walk with the threshold t: none where the mass before its last event, `parent`, is below t, since
-- that walk ended there
unfoldable pub entry_ends : ℕ → List Event → ℕ → Branch → List End
entry_ends t events parent b = elim (ltb parent t) [ true ↦ [] | false ↦ branch_ends t events b ]

-- the ends that a list of words stands for in the walk with the threshold t, five words to a branch, the next one first: its depth, its
-- mass, its failing events in two words, and the mass before its last event
abbrev pub shared_ends : ℕ → List Event → List ℕ → List End
shared_ends t events [] = []
shared_ends t events (a ∷ []) = []
shared_ends t events (a ∷ b ∷ []) = []
shared_ends t events (a ∷ b ∷ c ∷ []) = []
shared_ends t events (a ∷ b ∷ c ∷ d ∷ []) = []
shared_ends t events (depth ∷ mass ∷ low ∷ high ∷ parent ∷ rest) =
    entry_ends t events parent (branch_of depth mass low high) ++ shared_ends t events rest

-- example: a branch of mass 4 after a mass of 5, with no event left: relevant at a threshold of 4, dropped at 5, and not come to at 6
example-stack : (shared_ends 4 [] (0 ∷ 4 ∷ 0 ∷ 0 ∷ 5 ∷ []) ≡ relevant [] 4 ∷ []) × (shared_ends 5 [] (0 ∷ 4 ∷ 0 ∷ 0 ∷ 5 ∷ []) ≡ dropped ∷ [])
    × (shared_ends 6 [] (0 ∷ 4 ∷ 0 ∷ 0 ∷ 5 ∷ []) ≡ [])
unfolding entry_ends ends
example-stack = (refl, refl, refl)

-- the ends still to come in the walk with the threshold t: the stack is the words from `at` on; `count` events in `words`
abbrev pub shared_to_come : ℕ → ℕ → List ℕ → ℕ → List ℕ → List End
shared_to_come count t words at stack = shared_ends t (events_of count words) (drop at stack)

-- the entry that five words hold
abbrev pub shared_entry : ℕ → ℕ → ℕ → ℕ → ℕ → SharedEntry
shared_entry depth mass low high parent =
    record { branch = record { depth = depth; mass = mass; failing = record { low = low; high = high } }; parent = parent }

-- what holds of a pending branch, and of the words under its five: no more entries lie under a branch than its depth says
pub record SoundShared (count : ℕ) (e : SharedEntry) (below : ℕ) : Type 0 where
  pub deep : e.branch.depth ≤ count
  pub lighter : e.branch.mass ≤ e.parent
  pub light : e.parent ≤ whole
  pub word : e.branch.failing.low < 2 ^ 64
  pub decided : joined e.branch.failing.low e.branch.failing.high < 2 ^ e.branch.depth
  pub room : below ≤ 5 * e.branch.depth

-- what holds of each entry of the stack
abbrev pub AllSoundShared : ℕ → List ℕ → Type 0
AllSoundShared count [] = Unit {0}
AllSoundShared count (a ∷ []) = ⊥
AllSoundShared count (a ∷ b ∷ []) = ⊥
AllSoundShared count (a ∷ b ∷ c ∷ []) = ⊥
AllSoundShared count (a ∷ b ∷ c ∷ d ∷ []) = ⊥
AllSoundShared count (depth ∷ mass ∷ low ∷ high ∷ parent ∷ rest) =
    SoundShared count (shared_entry depth mass low high parent) (length rest) × AllSoundShared count rest

-- a stack that the walk may go on with
pub record SharedStack (count at : ℕ) (stack : List ℕ) : Type 0 where
  pub fives : at % 5 ≡ 0
  pub within : at ≤ 640
  pub sized : length stack ≡ 640
  pub entries : AllSoundShared count (drop at stack)
