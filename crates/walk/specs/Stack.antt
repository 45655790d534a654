-- The stack of the walk in memory: what its words denote.
-- Assumes nothing.
use Rattle.std.specs.Prelude.{◌≡◌, refl, true, false, List, [], ◌∷◌, ◌++◌, ℕ, ◌+◌, ◌*◌, ◌%◌, ◌^◌, ◌≤◌, ◌<◌, ltb, length, drop, get_or, replicate}
use Rattle.std.proofs.lemmas.List.Edits.{sets}
use Rattle.mass.specs.Split.{whole}
use Rattle.sets.specs.Sets.{joined}
use Rattle.plan.specs.Plan.{Event}
use Rattle.plan.specs.Lists.{events_of}
use Rattle.walk.specs.Scenario.{scenario_of}
use Rattle.walk.specs.Ends.{End, dropped}
use Rattle.walk.specs.Pending.{Branch, branch_ends}
use Rattle.walk.specs.declared.StackEntry.{StackEntry}

-- the pending branch that four words hold: its depth (how many events are decided), its mass, and the set of failing events in two words
abbrev pub branch_of : ℕ → ℕ → ℕ → ℕ → Branch
branch_of depth mass low high = record { path = scenario_of depth (joined low high); mass = mass }

-- the ends that four words of the stack stand for: those of a pending branch; or, where the first word is above 128 (no branch has so many
-- events decided), so many dropped ends as the second word says
unfoldable pub words_ends : ℕ → List Event → ℕ → ℕ → ℕ → ℕ → List End
words_ends t events depth mass low high =
    elim (ltb 128 depth) [ true ↦ replicate mass dropped | false ↦ branch_ends t events (branch_of depth mass low high) ]

-- the ends that a list of words stands for, four words to an entry, the next one first
abbrev pub stack_ends : ℕ → List Event → List ℕ → List End
stack_ends t events [] = []
stack_ends t events (a ∷ []) = []
stack_ends t events (a ∷ b ∷ []) = []
stack_ends t events (a ∷ b ∷ c ∷ []) = []
stack_ends t events (depth ∷ mass ∷ low ∷ high ∷ rest) = words_ends t events depth mass low high ++ stack_ends t events rest

-- the ends still to come: the stack is the words from `at` on; `count` events in `words`, four words to an event
abbrev pub to_come : ℕ → ℕ → List ℕ → ℕ → List ℕ → List End
to_come count threshold words at stack = stack_ends threshold (events_of count words) (drop at stack)

-- the mass that one entry holds, by its first two words, as in words_ends
unfoldable pub entry_mass : ℕ → ℕ → ℕ
entry_mass depth mass = elim (ltb 128 depth) [ true ↦ 0 | false ↦ mass ]

-- the mass of the pending branches that a list of words holds, four words to an entry, as in stack_ends; dropped ends have none
abbrev pub pending_mass : List ℕ → ℕ
pending_mass [] = 0
pending_mass (a ∷ []) = 0
pending_mass (a ∷ b ∷ []) = 0
pending_mass (a ∷ b ∷ c ∷ []) = 0
pending_mass (depth ∷ mass ∷ low ∷ high ∷ rest) = entry_mass depth mass + pending_mass rest

-- example: of a branch of mass 7, five dropped ends and a branch of mass 20, the branches count
example-pending : pending_mass (2 ∷ 7 ∷ 0 ∷ 0 ∷ 129 ∷ 5 ∷ 0 ∷ 0 ∷ 1 ∷ 20 ∷ 0 ∷ 0 ∷ []) ≡ 27
unfolding entry_mass
example-pending = refl

-- what holds of a branch in four words, and of the words under them: no more entries lie under a branch than its depth says
pub record SoundBranch (count depth mass low high below : ℕ) : Type 0 where
  pub deep : depth ≤ count
  pub light : mass ≤ whole
  pub word : low < 2 ^ 64
  pub decided : joined low high < 2 ^ depth
  pub room : below ≤ 4 * depth

-- what holds of four words of the stack and the words under them, whichever of the two they are
pub record SoundEntry (count depth mass low high below : ℕ) : Type 0 where
  pub run : 128 < depth → 0 < mass
  pub branch : depth ≤ 128 → SoundBranch count depth mass low high below

-- what holds of each entry of the stack
abbrev pub SoundEntries : ℕ → List ℕ → Type 0
SoundEntries count [] = Unit {0}
SoundEntries count (a ∷ []) = ⊥
SoundEntries count (a ∷ b ∷ []) = ⊥
SoundEntries count (a ∷ b ∷ c ∷ []) = ⊥
SoundEntries count (depth ∷ mass ∷ low ∷ high ∷ rest) = SoundEntry count depth mass low high (length rest) × SoundEntries count rest

-- the entry that the four words from `at` on hold
abbrev pub entry_at : ℕ → List ℕ → StackEntry
entry_at at stack =
    record {
      depth = get_or stack at 0;
      mass = get_or stack (at + 1) 0;
      failing = record { low = get_or stack (at + 2) 0; high = get_or stack (at + 3) 0 };
    }

-- a stack that the walk may go on with
pub record Stack (count at : ℕ) (stack : List ℕ) : Type 0 where
  pub fours : at % 4 ≡ 0
  pub within : at ≤ 512
  pub sized : length stack ≡ 512
  pub entries : SoundEntries count (drop at stack)

-- the root laid down in the last four words: it is alone on the stack
pub record Begun (at : ℕ) (stack stack' : List ℕ) : Type 0 where
  pub place : at ≡ 508
  pub laid : stack' ≡ sets stack at (0 ∷ whole ∷ 0 ∷ 0 ∷ [])
