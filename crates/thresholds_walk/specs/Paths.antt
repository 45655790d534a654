-- A "works" path of a walk for several thresholds at once (document 02, request U8): what a step promises for each threshold.
-- Assumes nothing.
use Rattle.std.specs.Prelude.{◌≡◌, List, [], ◌∷◌, ◌++◌, ℕ, zero, suc, ◌+◌, ◌-◌, ◌*◌, ◌^◌, ◌≤◌, ◌<◌, leb, length, get_or, replicate}
use Rattle.std.proofs.lemmas.List.Edits.{sets}
use Rattle.mass.specs.Split.{whole, failing}
use Rattle.sets.specs.Sets.{joined}
use Rattle.plan.specs.Lists.{events_of}
use Rattle.walk.specs.Ends.{End, dropped}
use Rattle.walk.specs.Pending.{branch_ends}
use Rattle.walk.specs.Stack.{branch_of}
use Rattle.walk.specs.Steps.{Stopped, end_of}
use Rattle.thresholds_walk.specs.Stack.{entry_ends, shared_to_come, SharedStack}
use Rattle.thresholds_walk.specs.declared.Halt.{Halt}
use Rattle.thresholds_walk.specs.declared.SharedEntry.{SharedEntry}
use Rattle.thresholds_walk.specs.declared.WorksPath.{WorksPath}

-- one walk for several thresholds: how many events there are, the lowest threshold that is under way, and the words of the events
pub record SharedWalk : Type 0 where
  pub count : ℕ
  pub lowest : ℕ
  pub words : List ℕ

abbrev pub shared_walk : ℕ → ℕ → List ℕ → SharedWalk
shared_walk count lowest words = record { count = count; lowest = lowest; words = words }

-- a branch laid down with one failing event more, that at its depth
pub record SharedPushed (e : SharedEntry) (at : ℕ) (stack stack' : List ℕ) : Type 0 where
  pub set_low : ℕ
  pub set_high : ℕ
  pub word : set_low < 2 ^ 64
  pub set : joined set_low set_high ≡ joined e.branch.failing.low e.branch.failing.high + 2 ^ e.branch.depth
  pub laid : stack' ≡ sets stack at ((e.branch.depth + 1) ∷ e.branch.mass ∷ set_low ∷ set_high ∷ e.parent ∷ [])

-- where no "fails" side of a "works" path is left pending any more: its mass is below the threshold, no event is left, or the "fails" side
-- of the next event is below the threshold
abbrev pub FailsBelow : ℕ → ℕ → List ℕ → ℕ → ℕ → Type 0
FailsBelow count threshold words depth mass = threshold ≤ mass → depth < count → failing mass (get_or words (depth * 4) 0) < threshold

-- from a branch down to there: for each threshold t that is not below the lowest, the ends to come are the same
pub record Halted (k : SharedWalk) (at : ℕ) (e : SharedEntry) (stack stack' : List ℕ) (r : Halt) : Type 0 where
  pub ends : (t : ℕ) → k.lowest ≤ t
      → branch_ends t (events_of k.count k.words) (branch_of e.branch.depth e.branch.mass e.branch.failing.low e.branch.failing.high) ++ shared_to_come k.count t k.words at stack
      ≡ branch_ends t (events_of k.count k.words) (branch_of r.depth r.mass e.branch.failing.low e.branch.failing.high) ++ shared_to_come k.count t k.words r.at stack'
  pub held : SharedStack k.count r.at stack'
  pub deep : r.depth ≤ k.count
  pub decided : joined e.branch.failing.low e.branch.failing.high < 2 ^ r.depth
  pub lighter : r.mass ≤ e.branch.mass
  pub fails-below : FailsBelow k.count k.lowest k.words r.depth r.mass
  pub still : e.branch.mass < k.lowest → r.at ≡ at

-- the ends of a path in the walk with the threshold t
abbrev pub path_ends : ℕ → ℕ → List ℕ → WorksPath → List End
path_ends count t words r = entry_ends t (events_of count words) r.parent (branch_of r.depth r.mass r.low r.high)

-- what holds of a path: the lowest threshold's walk goes to where its "works" path stops
pub record SoundPath (k : SharedWalk) (r : WorksPath) : Type 0 where
  pub deep : r.depth ≤ k.count
  pub lighter : r.mass ≤ r.parent
  pub light : r.parent ≤ whole
  pub decided : joined r.low r.high < 2 ^ r.depth
  pub fails-below : FailsBelow k.count k.lowest k.words r.depth r.mass
  pub stops : Stopped k.count k.lowest k.words r.depth r.mass (record { depth = r.stop; mass = r.last })

-- how many ends of the lowest threshold are to come where the stack begins at `at`, and then how many branches are pending, in one number
abbrev pub left_to_take : SharedWalk → ℕ → List ℕ → ℕ
left_to_take k at stack = length (shared_to_come k.count k.lowest k.words at stack) * 1024 + (640 - at)

-- a step: for each threshold that is not below the lowest, the ends to come are those of the path, then those then to come; fewer are to
-- come, or fewer branches are pending
pub record PathTaken (k : SharedWalk) (at : ℕ) (stack stack' : List ℕ) (r : WorksPath) : Type 0 where
  pub ends : (t : ℕ) → k.lowest ≤ t
      → shared_to_come k.count t k.words at stack ≡ path_ends k.count t k.words r ++ shared_to_come k.count t k.words r.at stack'
  pub held : SharedStack k.count r.at stack'
  pub sound : SoundPath k r
  pub fewer : left_to_take k r.at stack' < left_to_take k at stack

-- so many ends of a path as the last number says: its own, relevant where the mass where it stops is at least t, then dropped ones
abbrev pub own_then_dropped : ℕ → ℕ → WorksPath → ℕ → List End
own_then_dropped count t r zero = []
own_then_dropped count t r (suc more) = end_of count (leb t r.last) r.last r.low r.high ∷ replicate more dropped
