-- Laws of pending branches, "works" paths and the stack.
-- Assumes nothing.
use mathlib.Core.Path.{◌≡◌, refl}
use mathlib.Core.Bool.{Bool, true, false}
use mathlib.Core.List.{List, [], ◌∷◌, ◌++◌}
use Prim.Native.Nat.{ℕ, suc, ◌≤◌, ◌<◌}
use native.Mathlib.Omega.{arith}
use lib.ListN.{length, drop, get_or, length-append, replicate}
use lib.Seq.{drop-cons}
use Rattle.plan.specs.Plan.{Event}
use Rattle.walk.specs.Ends.{ends, dropped, relevant}
use Rattle.walk.proofs.EndsLaws.{after-node, after_nothing}
use Rattle.walk.specs.Pending.{Branch, branch, branch_ends, root}
use borrow.Author.Tests.{lt-ltb, le-ltb}
use Rattle.mass.specs.Split.{working}
use Rattle.walk.specs.WorksPath.{path_steps, path_mass, path_end}
use Rattle.walk.specs.Stack.{branch_of, words_ends, entry_mass}

-- law: where its mass is at least the threshold and events are left, a branch is its two parts at the next event, "works" before "fails"
pub branch-node : (t : ℕ) (events : List Event) (b : Branch) (none : Event) → t ≤ b.mass → length b.path < length events
    → let q : ℕ = (get_or events (length b.path) none).probability in
    branch_ends t events b ≡ branch_ends t events (branch b q false) ++ branch_ends t events (branch b q true)
branch-node t events b none h l =
    rw (
      drop-cons events (length b.path) none l,
      after-node b.path t b.mass (get_or events (length b.path) none) (drop (suc (length b.path)) events) h,
      longer false,
      longer true,
    )
  where
    longer : (fails : Bool) → length (b.path ++ (fails ∷ [])) ≡ suc (length b.path)
    longer fails = omega (arith, length-append b.path (fails ∷ []))

-- law: the root's ends are those of the walk
pub root_ends : (t m : ℕ) (events : List Event) → branch_ends t events (root m) ≡ ends t m events
root_ends t m events = after_nothing (ends t m events)

module _ (t m : ℕ) where
  -- law: a mass below the threshold is dropped; any other is that of a relevant end
  pub path_end-cut : (n : ℕ) → m < t → path_end t m n ≡ dropped
  unfolding path_end
  path_end-cut n h = rw (lt-ltb m t h, path_end)

  pub path_end-enough : (n : ℕ) → t ≤ m → path_end t m n ≡ relevant (replicate n false) m
  unfolding path_end
  path_end-enough n h = rw (le-ltb m t h, path_end)

  -- law: the path stops where no event is left
  pub path-last : (path_steps t m [] ≡ 0) × (path_mass t m [] ≡ m)
  unfolding path_steps path_mass
  path-last = (refl, refl)

  -- law: it stops at a mass below the threshold
  pub path-cut : (events : List Event) → m < t → (path_steps t m events ≡ 0) × (path_mass t m events ≡ m)
  unfolding path_steps path_mass
  path-cut [] h = (refl, refl)
  path-cut (e ∷ events) h = (rw (lt-ltb m t h, path_steps), rw (lt-ltb m t h, path_mass))

  -- law: else it goes on past the next event
  pub path-on : (e : Event) (events : List Event) → t ≤ m
      → (path_steps t m (e ∷ events) ≡ suc (path_steps t (working m e.probability) events))
      × (path_mass t m (e ∷ events) ≡ path_mass t (working m e.probability) events)
  unfolding path_steps path_mass
  path-on e events h = (rw (le-ltb m t h, path_steps), rw (le-ltb m t h, path_mass))

module _ (t : ℕ) (events : List Event) (depth mass low high : ℕ) where
  -- law: the two kinds of an entry
  pub words-run : 128 < depth → words_ends t events depth mass low high ≡ replicate mass dropped
  unfolding words_ends
  words-run h = rw (lt-ltb 128 depth h, words_ends)

  pub words-branch : depth ≤ 128 → words_ends t events depth mass low high ≡ branch_ends t events (branch_of depth mass low high)
  unfolding words_ends
  words-branch h = rw (le-ltb 128 depth h, words_ends)

-- and the mass of each
pub mass-run : (depth mass : ℕ) → 128 < depth → entry_mass depth mass ≡ 0
unfolding entry_mass
mass-run depth mass h = rw (lt-ltb 128 depth h, entry_mass)

pub mass-branch : (depth mass : ℕ) → depth ≤ 128 → entry_mass depth mass ≡ mass
unfolding entry_mass
mass-branch depth mass h = rw (le-ltb 128 depth h, entry_mass)
