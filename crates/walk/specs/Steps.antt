-- What a step of the walk promises, and its parts.
-- Assumes nothing.
use Rattle.std.specs.Prelude.{◌≡◌, Bool, true, false, List, [], ◌∷◌, ◌++◌, ℕ, ◌+◌, ◌*◌, ◌^◌, ◌≤◌, ◌<◌, drop, replicate, Option}
use Rattle.std.specs.Option.{ForSome, ForNone, option_len, option_map, option_map_or, option_to_list}
use Rattle.std.proofs.lemmas.List.Edits.{sets}
use Rattle.mass.specs.Split.{certain, whole}
use Rattle.sets.specs.Sets.{joined}
use Rattle.plan.specs.Lists.{events_of}
use Rattle.walk.specs.Scenario.{scenario_of}
use Rattle.walk.specs.Ends.{End, dropped, relevant}
use Rattle.walk.specs.WorksPath.{path_steps, path_mass}
use Rattle.walk.specs.Stack.{to_come, pending_mass, Stack}
use Rattle.walk.specs.declared.Descent.{Descent}
use Rattle.walk.specs.declared.Examined.{Examined}
use Rattle.walk.specs.declared.Parted.{Parted}
use Rattle.walk.specs.declared.StackEntry.{StackEntry}
use Rattle.walk.specs.declared.WalkStep.{WalkStep}
use Rattle.walk.specs.declared.Stop.{Stop}

-- a relevant end, by its mass and its failing events
abbrev pub relevant_end : ℕ → Examined → End
relevant_end count x = relevant (scenario_of count (joined x.failing.low x.failing.high)) x.mass

-- the scenario that a step hands out, with its mass; no end where it found none
abbrev pub found_ends : ℕ → Option Examined → List End
found_ends count found = option_to_list (option_map (relevant_end count) found)

-- the mass of a relevant scenario, where there is one
abbrev pub mass_of : Option Examined → ℕ
mass_of found = option_map_or (λ x. x.mass) found 0

-- A step, from a stack that begins at `at`, where so many ends as `allowed` may still be reached: the ends to come begin with `passed`
-- dropped ones, then the one handed out; the ends then still to come, and how many may still be reached, are the rest. Where none is
-- handed out, no more may be reached, or none is to come. The mass handed out comes off that of the pending branches.
pub record StepTaken (count threshold : ℕ) (words : List ℕ) (at : ℕ) (stack : List ℕ) (allowed : ℕ) (stack' : List ℕ) (r : WalkStep) : Type 0 where
  pub passed : ℕ
  pub ends : to_come count threshold words at stack
      ≡ replicate passed dropped ++ (found_ends count r.found ++ to_come count threshold words r.at stack')
  pub counted : allowed ≡ passed + (option_len r.found + r.left)
  pub ended : ForNone r.found (0 < r.left → to_come count threshold words r.at stack' ≡ [])
  pub held : Stack count r.at stack'
  pub light : ForSome r.found (λ x. x.mass ≤ whole)
  pub decided : ForSome r.found (λ x. joined x.failing.low x.failing.high < 2 ^ count)
  pub lighter : mass_of r.found + pending_mass (drop r.at stack') ≤ pending_mass (drop at stack)

-- a mass in two parts
pub record TwoParts (mass : ℕ) (m : Parted) : Type 0 where
  pub units : m.units ≡ mass
  pub parts : m.units ≡ m.high * certain + m.low
  pub small : m.low < 16 * certain
  pub light : m.units ≤ whole

-- the "works" path of a branch goes to where it stops
pub record Stopped (count threshold : ℕ) (words : List ℕ) (depth mass : ℕ) (r : Stop) : Type 0 where
  pub steps : r.depth ≡ depth + path_steps threshold mass (drop depth (events_of count words))
  pub stops : r.mass ≡ path_mass threshold mass (drop depth (events_of count words))
  pub within : r.depth ≤ count
  pub light : r.mass ≤ whole
  pub lighter : r.mass ≤ mass

-- a branch with one failing event more, that at its depth
pub record NextFailing (b next : StackEntry) : Type 0 where
  pub depth : next.depth ≡ b.depth + 1
  pub mass : next.mass ≡ b.mass
  pub word : next.failing.low < 2 ^ 64
  pub set : joined next.failing.low next.failing.high ≡ joined b.failing.low b.failing.high + 2 ^ b.depth

-- a branch laid down with one failing event more, that at its depth: its set of failing events is in two words
pub record Pushed (b : StackEntry) (at : ℕ) (stack stack' : List ℕ) : Type 0 where
  pub set_low : ℕ
  pub set_high : ℕ
  pub word : set_low < 2 ^ 64
  pub set : joined set_low set_high ≡ joined b.failing.low b.failing.high + 2 ^ b.depth
  pub laid : stack' ≡ sets stack at ((b.depth + 1) ∷ b.mass ∷ set_low ∷ set_high ∷ [])

-- so many dropped ends laid down before the ends to come of a stack, whatever the plan; the mass pending is the same
pub record Delayed (run at : ℕ) (stack stack' : List ℕ) (r : ℕ) : Type 0 where
  pub ahead : (count threshold : ℕ) (words : List ℕ) → Stack count at stack
      → to_come count threshold words r stack' ≡ replicate run dropped ++ to_come count threshold words at stack
  pub held : (count : ℕ) → Stack count at stack → Stack count r stack'
  pub same : (count : ℕ) → Stack count at stack → pending_mass (drop r stack') ≡ pending_mass (drop at stack)

-- an end, relevant or not
abbrev pub end_of : ℕ → Bool → ℕ → ℕ → ℕ → End
end_of count true mass low high = relevant (scenario_of count (joined low high)) mass
end_of count false mass low high = dropped

-- a descent takes an entry off the stack: one end, then so many dropped ones as it says, then what is left on the stack; the end's mass
-- comes off `pending`, the mass that was pending before
pub record Descended (count threshold : ℕ) (words : List ℕ) (all : List End) (pending : ℕ) (stack : List ℕ) (r : Descent) : Type 0 where
  pub ends : all
      ≡ option_map_or (relevant_end count) r.end dropped
      ∷ (replicate r.dropped dropped ++ to_come count threshold words r.at stack)
  pub held : Stack count r.at stack
  pub room : 0 < r.dropped → 4 ≤ r.at
  pub light : ForSome r.end (λ x. x.mass ≤ whole)
  pub decided : ForSome r.end (λ x. joined x.failing.low x.failing.high < 2 ^ count)
  pub lighter : mass_of r.end + pending_mass (drop r.at stack) ≤ pending
