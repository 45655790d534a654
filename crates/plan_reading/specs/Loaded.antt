-- A plan file in arrays of 256 bytes for the links and 512 words for the events.
-- Assumes nothing.
use Rattle.std.specs.Prelude.{◌≡◌, List, ℕ}
use Rattle.plan.specs.File.{plan_of}
use Rattle.plan.specs.LentLists.{plan_refusal, plan_of_lists}
use Rattle.plan.specs.Calls.{header_of}

-- the arrays hold an accepted file: they denote the plan that the file stands for, and it meets no refusal
pub record Loaded (b links words : List ℕ) : Type 0 where
  pub denoted : plan_of_lists (header_of b) links words ≡ plan_of b
  pub valid : plan_refusal (plan_of_lists (header_of b) links words) ≡ 0
