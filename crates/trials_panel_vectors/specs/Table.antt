-- The plan of the table, the walk that its begin gives, and what a go-on leaves.
-- Assumes nothing.
use Rattle.std.specs.Prelude.{◌≡◌, List, [], ◌∷◌, ℕ, zero, suc, Result}
use Rattle.mass.specs.declared.refusal.Refusal.{Refusal}
use Rattle.plan.specs.LentLists.{in_words, lists_number}
use Rattle.plan.specs.declared.Header.{Header}
use Rattle.walk_state.specs.States.{no_walk}
use Rattle.walk_state.specs.declared.Walk.{Walk}
use Rattle.panel.specs.Walks.{root_walk}
use Rattle.panel.specs.Calls.{GoneOn, gone_on, WentOn}
use Rattle.panel.specs.declared.Quota.{Quota}

-- its header with a cap, its links, and four words for each event
abbrev pub table_header : ℕ → Header
table_header cap = record { nodes = 3; links = 3; events = 4; threshold = 56000000000000000; cap = cap }

abbrev pub table_links : List ℕ
table_links = 0 ∷ 1 ∷ 0 ∷ 2 ∷ 1 ∷ 2 ∷ []

abbrev pub table_events : List ℕ
table_events =
    400000000 ∷ 0 ∷ 2 ∷ 0 ∷ 300000000 ∷ 0 ∷ 1 ∷ 0 ∷ 250000000 ∷ 2 ∷ 0 ∷ 0 ∷ 200000000 ∷ 0 ∷ 6 ∷ 0 ∷ []

-- the walk that a begin of this plan with a cap gives; one of zeros where the cap is refused
abbrev pub begun_with : ℕ → Walk
begun_with cap =
    elim (lists_number (in_words (table_header cap) table_links table_events)) [
      | zero ↦ root_walk (table_header cap) table_links table_events
      | suc number ↦ no_walk
    ]

-- a go-on for at most k ends leaves this walk and this quota, with some answer
pub record WentTo (w : Walk) (quota : Quota) (k : ℕ) (left : Walk) (rest : Quota) : Type 0 where
  pub answer : Result ℕ Refusal
  pub went : WentOn w quota k (gone_on answer left rest)

-- the walk that a go-on for at most k ends leaves
pub record LeftBy (w : Walk) (quota : Quota) (k : ℕ) (r : Walk) : Type 0 where
  pub answer : GoneOn
  pub went : WentOn w quota k answer
  pub walk : r ≡ answer.walk
