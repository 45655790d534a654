-- What the calls on a walk in lent words answer and leave, for every input: document 02, request U4.
-- Assumes nothing.
use Rattle.std.specs.Prelude.{◌≡◌, refl, List, [], ◌∷◌, ℕ, zero, suc, length, get_or}
use Rattle.std.proofs.lemmas.List.Edits.{sets}
use Rattle.mass.specs.Refusal.{first}
use Rattle.refusals.specs.Tests.{room_test}
use Rattle.plan.specs.LentLists.{Lent, lists_number}
use Rattle.pairs.specs.Pairs.{pair_test}
use Rattle.panel.specs.Calls.{GoneOn, WentOn}
use Rattle.walk_state.specs.declared.Walk.{Walk}
use Rattle.panel.specs.declared.Quota.{Quota}
use Rattle.walk_words.specs.WalkWords.{walk_length, walk_words, walk_of}
use Rattle.host_answers.specs.Laid.{laid}

-- a begin is refused as the lists are, then with 12 where the state is too short for a walk
unfoldable pub begin_number : Lent → ℕ → ℕ
begin_number l room = first (lists_number l ∷ room_test room walk_length ∷ [])

-- the quota that a list holds: its first word, and 0 where it is empty
abbrev pub quota_in : List ℕ → Quota
quota_in list = record { left = get_or list 0 0 }

example-empty : quota_in [] ≡ record { left = 0 }
example-empty = refl

example-longer : quota_in (7 ∷ 8 ∷ []) ≡ record { left = 7 }
example-longer = refl

-- the state after a go-on that reached so many ends: with none it is as it was, else the walk is laid down from its start
abbrev pub moved_words : ℕ → Walk → List ℕ → List ℕ
moved_words zero walk state = state
moved_words (suc reached) walk state = sets state 0 (walk_words walk)

-- a go-on whose state is too short for a walk: 12, no end reached, and nothing else is changed
pub record ShortState (state quota reached : List ℕ) (r : ℕ) (state' quota' reached' : List ℕ) : Type 0 where
  pub number : r ≡ 12
  pub state-kept : state' ≡ state
  pub quota-kept : quota' ≡ quota
  pub none-reached : reached' ≡ laid (0 ∷ []) reached

-- a go-on whose state is long enough: some answer of `go_on` to the walk and the quota in the lists, the lists that it leaves, and that the
-- next call goes on from the walk of that answer
pub record WordsWent (state quota : List ℕ) (k : ℕ) (reached : List ℕ) (r : ℕ) (state' quota' reached' : List ℕ) : Type 0 where
  pub answer : GoneOn
  pub went : WentOn (walk_of state) (quota_in quota) k answer
  pub number : r ≡ answer.number
  pub state-left : state' ≡ moved_words answer.reached answer.walk state
  pub again : walk_of state' ≡ answer.walk
  pub quota-left : quota' ≡ laid (answer.quota.left ∷ []) quota
  pub reached-left : reached' ≡ laid (answer.reached ∷ []) reached

-- a look is refused with 12 where the state is too short for a walk
abbrev pub look_number : List ℕ → ℕ
look_number state = room_test (length state) walk_length

-- a look at a pair is refused as a look is, then with 13
unfoldable pub look_pair_number : List ℕ → ℕ → ℕ → ℕ
look_pair_number state v w = first (look_number state ∷ pair_test (walk_of state).header.nodes v w ∷ [])
