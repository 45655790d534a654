-- Links are refused as those of a plan without events, and what the call answers.
-- Assumes nothing.
use mathlib.Core.Path.{◌≡◌, refl, ap, ◌∙◌}
use mathlib.Core.List.{List, [], ◌∷◌}
use mathlib.Core.Bool.{Bool}
use Prim.Native.Nat.{ℕ, zero, suc, ◌*◌, ◌/◌, ◌<◌}
use borrow.Author.Tests.{leb-false}
use lib.Dec.{leb, leb-suc-zero}
use lib.ListN.{length}
use Rattle.mass.specs.Refusal.{refuse, first}
use Rattle.mass.proofs.RefusalLaws.{refuse-none}
use Rattle.refusals.specs.Tests.{counts_test, room_test}
use Rattle.plan.specs.Lists.{links_of, events_of}
use Rattle.plan.specs.LentLists.{link_list_refusal, event_list_refusal, plan_of_lists, in_words, lists_number}
use Rattle.plan.specs.Plan.{Plan}
use Rattle.plan.specs.declared.Header.{Header}
use Rattle.plan_lists.specs.Taken.{Taken}
use Rattle.network.specs.Code.{outage}
use Rattle.network.specs.Topology.{network_of}
use Rattle.network.specs.declared.Failed.{Failed}
use Rattle.topology.specs.Rounds.{reach_of}
use Rattle.topology.specs.declared.Reach.{Reach}
use Rattle.host_reach.specs.NodeReach.{links_number, node_test, reach_in, reach_values, LinksTaken}

-- a header without events
abbrev pub plain : ℕ → ℕ → Header
plain nodes count = record { nodes = nodes; links = count; events = 0; threshold = 1; cap = 1 }

-- tests that pass may be left out
left_out : (counts room ends : ℕ) → first (counts ∷ 0 ∷ 0 ∷ room ∷ 0 ∷ ends ∷ 0 ∷ []) ≡ first (counts ∷ room ∷ ends ∷ [])
unfolding first
left_out (suc counts) room ends = refl
left_out zero (suc room) ends = refl
left_out zero zero (suc ends) = refl
left_out zero zero zero = refl

pub without-events : (nodes count : ℕ) (links words : List ℕ) → lists_number (in_words (plain nodes count) links words) ≡ links_number nodes count links
unfolding lists_number links_number event_list_refusal events_of
without-events nodes count links words =
    ap (λ (room : ℕ). first (counts_test nodes count 0 ∷ 0 ∷ 0 ∷ room_test (length links) (2 * count) ∷ room ∷ link_list_refusal nodes (links_of count links) ∷ 0 ∷ [])) none
    ∙ left_out (counts_test nodes count 0) (room_test (length links) (2 * count)) (link_list_refusal nodes (links_of count links))
  where
    none : room_test (length words / 4) 0 ≡ 0
    none = ap (λ (b : Bool). refuse b 12) (leb-suc-zero (length words / 4))

module _ (nodes count : ℕ) (links words bytes words' : List ℕ) where
  pub links-taken : Taken (plain nodes count) links words bytes words' → LinksTaken nodes count links bytes
  unfolding plan_of_lists
  links-taken t = record { same = ap (λ (p : Plan). p.links) t.denoted; held = t.held.links-held }

-- ---- the answer

pub same-links : (nodes count : ℕ) (links bytes : List ℕ) (failed : Failed) (v : ℕ) → LinksTaken nodes count links bytes
    → reach_in nodes count bytes failed v ≡ reach_in nodes count links failed v
same-links nodes count links bytes failed v t = ap (λ ls. reach_of (network_of nodes ls (outage failed)) v) t.same
