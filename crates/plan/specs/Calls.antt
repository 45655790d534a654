-- What the calls on plans answer, and what they leave in lent lists, for every input.
-- Assumes nothing.
use Rattle.std.specs.Prelude.{List, [], ◌∷◌, ℕ, zero, suc, ◌*◌, length}
use Rattle.std.proofs.lemmas.List.Edits.{sets}
use Rattle.mass.specs.Refusal.{first}
use Rattle.refusals.specs.Tests.{room_test}
use Rattle.plan.specs.Layout.{layout}
use Rattle.plan.specs.File.{refusal, nodes_in, links_in, events_in, threshold_in, cap_in}
use Rattle.plan.specs.LentLists.{Lent, lists_number, plan_lent}
use Rattle.plan.specs.declared.Header.{Header}
use Rattle.plan.specs.declared.Element.{Element}
use Rattle.plan.specs.declared.Element.TheVariants.{Node, Link}

-- what a call leaves in a lent list: with number 0 the elements laid down from the start, else the list as it was
abbrev pub filled : ℕ → List ℕ → List ℕ → List ℕ
filled zero news list = sets list 0 news
filled (suc number) news list = list

-- a member is a node (kind 0) or a link (kind 1)
abbrev pub element_of : ℕ → ℕ → Element
element_of zero number = Node number
element_of (suc kind) number = Link number

-- the header that bytes stand for
unfoldable pub header_of : List ℕ → Header
header_of b =
    record {
      nodes = nodes_in b;
      links = links_in b;
      events = events_in b;
      threshold = threshold_in b;
      cap = cap_in b;
    }

-- reading a plan: 1 to 11, then 12 where a lent list has no room; the lists have room for `link_room` bytes and `event_room` whole events
unfoldable pub read_number : ℕ → ℕ → List ℕ → ℕ
read_number link_room event_room b = first (refusal b ∷ room_test link_room (2 * links_in b) ∷ room_test event_room (events_in b) ∷ [])

-- writing a plan: the tests of the lists, then 12 where the output has no room
unfoldable pub write_number : Lent → ℕ → ℕ
write_number l room = first (lists_number l ∷ room_test room (length (layout (plan_lent l))) ∷ [])
