-- The order of the refusals of a call for several thresholds, computed. It stands here, since an edit of the order would be refused by it before
-- it is by the contracts.
-- Assumes nothing.
use Rattle.std.specs.Prelude.{◌≡◌, refl, List, [], ◌∷◌, ℕ, length}
use Rattle.mass.specs.Refusal.{first}
use Rattle.plan.specs.Lists.{links_of, events_of}
use Rattle.plan.specs.LentLists.{link_list_refusal, event_list_refusal, lists_number}
use Rattle.pairs.specs.Pairs.{start}
use Rattle.thresholds.specs.Thresholds.{lent_at, thresholds_number}
use Rattle.thresholds.specs.declared.CommonHeader.{CommonHeader}

-- two nodes, the link 0-1 and an event of 1/10 on it, with a cap
abbrev header : ℕ → CommonHeader
header cap = record { nodes = 2; links = 1; events = 1; cap = cap }

abbrev event : List ℕ
event = 100000000 ∷ 0 ∷ 1 ∷ 0 ∷ []

abbrev number : ℕ → List ℕ → List ℕ → List ℕ → List ℕ → List ℕ → ℕ
number cap links events list lower upper = thresholds_number (lent_at (header cap) links events 1) list (length lower) (length upper)

-- each test decides over those after it: the cap, a short list of links, a link, an event, the thresholds, then either list of bounds; there
-- is no 5
pub example-order : (number 0 [] [] [] [] [] ≡ 6) × (number 9 [] [] [] [] [] ≡ 12) × (number 9 (1 ∷ 0 ∷ []) event [] [] [] ≡ 7)
    × (number 9 (0 ∷ 1 ∷ []) (2000000000 ∷ 0 ∷ 1 ∷ 0 ∷ []) [] [] [] ≡ 8) × (number 9 (0 ∷ 1 ∷ []) event (5 ∷ 5 ∷ []) [] [] ≡ 23)
    × (number 9 (0 ∷ 1 ∷ []) event (0 ∷ []) [] [] ≡ 23) × (number 9 (0 ∷ 1 ∷ []) event (5 ∷ 3 ∷ []) (7 ∷ []) (7 ∷ 7 ∷ []) ≡ 12)
    × (number 9 (0 ∷ 1 ∷ []) event (5 ∷ 3 ∷ []) (7 ∷ 7 ∷ []) (7 ∷ []) ≡ 12)
    × (number 9 (0 ∷ 1 ∷ []) event (5 ∷ 3 ∷ []) (7 ∷ 7 ∷ []) (7 ∷ 7 ∷ []) ≡ 0)
unfolding thresholds_number lists_number link_list_refusal event_list_refusal links_of events_of first start
example-order = (refl, refl, refl, refl, refl, refl, refl, refl, refl)
