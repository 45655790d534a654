-- The words that the export for several thresholds hands out: the examined count, complete and E of each of the 16 places, one place after
-- another.
-- Assumes nothing.
use Rattle.std.specs.Prelude.{◌≡◌, refl, List, [], ◌∷◌, ℕ}
use Rattle.thresholds.specs.declared.CommonHeader.{CommonHeader}
use Rattle.thresholds.specs.declared.Answered.{Answered}

-- the header of four numbers
abbrev pub common_with : ℕ → ℕ → ℕ → ℕ → CommonHeader
common_with nodes links events cap = record { nodes = nodes; links = links; events = events; cap = cap }

-- three lists, an entry of each in turn
abbrev pub in_turn : List ℕ → List ℕ → List ℕ → List ℕ
in_turn [] seconds thirds = []
in_turn (a ∷ firsts) [] thirds = []
in_turn (a ∷ firsts) (b ∷ seconds) [] = []
in_turn (a ∷ firsts) (b ∷ seconds) (c ∷ thirds) = a ∷ b ∷ c ∷ in_turn firsts seconds thirds

abbrev pub places_values : Answered → List ℕ
places_values answer = in_turn answer.count answer.complete answer.mass

-- example: two places
example-places : in_turn (1 ∷ 2 ∷ []) (1 ∷ 0 ∷ []) (70 ∷ 90 ∷ []) ≡ 1 ∷ 1 ∷ 70 ∷ 2 ∷ 0 ∷ 90 ∷ []
example-places = refl
