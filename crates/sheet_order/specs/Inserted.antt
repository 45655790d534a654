-- The words of events that stand in order, with one event more laid down in its place: document 02, request U2.
-- Assumes nothing.
use Rattle.std.specs.Prelude.{List, ◌∷◌, ℕ, ◌-◌, ◌*◌, take, drop}
use Rattle.std.proofs.lemmas.List.Edits.{sets}
use Rattle.plan.specs.Plan.{Event}
use Rattle.plan.specs.Lists.{events_of}
use Rattle.sheet_order.specs.Order.{place_of}

-- events stand in the order of their probability
abbrev pub probability : Event → ℕ
probability e = e.probability

-- a list of words that begins with `count` events, with the event of the words q, n, low, high before the first one whose probability is
-- below q, and those behind it four words on
abbrev pub inserted_words : List ℕ → ℕ → ℕ → ℕ → ℕ → ℕ → List ℕ
inserted_words words count q n low high =
    let p = place_of probability q (events_of count words) in
    sets words (4 * p) (q ∷ n ∷ low ∷ high ∷ take (4 * (count - p)) (drop (4 * p) words))
