-- What the plans of known bytes hold.
-- Assumes nothing.
use Rattle.std.specs.Prelude.{◌≡◌, List, [], ◌∷◌, ℕ, ◌+◌, ◌*◌, ◌/◌, ◌%◌, ◌<◌, get_or, take, drop}

-- the first n links of a list of bytes, two to a link: link i joins i / 3 and 43 + i % 21
abbrev pub LinksUpTo : ℕ → List ℕ → Type 0
LinksUpTo n links = (i : ℕ) → i < n → (get_or links (2 * i) 0 ≡ i / 3) × (get_or links (2 * i + 1) 0 ≡ 43 + i % 21)

-- the file of 64 nodes, 128 such links and two events: the header's bytes, the links, and the events' bytes
abbrev pub large_header : List ℕ
large_header = 82 ∷ 83 ∷ 71 ∷ 1 ∷ 0 ∷ 64 ∷ 128 ∷ 2 ∷ 0 ∷ 0 ∷ 100 ∷ 167 ∷ 179 ∷ 182 ∷ 224 ∷ 13 ∷ 64 ∷ 66 ∷ 15 ∷ 0 ∷ []

abbrev pub large_events : List ℕ
large_events =
    0 ∷ 202 ∷ 154 ∷ 59 ∷ 7 ∷ 0 ∷ 0 ∷ 0 ∷ 63 ∷ 1 ∷ 0 ∷ 1 ∷ 63 ∷ 1 ∷ 64 ∷ 1 ∷ 66 ∷ 1 ∷ 127 ∷ 2 ∷ 1 ∷ 0 ∷ 0 ∷ 1 ∷ 1 ∷ 65 ∷ []

pub record LargeFile (file : List ℕ) : Type 0 where
  pub header : take 20 file ≡ large_header
  pub links : LinksUpTo 128 (take 256 (drop 20 file))
  pub events : drop 276 file ≡ large_events

-- 128 events of four words: q = 10^9, and three sets that have every element
pub record FullEvents (words : List ℕ) : Type 0 where
  pub probabilities : (i : ℕ) → i < 128 → get_or words (4 * i) 0 ≡ 1000000000
  pub sets : (j : ℕ) → j < 512 → (j % 4 ≡ 0 → ⊥) → get_or words j 0 ≡ 18446744073709551615
