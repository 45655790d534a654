-- The order of pairs: document 01, section "Bounds of a pair": "Pairs have v < w and are ordered by v, then w." And the test of a pair.
-- Assumes nothing.
use Rattle.std.specs.Prelude.{◌||◌, List, [], ◌∷◌, ◌++◌, ℕ, zero, suc, ◌+◌, ◌-◌, leb}
use Rattle.mass.specs.Refusal.{refuse}

-- the values of f at the pairs (v, w), (v, w + 1), .., `count` of them
unfoldable pub row : {A : Type 0} → (ℕ → ℕ → A) → ℕ → ℕ → ℕ → List A
row f v w zero = []
row f v w (suc count) = f v w ∷ row f v (suc w) count

-- the rows of `count` nodes from v on, of n nodes: node v is paired with each node after it
unfoldable pub rows : {A : Type 0} → (ℕ → ℕ → A) → ℕ → ℕ → ℕ → List A
rows f n v zero = []
rows f n v (suc count) = row f v (suc v) (n - suc v) ++ rows f n (suc v) count

-- the values of f at all pairs of n nodes, in order
unfoldable pub table : {A : Type 0} → (ℕ → ℕ → A) → ℕ → List A
table f n = rows f n 0 n

-- the place of the first pair of node v in the order: node u comes first in n − u − 1 pairs
unfoldable pub start : ℕ → ℕ → ℕ
start n zero = 0
start n (suc v) = start n v + (n - suc v)

-- the place of the pair (v, w) in the order
unfoldable pub place : ℕ → ℕ → ℕ → ℕ
place n v w = start n v + (w - suc v)

-- how many pairs n nodes have
abbrev pub pair_count : ℕ → ℕ
pair_count n = start n n

-- 13: a pair without v < w < N
abbrev pub pair_test : ℕ → ℕ → ℕ → ℕ
pair_test nodes v w = refuse (leb w v || leb nodes w) 13
