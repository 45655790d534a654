-- What the laws of the order by falling key speak of.
-- Assumes nothing.
use Rattle.std.specs.Prelude.{cond, List, [], ◌∷◌, ℕ, ◌≤◌, eqb}

-- each key is at most the one before, and the first is at most k
abbrev pub FallingFrom : {A : Type 0} → (A → ℕ) → ℕ → List A → Type 0
FallingFrom key k [] = Unit {0}
FallingFrom key k (x ∷ xs) = (key x ≤ k) × FallingFrom key (key x) xs

-- every key is at most k
abbrev pub AtMost : {A : Type 0} → (A → ℕ) → ℕ → List A → Type 0
AtMost key k [] = Unit {0}
AtMost key k (x ∷ xs) = (key x ≤ k) × AtMost key k xs

-- the elements of key k, in their order
unfoldable pub having : {A : Type 0} → (A → ℕ) → ℕ → List A → List A
having key k [] = []
having key k (x ∷ xs) = cond (eqb (key x) k) (x ∷ having key k xs) (having key k xs)
