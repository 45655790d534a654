-- What the order by falling key means: the theorems that let a reader trust it (document 02, request U2).
-- Assumes nothing.
use mathlib.Core.Path.{◌≡◌, refl}
use mathlib.Core.List.{List, [], ◌∷◌, Perm}
use Prim.Native.Nat.{ℕ, ◌/◌}
use Rattle.sheet_order.specs.Order.{place_of, with_element, ordered_with, ordered}
use Rattle.sheet_order.specs.Falling.{FallingFrom, AtMost, having}
use Rattle.sheet_order.proofs.OrderLaws.{ordered-with-falling, ordered-with-rearranged, ordered-with-stable}

module _ {A : Type 0} (key : A → ℕ) where
  -- each key is at most the one before
  pub ordered-falling : (k : ℕ) (xs : List A) → AtMost key k xs → FallingFrom key k (ordered key xs)
  ordered-falling k xs most = ordered-with-falling key k [] xs tt most

  -- the list in order is a rearrangement of the list: each element exactly once
  pub ordered-rearranged : (xs : List A) → Perm xs (ordered key xs)
  ordered-rearranged xs = ordered-with-rearranged key [] xs

  -- elements of equal key keep their old order
  pub ordered-stable : (k : ℕ) (xs : List A) → having key k (ordered key xs) ≡ having key k xs
  ordered-stable k xs = ordered-with-stable key k 0 [] xs tt

-- ---- computed examples: by tens, numbers of the same ten in their old order

example-ordered : ordered (λ (x : ℕ). x / 10) (31 ∷ 12 ∷ 32 ∷ 11 ∷ 50 ∷ []) ≡ 50 ∷ 31 ∷ 32 ∷ 12 ∷ 11 ∷ []
unfolding ordered_with with_element place_of
example-ordered = refl

example-equal : ordered (λ (x : ℕ). x / 10) (12 ∷ 11 ∷ 13 ∷ 12 ∷ []) ≡ 12 ∷ 11 ∷ 13 ∷ 12 ∷ []
unfolding ordered_with with_element place_of
example-equal = refl

example-having : having (λ (x : ℕ). x / 10) 1 (31 ∷ 12 ∷ 32 ∷ 11 ∷ 50 ∷ []) ≡ 12 ∷ 11 ∷ []
unfolding having
example-having = refl
