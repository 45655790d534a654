-- The order of a list by falling key, elements of equal key in their old order, over any element and key.
-- Assumes nothing.
use Rattle.std.specs.Prelude.{cond, List, [], ◌∷◌, ◌++◌, ℕ, suc, ltb, take, drop}

-- how many elements stand before the first one whose key is below k
unfoldable pub place_of : {A : Type 0} → (A → ℕ) → ℕ → List A → ℕ
place_of key k [] = 0
place_of key k (x ∷ xs) = cond (ltb (key x) k) 0 (suc (place_of key k xs))

-- a list with one element more, which stands before the first element whose key is below its own
unfoldable pub with_element : {A : Type 0} → (A → ℕ) → A → List A → List A
with_element key x xs = take (place_of key (key x) xs) xs ++ (x ∷ drop (place_of key (key x) xs) xs)

-- the elements of a list, put one after another among those that are in order already
unfoldable pub ordered_with : {A : Type 0} → (A → ℕ) → List A → List A → List A
ordered_with key done [] = done
ordered_with key done (x ∷ xs) = ordered_with key (with_element key x done) xs

-- a list in the order of falling keys, ties in the old order
abbrev pub ordered : {A : Type 0} → (A → ℕ) → List A → List A
ordered key xs = ordered_with key [] xs
