-- Numbers in decimal: document 01, section "Listing": "Fields are decimal without leading zeros". Digits are ASCII: 48 is `0`.
-- Assumes nothing.
use Rattle.std.specs.Prelude.{◌≡◌, refl, cond, List, [], ◌∷◌, ◌++◌, ℕ, zero, suc, ◌+◌, ◌/◌, ◌%◌, ltb}

-- the digits of a number, the highest first; `most` is how many digits are made at most
unfoldable pub digits : ℕ → ℕ → List ℕ
digits zero x = []
digits (suc most) x = cond (ltb x 10) ((48 + x) ∷ []) (digits most (x / 10) ++ ((48 + x % 10) ∷ []))

-- a number in decimal: it has no more digits than its value and one
unfoldable pub decimal : ℕ → List ℕ
decimal x = digits (suc x) x

-- examples
example-decimal : (decimal 0 ≡ 48 ∷ []) × (decimal 10 ≡ 49 ∷ 48 ∷ []) × (decimal 907 ≡ 57 ∷ 48 ∷ 55 ∷ [])
unfolding decimal digits
example-decimal = (refl, refl, refl)
