-- The values that the export of a credit hands out: the lower and the upper credit, and the headroom as a word, "2^64 + headroom where it is
-- negative".
-- Assumes nothing.
use Rattle.std.specs.Prelude.{◌≡◌, refl, List, [], ◌∷◌, ℕ, suc, ◌-◌, ◌^◌, ℤ, pos, negsuc}
use Rattle.credits.specs.declared.Credits.{Credits}

-- `negsuc n` is −(n + 1)
abbrev pub word_of : ℤ → ℕ
word_of (pos n) = n
word_of (negsuc n) = 2 ^ 64 - suc n

abbrev pub credits_values : Credits → List ℕ
credits_values credits = credits.lower ∷ credits.upper ∷ word_of credits.headroom ∷ []

-- example: the words of 0, −1 and −31,536,000
example-word : (word_of (pos 0) ≡ 0) × (word_of (negsuc 0) ≡ 18446744073709551615) × (word_of (negsuc 31535999) ≡ 18446744073678015616)
example-word = (refl, refl, refl)
