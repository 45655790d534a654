-- Sets as numbers. Document 01, section "Plan file": "Element i is bit i of a set, of value 2^i."
-- Assumes nothing.
use Rattle.std.specs.Prelude.{Bool, true, false, ◌||◌, ℕ, zero, suc, ◌+◌, ◌*◌, ◌/◌, ◌%◌, ◌^◌, eqb}

-- whether i is an element of the set s
unfoldable pub bit : ℕ → ℕ → Bool
bit s i = eqb (s / 2 ^ i % 2) 1

-- the set of up to 128 elements that two words hold, elements 64 to 127 in the high one
abbrev pub joined : ℕ → ℕ → ℕ
joined low high = high * 2 ^ 64 + low

-- a Bool as a digit
abbrev pub digit : Bool → ℕ
digit true = 1
digit false = 0

-- the set of the elements below k that pass a test
unfoldable pub set_where : (ℕ → Bool) → ℕ → ℕ
set_where test zero = 0
set_where test (suc k) = set_where test k + digit (test k) * 2 ^ k

-- whether p holds of a number below k
unfoldable pub any_below : (ℕ → Bool) → ℕ → Bool
any_below p zero = false
any_below p (suc k) = p k || any_below p k

-- the first number below k of which p holds, or k where there is none
unfoldable pub first_below : (ℕ → Bool) → ℕ → ℕ
first_below p zero = 0
first_below p (suc k) =
    elim (p 0) [
      | true ↦ 0
      | false ↦ suc (first_below (λ i. p (suc i)) k)
    ]
