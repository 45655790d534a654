-- Numbers laid down in a lent list, as far as it has room, and the values of an answer: all 0 where it is a refusal.
-- Assumes nothing.
use Rattle.std.specs.Prelude.{◌≡◌, refl, List, [], ◌∷◌, ℕ, zero, suc, replicate, Result, Ok, Err}
use Rattle.std.proofs.lemmas.List.Edits.{sets}
use Rattle.mass.specs.declared.refusal.Refusal.{Refusal}

-- a list with these numbers laid down from its start: a number for which there is no entry is left out
abbrev pub laid : List ℕ → List ℕ → List ℕ
laid numbers list = sets list 0 numbers

-- the `count` values of an answer
abbrev pub given : {T : Type 0} → (T → List ℕ) → ℕ → Result T Refusal → List ℕ
given values count (Ok x) = values x
given values count (Err refused) = replicate count 0

abbrev pub values_in : ℕ → Result (List ℕ) Refusal → List ℕ
values_in count answer = given (λ values. values) count answer

-- the same by the number of an answer and by the values that it gives with number 0
abbrev pub values_or_zeros : ℕ → ℕ → List ℕ → List ℕ
values_or_zeros count zero values = values
values_or_zeros count (suc number) values = replicate count 0

-- examples: one entry more than numbers, and one number more than entries
example-more : laid (1 ∷ 2 ∷ []) (7 ∷ 8 ∷ 9 ∷ []) ≡ 1 ∷ 2 ∷ 9 ∷ []
example-more = refl

example-fewer : laid (1 ∷ 2 ∷ []) (7 ∷ []) ≡ 1 ∷ []
example-fewer = refl
