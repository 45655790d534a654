-- Laws of the values of an answer.
-- Assumes nothing.
use Rattle.std.specs.Prelude.{Result, Ok, Err, IfOk}
use Rattle.std.specs.Result.{MatchResult, IsOkAnd}
use mathlib.Core.Path.{◌≡◌, refl, sym, ap, ◌∙◌}
use mathlib.Core.List.{List}
use Prim.Native.Nat.{ℕ, zero, suc}
use lib.ListN.{replicate}
use Rattle.mass.specs.Refusal.{number, number_in}
use Rattle.mass.specs.declared.refusal.Refusal.{Refusal}
use Rattle.mass.proofs.RefusalLaws.{number-some}
use Rattle.host_answers.specs.Laid.{laid, given, values_in, values_or_zeros}

-- law: an answer whose values are made by a function has the values of that function
pub values_made : {T : Type 0} (f : T → List ℕ) (count : ℕ) (answer : Result T Refusal) (made : Result (List ℕ) Refusal)
    → MatchResult answer (λ x. IsOkAnd made (λ y. y ≡ f x)) (λ e. made ≡ Err e) → values_in count made ≡ given f count answer
values_made f count (Ok x) (Ok y) e = e
values_made f count (Ok x) (Err r) e = absurd e
values_made f count (Err r) made e = ap (values_in count) e

-- law: the values of an answer by its number, and by what it gives
pub given-is : {T : Type 0} (f : T → List ℕ) (count : ℕ) (answer : Result T Refusal) (x : T) → IfOk answer (λ y. y ≡ x)
    → given f count answer ≡ values_or_zeros count (number_in answer) (f x)
given-is f count (Ok y) x e = ap f e
given-is f count (Err r) x e = zeros (number r) (number-some r)
  where
    zeros : (n : ℕ) → (n ≡ 0 → ⊥) → replicate count 0 ≡ values_or_zeros count n (f x)
    zeros zero n = absurd (n refl)
    zeros (suc k) n = refl

-- law: what is laid down of an answer, by its number n and by what it gives
pub laid-is : {T : Type 0} (f : T → List ℕ) (count : ℕ) (answer : Result T Refusal) (x : T) (n : ℕ) (list : List ℕ)
    → IfOk answer (λ y. y ≡ x) → n ≡ number_in answer → laid (given f count answer) list ≡ laid (values_or_zeros count n (f x)) list
laid-is f count answer x n list e k =
    ap (λ (values : List ℕ). laid values list) (given-is f count answer x e ∙ ap (λ (i : ℕ). values_or_zeros count i (f x)) (sym k))

-- law: making the values keeps the number
pub made-number : {T : Type 0} (f : T → List ℕ) (answer : Result T Refusal) (made : Result (List ℕ) Refusal)
    → MatchResult answer (λ x. IsOkAnd made (λ y. y ≡ f x)) (λ e. made ≡ Err e) → number_in made ≡ number_in answer
made-number f (Ok x) (Ok y) e = refl
made-number f (Ok x) (Err r) e = absurd e
made-number f (Err r) made e = ap number_in e

-- law: what is laid down of an answer whose values are made by a function, by its number n and by what it gives
pub laid-given : {T : Type 0} (f : T → List ℕ) (count : ℕ) (answer : Result T Refusal) (made : Result (List ℕ) Refusal) (x : T) (n : ℕ) (list : List ℕ)
    → MatchResult answer (λ y. IsOkAnd made (λ values. values ≡ f y)) (λ e. made ≡ Err e) → IfOk answer (λ y. y ≡ x) → n ≡ number_in made
    → laid (values_in count made) list ≡ laid (values_or_zeros count n (f x)) list
laid-given f count answer made x n list m e k =
    ap (λ (values : List ℕ). laid values list) (values_made f count answer made m)
    ∙ laid-is f count answer x n list e (k ∙ made-number f answer made m)
