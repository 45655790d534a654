-- The words of the places, laid down one place after another, and the values that an answer hands out.
-- Assumes nothing.
use Rattle.std.specs.Prelude.{Result, Ok, Err, IfOk, MatchResult}
use mathlib.Core.Path.{◌≡◌, refl, ap, sym, ◌∙◌}
use mathlib.Core.List.{List, [], ◌∷◌, ◌++◌}
use Prim.Native.Nat.{ℕ, zero, suc, ◌+◌, ◌*◌, ◌<◌, ◌≤◌}
use native.Mathlib.Nat.{zero-add}
use native.Mathlib.Numerals.{add-one, add-two}
use native.Mathlib.Omega.{arith}
use lib.ListN.{length, get_or, take, set}
use lib.Seq.{sets, length-sets, take_all}
use Rattle.plan_lists.proofs.ListLaws.{sets-append}
use Rattle.mass.specs.Refusal.{number, number_in}
use Rattle.mass.specs.declared.refusal.Refusal.{Refusal}
use Rattle.mass.proofs.RefusalLaws.{number-some}
use Rattle.plan.specs.Plan.{Plan}
use Rattle.thresholds.specs.Thresholds.{answer_of, no_answer, thresholds_answer}
use Rattle.thresholds.specs.declared.Answered.{Answered}
use Rattle.host_thresholds.specs.ThresholdAnswers.{in_turn}

-- three numbers laid down one by one
pub three-put : (list : List ℕ) (at a b c : ℕ) → set (set (set list at a) (at + 1) b) (at + 2) c ≡ sets list at (a ∷ b ∷ c ∷ [])
three-put list at a b c = rw (add-one at, add-two at)

pub laid-long : (list list₀ numbers : List ℕ) → list ≡ sets list₀ 0 numbers → length list ≡ length list₀
laid-long list list₀ numbers e = ap length e ∙ length-sets list₀ 0 numbers

-- one place more
turn-next : (i : ℕ) (xs ys zs : List ℕ) → i < length xs → i < length ys → i < length zs
    → in_turn (take (suc i) xs) (take (suc i) ys) (take (suc i) zs)
    ≡ in_turn (take i xs) (take i ys) (take i zs) ++ (get_or xs i 0 ∷ get_or ys i 0 ∷ get_or zs i 0 ∷ [])
turn-next i [] ys zs a b c = absurd (omega arith)
turn-next i (x ∷ xs) [] zs a b c = absurd (omega arith)
turn-next i (x ∷ xs) (y ∷ ys) [] a b c = absurd (omega arith)
turn-next zero (x ∷ xs) (y ∷ ys) (z ∷ zs) a b c = refl
turn-next (suc i) (x ∷ xs) (y ∷ ys) (z ∷ zs) a b c =
    ap (λ (l : List ℕ). x ∷ y ∷ z ∷ l) (turn-next i xs ys zs (omega arith) (omega arith) (omega arith))

turn-long : (i : ℕ) (xs ys zs : List ℕ) → i ≤ length xs → i ≤ length ys → i ≤ length zs → length (in_turn (take i xs) (take i ys) (take i zs)) ≡ 3 * i
turn-long zero xs ys zs a b c = refl
turn-long (suc i) [] ys zs a b c = absurd (omega arith)
turn-long (suc i) (x ∷ xs) [] zs a b c = absurd (omega arith)
turn-long (suc i) (x ∷ xs) (y ∷ ys) [] a b c = absurd (omega arith)
turn-long (suc i) (x ∷ xs) (y ∷ ys) (z ∷ zs) a b c = omega (arith, turn-long i xs ys zs (omega arith) (omega arith) (omega arith))

module _ (xs ys zs : List ℕ) (x-size : length xs ≡ 16) (y-size : length ys ≡ 16) (z-size : length zs ≡ 16) (list₀ : List ℕ) where
  -- the words of the first i places are laid down
  pub place-on : (i : ℕ) (list list' : List ℕ) → i < 16 → list ≡ sets list₀ 0 (in_turn (take i xs) (take i ys) (take i zs))
      → list' ≡ sets list (3 * i) (get_or xs i 0 ∷ get_or ys i 0 ∷ get_or zs i 0 ∷ [])
      → list' ≡ sets list₀ 0 (in_turn (take (i + 1) xs) (take (i + 1) ys) (take (i + 1) zs))
  place-on i list list' l here put =
      let words : List ℕ = in_turn (take i xs) (take i ys) (take i zs) in
      let last : List ℕ = get_or xs i 0 ∷ get_or ys i 0 ∷ get_or zs i 0 ∷ [] in
      let long : 0 + length words ≡ 3 * i = zero-add (length words) ∙ turn-long i xs ys zs (omega arith) (omega arith) (omega arith) in
      put
      ∙ ap (λ (l : List ℕ). sets l (3 * i) last) here
      ∙ ap (λ (n : ℕ). sets (sets list₀ 0 words) n last) (sym long)
      ∙ sym (sets-append words last list₀ 0)
      ∙ ap (sets list₀ 0) (sym (turn-next i xs ys zs (omega arith) (omega arith) (omega arith)))
      ∙ ap (λ (n : ℕ). sets list₀ 0 (in_turn (take n xs) (take n ys) (take n zs))) (sym (add-one i))

  -- those of all places
  pub places-all : (i : ℕ) (list : List ℕ) → 16 ≤ i → list ≡ sets list₀ 0 (in_turn (take i xs) (take i ys) (take i zs)) → list ≡ sets list₀ 0 (in_turn xs ys zs)
  places-all i list l here =
      here
      ∙ rw (
        take_all i xs (omega arith),
        take_all i ys (omega arith),
        take_all i zs (omega arith),
      )

-- the values that an answer hands out follow from its number
pub handed : (answer : Result Answered Refusal) (plan : ℕ → Plan) (list : List ℕ) (x : Answered)
    → MatchResult answer (λ a. x ≡ a) (λ r. x ≡ no_answer) → IfOk answer (λ a. a ≡ answer_of plan list)
    → x ≡ thresholds_answer (number_in answer) plan list
handed (Ok a) plan list x e p = e ∙ p
handed (Err r) plan list x e p = e ∙ go (number r) (number-some r)
  where
    go : (n : ℕ) → (n ≡ 0 → ⊥) → no_answer ≡ thresholds_answer n plan list
    go zero some = absurd (some refl)
    go (suc n) some = refl
