-- Laws of the exact sums over all sets of events.
-- Assumes nothing.
use mathlib.Core.Path.{◌≡◌, refl, ap, ap₂, ◌∙◌}
use mathlib.Core.Bool.{Bool, true, false}
use mathlib.Core.List.{List, [], ◌∷◌, ◌++◌, map}
use Prim.Native.Nat.{ℕ, zero, suc, ◌+◌, ◌-◌, ◌*◌, ◌^◌, ◌≤◌}
use native.Mathlib.Omega.{arith}
use lib.ListN.{length}
use lib.Pow.{pow-add}
use Rattle.mass.specs.Split.{certain}
use Rattle.mass.proofs.Theorems.{products}
use Rattle.plan.specs.Plan.{Event}
use Rattle.walk.specs.Scenario.{Scenario}
use Rattle.plan.specs.Held.{Probabilities}
use Rattle.sums.specs.Exact.{all_sets, factor, exact, sum_over, exact_sum, scale}

-- law: one event more
pub scale-zero : scale 0 ≡ 1
unfolding scale
scale-zero = refl

pub scale-suc : (n : ℕ) → scale (suc n) ≡ certain * scale n
unfolding scale
scale-suc n = ap (λ (k : ℕ). 10 ^ k) step ∙ pow-add 10 9 (9 * n)
  where
    step : 9 * suc n ≡ 9 + 9 * n
    step = omega arith

pub scale-pos : (n : ℕ) → 1 ≤ scale n
scale-pos zero = omega (arith, scale-zero)
scale-pos (suc n) = omega (arith, scale-suc n, scale-pos n)

-- the sum over two lists put together, of scenarios prefixed, of a multiple, of two functions
pub sum_over-append : (f : Scenario → ℕ) (xs ys : List Scenario) → sum_over f (xs ++ ys) ≡ sum_over f xs + sum_over f ys
sum_over-append f [] ys = omega arith
sum_over-append f (s ∷ xs) ys = omega (arith, sum_over-append f xs ys)

pub sum_over-map : (f : Scenario → ℕ) (g : Scenario → Scenario) (xs : List Scenario) → sum_over f (map g xs) ≡ sum_over (λ s. f (g s)) xs
sum_over-map f g [] = refl
sum_over-map f g (s ∷ xs) = ap (λ (x : ℕ). f (g s) + x) (sum_over-map f g xs)

pub sum_over-times : (k : ℕ) (f g : Scenario → ℕ) (xs : List Scenario) → sum_over (λ s. k * f s * g s) xs ≡ k * sum_over (λ s. f s * g s) xs
sum_over-times k f g [] = omega arith
sum_over-times k f g (s ∷ xs) = omega (arith, sum_over-times k f g xs)

-- law: no event
pub exact_sum-none : (w : Scenario → ℕ) → exact_sum [] w ≡ w []
unfolding exact_sum
exact_sum-none w = omega arith

-- law: one event more: 10^9 − q times the sets without it, and q times those with it
pub exact_sum-event : (e : Event) (events : List Event) (w : Scenario → ℕ)
    → exact_sum (e ∷ events) w
    ≡ (certain - e.probability) * exact_sum events (λ s. w (false ∷ s)) + e.probability * exact_sum events (λ s. w (true ∷ s))
unfolding exact_sum
exact_sum-event e events w =
    sum_over-append value (map (λ s. false ∷ s) sets) (map (λ s. true ∷ s) sets) ∙ ap₂ ◌+◌ (side false) (side true)
  where
    sets : List Scenario
    sets = all_sets (length events)

    value : Scenario → ℕ
    value s = exact (e ∷ events) s * w s

    side : (b : Bool) → sum_over value (map (λ s. b ∷ s) sets) ≡ factor b e.probability * sum_over (λ s. exact events s * w (b ∷ s)) sets
    side b = sum_over-map value (λ s. b ∷ s) sets ∙ sum_over-times (factor b e.probability) (exact events) (λ s. w (b ∷ s)) sets

-- law: the sum of two weights, and of a multiple of a weight
module _ (f : Scenario → ℕ) where
  sum_over-add : (v w : Scenario → ℕ) (xs : List Scenario) → sum_over (λ s. f s * (v s + w s)) xs ≡ sum_over (λ s. f s * v s) xs + sum_over (λ s. f s * w s) xs
  sum_over-add v w [] = omega arith
  sum_over-add v w (s ∷ xs) = omega (arith, sum_over-add v w xs)

  sum_over-scaled : (k : ℕ) (w : Scenario → ℕ) (xs : List Scenario) → sum_over (λ s. f s * (k * w s)) xs ≡ k * sum_over (λ s. f s * w s) xs
  sum_over-scaled k w [] = omega arith
  sum_over-scaled k w (s ∷ xs) = omega (arith, sum_over-scaled k w xs)

module _ (events : List Event) where
  pub exact_sum-add : (v w : Scenario → ℕ) → exact_sum events (λ s. v s + w s) ≡ exact_sum events v + exact_sum events w
  unfolding exact_sum
  exact_sum-add v w = sum_over-add (exact events) v w (all_sets (length events))

  pub exact_sum-times : (k : ℕ) (w : Scenario → ℕ) → exact_sum events (λ s. k * w s) ≡ k * exact_sum events w
  unfolding exact_sum
  exact_sum-times k w = sum_over-scaled (exact events) k w (all_sets (length events))

-- law: the exact probabilities of all sets sum to 10^(9n)
pub exact_sum-all : (events : List Event) → Probabilities events → exact_sum events (λ s. 1) ≡ scale (length events)
exact_sum-all [] p = omega (arith, exact_sum-none (λ s. 1), scale-zero)
exact_sum-all (e ∷ events) p =
    rw (exact_sum-event e events (λ s. 1), exact_sum-all events p.1, scale-suc)
    (omega (arith, products (scale (length events)) e.probability p.0))
