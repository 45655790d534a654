-- Laws of scenarios, their numbers and their masses.
-- Assumes nothing.
use mathlib.Core.Path.{◌≡◌, refl, ap, ap₂, ◌∙◌}
use mathlib.Core.Bool.{Bool, true, false}
use mathlib.Core.List.{List, [], ◌∷◌, ◌++◌}
use Prim.Native.Nat.{ℕ, zero, suc, ◌+◌, ◌*◌, ◌/◌, ◌%◌, ◌^◌, ◌≤◌, ◌<◌}
use native.Mathlib.Nat.{zero-add, suc-add, zero-div, div-one, pow-succ'}
use native.Mathlib.Numerals.{one-add}
use native.Mathlib.Omega.{arith}
use lib.Dec.{eqb}
use lib.ListN.{length, get_or, drop, replicate, length-append}
use lib.Pow.{shr-shr}
use borrow.Author.Tests.{eq-eqb, ne_eqb, eqb-true, eqb-false}
use Rattle.mass.specs.Split.{certain, failing, working}
use Rattle.mass.proofs.Theorems.{fails-le, works-le}
use Rattle.sets.specs.Sets.{bit, digit}
use Rattle.plan.specs.Plan.{Event}
use Rattle.plan.specs.Held.{Probabilities, Falling}
use Rattle.walk.specs.Scenario.{Scenario, failing_set, scenario_of, final_mass}

-- law: probabilities that fall from at most 1 are at most 1
pub falling-probable : (q : ℕ) (events : List Event) → q ≤ certain → Falling q events → Probabilities events
falling-probable q [] h f = tt
falling-probable q (e ∷ events) h f = let fits : e.probability ≤ certain = omega (arith, f.0) in (fits, falling-probable e.probability events fits f.1)

-- law: from any event on, they are still at most 1
pub probable-drop : (i : ℕ) (events : List Event) → Probabilities events → Probabilities (drop i events)
probable-drop zero events p = p
probable-drop (suc i) [] p = tt
probable-drop (suc i) (e ∷ events) p = probable-drop i events p.1

-- law: from any event on, they fall from its own probability
pub falling-drop : (q : ℕ) (events : List Event) (i : ℕ) (none : Event) → Falling q events → i < length events
    → Falling (get_or events i none).probability (drop i events)
falling-drop q [] i none f h = absurd (omega arith)
falling-drop q (e ∷ events) zero none f h = (omega arith, f.1)
falling-drop q (e ∷ events) (suc i) none f h = falling-drop e.probability events i none f.1 (omega arith)

-- the two parts of a number: its lowest bit and the rest
parity : (b : Bool) (k : ℕ) → eqb ((digit b + 2 * k) % 2) 1 ≡ b
parity true k = eq-eqb ((1 + 2 * k) % 2) 1 (omega arith)
parity false k = ne_eqb ((0 + 2 * k) % 2) 1 (λ (h : (0 + 2 * k) % 2 ≡ 1). omega arith)

half : (b : Bool) (k : ℕ) → (digit b + 2 * k) / 2 ≡ k
half true k = omega arith
half false k = omega arith

-- law: bit i of the number is set exactly where event i fails
pub failing-bit : (s : Scenario) (i : ℕ) → bit (failing_set s) i ≡ get_or s i false
unfolding bit
failing-bit [] i = ap (λ (x : ℕ). eqb (x % 2) 1) (zero-div (2 ^ i))
failing-bit (b ∷ s) zero = ap (λ (x : ℕ). eqb (x % 2) 1) (div-one (failing_set (b ∷ s))) ∙ parity b (failing_set s)
failing-bit (b ∷ s) (suc i) = rw (← one-add i, ← shr-shr (failing_set (b ∷ s)) 1 i, half b (failing_set s)) (failing-bit s i)

-- law: the number is below 2^n
pub failing-lt : (s : Scenario) → failing_set s < 2 ^ length s
failing-lt [] = omega arith
failing-lt (true ∷ s) = omega (arith, failing-lt s, pow-succ' 2 (length s))
failing-lt (false ∷ s) = omega (arith, failing-lt s, pow-succ' 2 (length s))

-- law: the number of two parts put together
pub failing-append : (s r : Scenario) → failing_set (s ++ r) ≡ failing_set s + 2 ^ length s * failing_set r
failing-append [] r = omega arith
failing-append (b ∷ s) r = omega (arith, failing-append s r, ap (λ (x : ℕ). x * failing_set r) (pow-succ' 2 (length s)))

-- law: the scenario is found again from its number
pub scenario-failing : (s : Scenario) → scenario_of (length s) (failing_set s) ≡ s
scenario-failing [] = refl
scenario-failing (b ∷ s) = rw (parity, half, scenario-failing s)

-- law: and the number from its scenario
pub failing-scenario : (n k : ℕ) → k < 2 ^ n → failing_set (scenario_of n k) ≡ k
failing-scenario zero k h = omega arith
failing-scenario (suc n) k h = omega (arith, low (eqb (k % 2) 1) refl, failing-scenario n (k / 2) (omega (arith, pow-succ' 2 n)))
  where
    low : (b : Bool) → eqb (k % 2) 1 ≡ b → digit b ≡ k % 2
    low true e = omega (arith, eqb-true (k % 2) 1 e)
    low false e = omega (arith, eqb-false (k % 2) 1 e)

-- law: the scenario of n events has n entries
pub scenario-length : (n k : ℕ) → length (scenario_of n k) ≡ n
scenario-length zero k = refl
scenario-length (suc n) k = ap suc (scenario-length n (k / 2))

-- law: one event more that works leaves the number as it is; one that fails adds its bit
pub scenario-next : (d k : ℕ) (b : Bool) → k < 2 ^ d → scenario_of (suc d) (k + 2 ^ d * digit b) ≡ scenario_of d k ++ (b ∷ [])
scenario-next d k b h = ap₂ scenario_of same_length same_number ∙ scenario-failing next
  where
    next : Scenario
    next = scenario_of d k ++ (b ∷ [])

    same_length : suc d ≡ length next
    same_length = omega (arith, length-append (scenario_of d k) (b ∷ []), scenario-length d k)

    same_number : k + 2 ^ d * digit b ≡ failing_set next
    same_number = rw (failing-append (scenario_of d k) (b ∷ []), failing-scenario d k h, scenario-length d k) (omega arith)

-- law: events more that all work leave the number as it is
none-fail : (n : ℕ) → scenario_of n 0 ≡ replicate n false
none-fail zero = refl
none-fail (suc n) = ap {B = Scenario} (λ s. false ∷ s) (none-fail n)

pub scenario-works : (d n k : ℕ) → k < 2 ^ d → scenario_of (d + n) k ≡ scenario_of d k ++ replicate n false
scenario-works zero n k h = let none : k ≡ 0 = omega arith in rw (zero-add n, none) (none-fail n)
scenario-works (suc d) n k h = rw (suc-add d n) (ap {B = Scenario} (λ s. eqb (k % 2) 1 ∷ s) (scenario-works d n (k / 2) (omega (arith, pow-succ' 2 d))))

-- law: mass never grows, whatever the events
pub final_mass-le : (m : ℕ) (events : List Event) (s : Scenario) → Probabilities events → final_mass m events s ≤ m
final_mass-le m [] s p = omega arith
final_mass-le m (e ∷ events) [] p = omega arith
final_mass-le m (e ∷ events) (true ∷ s) p = omega (arith, final_mass-le (failing m e.probability) events s p.1, fails-le m e.probability p.0)
final_mass-le m (e ∷ events) (false ∷ s) p = omega (arith, final_mass-le (working m e.probability) events s p.1, works-le m e.probability p.0)
