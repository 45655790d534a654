-- Sanity laws of the exact sums: the list of all sets is what its name says.
-- Assumes nothing.
use mathlib.Core.Path.{◌≡◌, refl, ap}
use mathlib.Core.Logic.{⊎_elim}
use mathlib.Core.Bool.{Bool, true, false}
use mathlib.Core.List.Memᴰ
use mathlib.Core.List.{[], ◌∷◌, map, Memᴰ}
use mathlib.Core.List.{Nodup, Pairwise-singleton}
use Prim.Native.Nat.{ℕ, zero, suc, ◌^◌}
use native.Mathlib.Nat.{pow-succ'}
use native.Mathlib.Omega.{arith}
use lib.ListN.{length, length-append, length-map}
use Rattle.walk.specs.Scenario.{Scenario}
use Rattle.walk.specs.WalkOrder.{earlier, Ordered}
use Rattle.walk.proofs.OrderLaws.{ordered-both, ordered-distinct}
use Rattle.sums.specs.Exact.{all_sets}

-- law: there are 2^n sets of n events
pub sets-length : (n : ℕ) → length (all_sets n) ≡ 2 ^ n
sets-length zero = refl
sets-length (suc n) =
    rw (
      length-append (map (λ s. false ∷ s) (all_sets n)) (map (λ s. true ∷ s) (all_sets n)),
      length-map (all_sets n) (λ s. false ∷ s),
      length-map (all_sets n) (λ s. true ∷ s),
      sets-length n,
    )
    (omega (arith, pow-succ' 2 n))

-- law: every list of n entries is one of them
pub sets-all : (s : Scenario) → Memᴰ s (all_sets (length s))
sets-all [] = Memᴰ.head refl
sets-all (false ∷ s) = Memᴰ.append_left (map (λ r. true ∷ r) (all_sets (length s))) (Memᴰ.map (λ r. false ∷ r) (sets-all s))
sets-all (true ∷ s) = Memᴰ.append_right (map (λ r. false ∷ r) (all_sets (length s))) (Memᴰ.map (λ r. true ∷ r) (sets-all s))

-- law: and each of them has n entries
pub sets-entries : (n : ℕ) (s : Scenario) → Memᴰ s (all_sets n) → length s ≡ n
sets-entries zero s h = ⊎_elim (ap length) (λ (e : Memᴰ s []). absurd (Memᴰ.not-nil e)) (Memᴰ.cases_cons h)
sets-entries (suc n) s h = ⊎_elim (side (sets-entries n) false) (side (sets-entries n) true) (Memᴰ.append_cases (map (λ r. false ∷ r) (all_sets n)) h)
  where
    side : ((r : Scenario) → Memᴰ r (all_sets n) → length r ≡ n) → (b : Bool) → Memᴰ s (map (λ r. b ∷ r) (all_sets n)) → length s ≡ suc n
    side known b there =
        let found = Memᴰ.of_map (λ (r : Scenario). b ∷ r) (all_sets n) there in
        rw (← found.2) (ap suc (known found.0 found.1))

-- law: they stand in the order of the walk
pub sets-ordered : (n : ℕ) → Ordered (all_sets n)
sets-ordered zero = Pairwise-singleton (λ (s r : Scenario). earlier s r ≡ true) []
sets-ordered (suc n) = ordered-both (all_sets n) (all_sets n) (sets-ordered n) (sets-ordered n)

-- law: so none is there twice
pub sets-distinct : (n : ℕ) → Nodup (all_sets n)
sets-distinct n = ordered-distinct (all_sets n) (sets-ordered n)
