-- Laws of membership in a list of scenarios.
-- Assumes nothing.
use mathlib.Core.Path.{◌≡◌, refl, ap}
use mathlib.Core.Bool.{Bool, true, false, ◌||◌, or-true}
use mathlib.Core.List.{List, [], ◌∷◌, ◌++◌, map, Memᴰ}
use Prim.Native.Nat.{ℕ}
use native.Mathlib.Omega.{arith}
use Rattle.walk.specs.Scenario.{Scenario}
use Rattle.walk.specs.Member.{same, among}

-- law: `same` is equality
pub same-equal : (s r : Scenario) → same s r ≡ true → s ≡ r
same-equal [] [] e = refl
same-equal [] (b ∷ r) e = cc
same-equal (a ∷ s) [] e = cc
same-equal (true ∷ s) (true ∷ r) e = ap {B = Scenario} (λ l. true ∷ l) (same-equal s r e)
same-equal (true ∷ s) (false ∷ r) e = cc
same-equal (false ∷ s) (true ∷ r) e = cc
same-equal (false ∷ s) (false ∷ r) e = ap {B = Scenario} (λ l. false ∷ l) (same-equal s r e)

pub same_refl : (s : Scenario) → same s s ≡ true
same_refl [] = refl
same_refl (true ∷ s) = same_refl s
same_refl (false ∷ s) = same_refl s

-- law: `among` is membership
pub among-member : (s : Scenario) (list : List Scenario) → among s list ≡ true → Memᴰ s list
among-member s [] e = absurd (never e)
  where
    never : false ≡ true → ⊥
    never h = let z : ◌≡◌ {A = ℕ} 0 1 = cc in omega arith
among-member s (r ∷ list) e = step (same s r) refl (among-member s list)
  where
    step : (b : Bool) → same s r ≡ b → (among s list ≡ true → Memᴰ s list) → Memᴰ s (r ∷ list)
    step true h later = Memᴰ.head (same-equal s r h)
    step false h later = Memᴰ.tail (later (rw h at e))

pub member-among : (s : Scenario) (list : List Scenario) → Memᴰ s list → among s list ≡ true
member-among s [] x' = elim x' [ ]
member-among s (r ∷ list) (Memᴰ.head e) = rw (e, same_refl r)
member-among s (r ∷ list) (Memᴰ.tail h) = rw (member-among s list h, or-true)

-- law: a scenario whose first event works is found among those whose first event works, and nowhere else; so with "fails"
module _ (s : Scenario) where
  works-only : (ys : List Scenario) → among (false ∷ s) (map (λ r. (true ∷ []) ++ r) ys) ≡ false
  works-only [] = refl
  works-only (r ∷ ys) = works-only ys

  fails-there : (ys : List Scenario) → among (true ∷ s) (map (λ r. (true ∷ []) ++ r) ys) ≡ among s ys
  fails-there [] = refl
  fails-there (r ∷ ys) = ap (λ (b : Bool). same s r || b) (fails-there ys)

  pub among-works : (xs ys : List Scenario)
      → among (false ∷ s) (map (λ r. (false ∷ []) ++ r) xs ++ map (λ r. (true ∷ []) ++ r) ys) ≡ among s xs
  among-works [] ys = works-only ys
  among-works (r ∷ xs) ys = ap (λ (b : Bool). same s r || b) (among-works xs ys)

  pub among-fails : (xs ys : List Scenario)
      → among (true ∷ s) (map (λ r. (false ∷ []) ++ r) xs ++ map (λ r. (true ∷ []) ++ r) ys) ≡ among s ys
  among-fails [] ys = fails-there ys
  among-fails (r ∷ xs) ys = among-fails xs ys
