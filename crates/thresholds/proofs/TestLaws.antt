-- The test of a list of thresholds: what it says of the thresholds.
-- Assumes nothing.
use mathlib.Core.Path.{◌≡◌, refl}
use mathlib.Core.Bool.{true, ◌&&◌, ◌||◌}
use mathlib.Core.List.{List, [], ◌∷◌}
use Prim.Native.Nat.{ℕ, zero, suc, ◌+◌, ◌<◌, ◌≤◌}
use native.Mathlib.Numerals.{add-one}
use native.Mathlib.Omega.{arith}
use borrow.Author.Tests.{leb-true, leb-false, ltb-true, ltb-false, lt-ltb, le-ltb, le-leb, lt-leb, not-false}
use lib.Dec.{leb, ltb}
use lib.ListN.{length, get_or}
use Rattle.mass.proofs.RefusalLaws.{refuse-none}
use Rattle.mass.specs.Split.{whole}
use Rattle.sets.proofs.Bools.{and_left, and_right}
use Rattle.refusals.proofs.TestLaws.{or-none}
use Rattle.thresholds.specs.Thresholds.{falls, thresholds_test}

-- ---- the test

module _ (list : List ℕ) where
  -- what passes
  pub test-passes : 0 < length list → length list ≤ 16 → falls (suc whole) list ≡ true → 0 ≡ thresholds_test list
  test-passes some few e = rw (lt-leb (length list) 0 some, le-ltb 16 (length list) few, e)

  pub test-none : thresholds_test list ≡ 0 → (0 < length list) × (length list ≤ 16) × (falls (suc whole) list ≡ true)
  test-none e =
      let a = or-none (leb (length list) 0 || ltb 16 (length list)) _ (refuse-none _ 22 e) in
      let b = or-none (leb (length list) 0) (ltb 16 (length list)) a.0 in
      (leb-false (length list) 0 b.0, ltb-false 16 (length list) b.1, not-false _ a.1)

-- ---- the thresholds of a list that falls

falls-next : (above t : ℕ) (later : List ℕ) → falls above (t ∷ later) ≡ true → (1 ≤ t) × (t < above) × (falls t later ≡ true)
falls-next above t later e =
    let two = and_left (leb 1 t && ltb t above) (falls t later) e in (
      leb-true 1 t (and_left (leb 1 t) (ltb t above) two),
      ltb-true t above (and_right (leb 1 t) (ltb t above) two),
      and_right (leb 1 t && ltb t above) (falls t later) e,
    )

-- each is 1 or more and below what all fall from
pub in-range : (above : ℕ) (list : List ℕ) → falls above list ≡ true → (i : ℕ) → i < length list
    → (1 ≤ get_or list i 0) × (get_or list i 0 < above)
in-range above [] e i h = absurd (omega arith)
in-range above (t ∷ later) e zero h = let n = falls-next above t later e in (n.0, n.1)
in-range above (t ∷ later) e (suc i) h =
    let n = falls-next above t later e in
    let r = in-range t later n.2 i (omega arith) in
    (r.0, omega arith)

-- each is below every one before it
pub in_order : (above : ℕ) (list : List ℕ) → falls above list ≡ true → (i j : ℕ) → i < j → j < length list → get_or list j 0 < get_or list i 0
in_order above [] e i j l h = absurd (omega arith)
in_order above (t ∷ later) e i zero l h = absurd (omega arith)
in_order above (t ∷ later) e zero (suc j) l h = (in-range t later (falls-next above t later e).2 j (omega arith)).1
in_order above (t ∷ later) e (suc i) (suc j) l h = in_order t later (falls-next above t later e).2 i j (omega arith) (omega arith)

-- and a list with these two falls
pub falls-from : (above : ℕ) (list : List ℕ) → ((i : ℕ) → i < length list → (1 ≤ get_or list i 0) × (get_or list i 0 < above))
    → ((i : ℕ) → i + 1 < length list → get_or list (i + 1) 0 < get_or list i 0) → falls above list ≡ true
falls-from above [] range order = refl
falls-from above (t ∷ later) range order =
    let initial = range 0 (omega arith) in
    let rest : falls t later ≡ true =
    falls-from t later (λ i h. ((range (suc i) (omega arith)).0, below i h)) (λ i h. next i h) in
    rw (le-leb 1 t initial.0, lt-ltb t above initial.1, rest)
  where
    next : (i : ℕ) → i + 1 < length later → get_or later (i + 1) 0 < get_or later i 0
    next i h = rw (add-one i) (rw (add-one (suc i)) at (order (suc i) (omega arith)))

    below : (i : ℕ) → i < length later → get_or later i 0 < t
    below zero h = order 0 (omega arith)
    below (suc i) h = omega (arith, below i (omega arith), rw add-one at (next i (omega arith)))
