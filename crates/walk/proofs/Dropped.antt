-- Dropped ends in one go: where the "fails" side of an event falls below the threshold, so do those of the events after it.
-- Assumes nothing.
use mathlib.Core.Path.{◌≡◌, refl, ap}
use mathlib.Core.Bool.{Bool, true, false}
use mathlib.Core.List.{List, [], ◌∷◌, ◌++◌, map, append_assoc}
use Prim.Native.Nat.{ℕ, zero, suc, ◌+◌, ◌≤◌, ◌<◌}
use native.Mathlib.Nat.{mul-le-mul}
use native.Mathlib.Numerals.{add-one}
use native.Mathlib.Omega.{arith}
use lib.Dec.{ltb}
use lib.ListN.{length, replicate, replicate-append-replicate}
use borrow.Author.Tests.{ltb-true, ltb-false}
use Rattle.mass.specs.Split.{certain, failing, working}
use Rattle.mass.proofs.Theorems.{works-le}
use Rattle.plan.specs.Plan.{Event}
use Rattle.walk.specs.Scenario.{Scenario}
use Rattle.plan.specs.Held.{Falling}
use Rattle.walk.specs.Ends.{End, dropped, after, ends}
use Rattle.walk.proofs.EndsLaws.{ends-cut, ends-leaf, ends-node}
use Rattle.walk.specs.WorksPath.{path_steps, path_mass, path_end}
use Rattle.walk.proofs.StackLaws.{path_end-cut, path_end-enough, path-last, path-cut, path-on}

-- two runs of dropped ends are one
pub runs-add : (a b : ℕ) (list : List End) → replicate a dropped ++ (replicate b dropped ++ list) ≡ replicate (a + b) dropped ++ list
runs-add a b list = rw (← append_assoc (replicate a dropped) (replicate b dropped) list, replicate-append-replicate a b dropped)

-- dropped ends that follow a path are dropped ends
pub run-after : (path : Scenario) (n : ℕ) → map (after path) (replicate n dropped) ≡ replicate n dropped
run-after path zero = refl
run-after path (suc n) = ap {B = List End} (λ l. dropped ∷ l) (run-after path n)

-- one event more before the end of a "works" path
end_after : (t m n : ℕ) → after (false ∷ []) (path_end t m n) ≡ path_end t m (suc n)
end_after t m n = step (ltb m t) refl
  where
    step : (b : Bool) → ltb m t ≡ b → after (false ∷ []) (path_end t m n) ≡ path_end t m (suc n)
    step true e = rw (path_end-cut t m n (ltb-true m t e), path_end-cut t m (suc n) (ltb-true m t e))
    step false e = rw (path_end-enough t m n (ltb-false m t e), path_end-enough t m (suc n) (ltb-false m t e))

-- less mass, or a lower probability, leaves less to "fails"
less-fails : (m q m' q' : ℕ) → m' ≤ m → q' ≤ q → failing m' q' ≤ failing m q
less-fails m q m' q' h l = omega (arith, mul-le-mul h l)

-- law: the ends below a branch whose "fails" side falls below the threshold, t, are the one end of the "works" path, then so many dropped
-- ones: one for each event that the path decides. (q is the probability of the branch's event, or any that the events fall from.)
pub works-path : (t q m : ℕ) (events : List Event) → q ≤ certain → Falling q events → failing m q < t
    → ends t m events ≡ path_end t (path_mass t m events) (length events) ∷ replicate (path_steps t m events) dropped
works-path t q m [] p f h = step (ltb m t) refl
  where
    step : (b : Bool) → ltb m t ≡ b → ends t m [] ≡ path_end t (path_mass t m []) 0 ∷ replicate (path_steps t m []) dropped
    step true e = rw ((path-last t m).0, (path-last t m).1, ends-cut t m [] (ltb-true m t e), path_end-cut t m 0 (ltb-true m t e))
    step false e = rw ((path-last t m).0, (path-last t m).1, ends-leaf t m (ltb-false m t e), path_end-enough t m 0 (ltb-false m t e))
works-path t q m (e ∷ events) p f h = step (works-path t e.probability works events (omega (arith, f.0)) f.1 later) (ltb m t) refl
  where
    works : ℕ
    works = working m e.probability

    fits : e.probability ≤ certain
    fits = omega (arith, f.0)

    initial : failing m e.probability < t
    initial = omega (arith, less-fails m q m e.probability (omega arith) f.0)

    later : failing works e.probability < t
    later = omega (arith, initial, less-fails m e.probability works e.probability (works-le m e.probability fits) (omega arith))

    step : ends t works events ≡ path_end t (path_mass t works events) (length events) ∷ replicate (path_steps t works events) dropped
        → (b : Bool) → ltb m t ≡ b
        → ends t m (e ∷ events) ≡ path_end t (path_mass t m (e ∷ events)) (suc (length events)) ∷ replicate (path_steps t m (e ∷ events)) dropped
    step below true c =
        rw (
          (path-cut t m (e ∷ events) (ltb-true m t c)).0,
          (path-cut t m (e ∷ events) (ltb-true m t c)).1,
          ends-cut t m (e ∷ events) (ltb-true m t c),
          path_end-cut t m (suc (length events)) (ltb-true m t c),
        )
    step below false c =
        rw (
          (path-on t m e events (ltb-false m t c)).0,
          (path-on t m e events (ltb-false m t c)).1,
          ends-node t m e events (ltb-false m t c),
          below,
          ends-cut t (failing m e.probability) events initial,
          end_after t (path_mass t works events) (length events),
          run-after (false ∷ []) (path_steps t works events),
          replicate-append-replicate (path_steps t works events) 1 dropped,
          add-one (path_steps t works events),
        )
