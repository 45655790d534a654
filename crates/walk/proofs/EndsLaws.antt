-- Laws of the ends of a walk.
-- Assumes nothing.
use mathlib.Core.Path.{◌≡◌, refl, ap}
use mathlib.Core.Bool.{Bool, true, false}
use mathlib.Core.List.{List, [], ◌∷◌, ◌++◌, map, map-append, append_assoc}
use Prim.Native.Nat.{ℕ, zero, suc, ◌+◌, ◌-◌, ◌≤◌, ◌<◌}
use native.Mathlib.Nat.{sub-zero, zero-sub, suc-sub-suc}
use native.Mathlib.Omega.{arith}
use lib.Dec.{ltb}
use lib.ListN.{length, take, drop, length-map}
use lib.Seq.{take-nil, drop-nil}
use borrow.Author.Tests.{lt-ltb, le-ltb, ltb-true, ltb-false}
use Rattle.mass.specs.Split.{failing, working}
use Rattle.plan.specs.Plan.{Event, Plan}
use Rattle.walk.specs.Scenario.{Scenario}
use Rattle.walk.specs.Ends.{End, dropped, relevant, after, both_sides, ends, ends_after, sum_ends, scenarios}
use Rattle.walk.specs.Walk.{first_ends, count}

-- law: a mass below the threshold is dropped at once
pub ends-cut : (t m : ℕ) (events : List Event) → m < t → ends t m events ≡ dropped ∷ []
unfolding ends
ends-cut t m [] h = rw (lt-ltb m t h, ends)
ends-cut t m (e ∷ events) h = rw (lt-ltb m t h, ends)

-- law: with no event left, the scenario is relevant
pub ends-leaf : (t m : ℕ) → t ≤ m → ends t m [] ≡ relevant [] m ∷ []
unfolding ends
ends-leaf t m h = rw (le-ltb m t h, ends)

-- law: else those under "works" come first, then those under "fails"
pub ends-node : (t m : ℕ) (e : Event) (events : List Event) → t ≤ m
    → ends t m (e ∷ events) ≡ ends_after (false ∷ []) t (working m e.probability) events ++ ends_after (true ∷ []) t (failing m e.probability) events
unfolding ends
ends-node t m e events h = rw (le-ltb m t h, ends)

-- law: a path of two parts
pub after-after : (a b : Scenario) (list : List End) → map (after a) (map (after b) list) ≡ map (after (a ++ b)) list
after-after a b [] = refl
after-after a b (dropped ∷ list) = ap {B = List End} (λ l. dropped ∷ l) (after-after a b list)
after-after a b (relevant s m ∷ list) = rw (append_assoc a b s, after-after a b list)

-- law: the empty path changes nothing
pub after_nothing : (list : List End) → map (after []) list ≡ list
after_nothing [] = refl
after_nothing (dropped ∷ list) = ap {B = List End} (λ l. dropped ∷ l) (after_nothing list)
after_nothing (relevant s m ∷ list) = ap {B = List End} (λ l. relevant s m ∷ l) (after_nothing list)

module _ (path : Scenario) (t m : ℕ) where
  -- the last of them for the ends that follow a path
  pub after-node : (e : Event) (events : List Event) → t ≤ m
      → ends_after path t m (e ∷ events)
      ≡ ends_after (path ++ (false ∷ [])) t (working m e.probability) events ++ ends_after (path ++ (true ∷ [])) t (failing m e.probability) events
  after-node e events h = rw (ends-node t m e events h, map-append, after-after path (false ∷ []), after-after path (true ∷ []))

-- law: the sum over two lists put together
pub sum_ends-append : (f : Scenario → ℕ → ℕ) (xs ys : List End) → sum_ends f (xs ++ ys) ≡ sum_ends f xs + sum_ends f ys
sum_ends-append f [] ys = omega arith
sum_ends-append f (dropped ∷ xs) ys = sum_ends-append f xs ys
sum_ends-append f (relevant s m ∷ xs) ys = omega (arith, sum_ends-append f xs ys)

-- law: the sum over the ends that follow a path
pub sum_ends-after : (f : Scenario → ℕ → ℕ) (path : Scenario) (list : List End)
    → sum_ends f (map (after path) list) ≡ sum_ends (λ s m. f (path ++ s) m) list
sum_ends-after f path [] = refl
sum_ends-after f path (dropped ∷ list) = sum_ends-after f path list
sum_ends-after f path (relevant s m ∷ list) = ap (λ (x : ℕ). f (path ++ s) m + x) (sum_ends-after f path list)

-- the same of the scenarios of a list of ends
pub scenarios-append : (xs ys : List End) → scenarios (xs ++ ys) ≡ scenarios xs ++ scenarios ys
scenarios-append [] ys = refl
scenarios-append (dropped ∷ xs) ys = scenarios-append xs ys
scenarios-append (relevant s m ∷ xs) ys = ap {B = List Scenario} (λ l. s ∷ l) (scenarios-append xs ys)

pub scenarios-after : (path : Scenario) (list : List End) → scenarios (map (after path) list) ≡ map (λ s. path ++ s) (scenarios list)
scenarios-after path [] = refl
scenarios-after path (dropped ∷ list) = scenarios-after path list
scenarios-after path (relevant s m ∷ list) = ap {B = List Scenario} (λ l. (path ++ s) ∷ l) (scenarios-after path list)

-- law: there are as many scenarios as a sum of 1 counts
pub scenarios-count : (list : List End) → sum_ends (λ s m. 1) list ≡ length (scenarios list)
scenarios-count [] = refl
scenarios-count (dropped ∷ list) = scenarios-count list
scenarios-count (relevant s m ∷ list) = omega (arith, scenarios-count list)

module _ {A : Type 0} where
  -- law: the first entries of two lists put together
  pub take-append : (k : ℕ) (xs ys : List A) → take k (xs ++ ys) ≡ take k xs ++ take (k - length xs) ys
  take-append k [] ys = rw (sub-zero k, take-nil {A = A} k)
  take-append zero (x ∷ xs) ys = rw (zero-sub (suc (length xs)))
  take-append (suc k) (x ∷ xs) ys = rw (suc-sub-suc, take-append k xs ys)

  -- and the entries after them
  pub drop-append : (k : ℕ) (xs ys : List A) → drop k (xs ++ ys) ≡ drop k xs ++ drop (k - length xs) ys
  drop-append k [] ys = rw (sub-zero k, drop-nil {A = A} k)
  drop-append zero (x ∷ xs) ys = rw (zero-sub (suc (length xs)))
  drop-append (suc k) (x ∷ xs) ys = rw (suc-sub-suc, drop-append k xs ys)

  -- law: the first entries of a list whose entries were changed one by one
  pub take-map : {B : Type 0} (f : A → B) (k : ℕ) (xs : List A) → take k (map f xs) ≡ map f (take k xs)
  take-map f zero xs = refl
  take-map f (suc k) [] = refl
  take-map {B} f (suc k) (x ∷ xs) = ap {B = List B} (λ l. f x ∷ l) (take-map f k xs)

-- law: the first k ends of two branches are first ends of each
pub take-both : (k : ℕ) (xs ys : List End) → take k (both_sides xs ys) ≡ both_sides (take k xs) (take (k - length xs) ys)
take-both k xs ys =
    rw (
      take-append k (map (after (false ∷ [])) xs) (map (after (true ∷ [])) ys),
      length-map xs (after (false ∷ [])),
      take-map (after (false ∷ [])) k xs,
      take-map (after (true ∷ [])) (k - length xs) ys,
    )

-- law: sums over the ends of two branches
pub sum_ends-both : (f : Scenario → ℕ → ℕ) (xs ys : List End)
    → sum_ends f (both_sides xs ys) ≡ sum_ends (λ s m. f (false ∷ s) m) xs + sum_ends (λ s m. f (true ∷ s) m) ys
sum_ends-both f xs ys =
    rw (sum_ends-append f (map (after (false ∷ [])) xs) (map (after (true ∷ [])) ys), sum_ends-after f (false ∷ []) xs, sum_ends-after f (true ∷ []) ys)

-- law: the scenarios of two branches
pub scenarios-both : (xs ys : List End)
    → scenarios (both_sides xs ys) ≡ map (λ s. (false ∷ []) ++ s) (scenarios xs) ++ map (λ s. (true ∷ []) ++ s) (scenarios ys)
scenarios-both xs ys =
    rw (scenarios-append (map (after (false ∷ [])) xs) (map (after (true ∷ [])) ys), scenarios-after (false ∷ []) xs, scenarios-after (true ∷ []) ys)

-- induction over the first k ends of a walk, k any number: what holds of no end, of a dropped one, of a relevant one with no event left,
-- and of two branches where it holds of each, holds of the first k ends
module _ (t : ℕ) (P : ℕ → List Event → List End → Type 0)
    (none : (m : ℕ) (events : List Event) → P m events [])
    (cut : (m : ℕ) (events : List Event) → m < t → P m events (dropped ∷ []))
    (leaf : (m : ℕ) → t ≤ m → P m [] (relevant [] m ∷ []))
    (node : (m : ℕ) (e : Event) (events : List Event) (xs ys : List End) → t ≤ m
    → P (working m e.probability) events xs → P (failing m e.probability) events ys → P m (e ∷ events) (both_sides xs ys)) where
  one : (k m : ℕ) (events : List Event) (x : End) → P m events (x ∷ []) → P m events (take k (x ∷ []))
  one zero m events x h = none m events
  one (suc k) m events x h = rw (take-nil {A = End} k) h

  pub first_ends_lem : (k m : ℕ) (events : List Event) → P m events (take k (ends t m events))
  first_ends_lem k m [] = step (ltb m t) refl
    where
      step : (b : Bool) → ltb m t ≡ b → P m [] (take k (ends t m []))
      step true c = rw (ends-cut t m [] (ltb-true m t c)) (one k m [] dropped (cut m [] (ltb-true m t c)))
      step false c = rw (ends-leaf t m (ltb-false m t c)) (one k m [] (relevant [] m) (leaf m (ltb-false m t c)))
  first_ends_lem k m (e ∷ events) =
      step
      (first_ends_lem k (working m e.probability) events)
      (first_ends_lem (k - length (ends t (working m e.probability) events)) (failing m e.probability) events)
      (ltb m t)
      refl
    where
      works : List End
      works = ends t (working m e.probability) events

      fails : List End
      fails = ends t (failing m e.probability) events

      step : P (working m e.probability) events (take k works) → P (failing m e.probability) events (take (k - length works) fails)
          → (b : Bool) → ltb m t ≡ b → P m (e ∷ events) (take k (ends t m (e ∷ events)))
      step ih_works ih_fails true c = rw (ends-cut t m (e ∷ events) (ltb-true m t c)) (one k m (e ∷ events) dropped (cut m (e ∷ events) (ltb-true m t c)))
      step ih_works ih_fails false c =
          rw (ends-node t m e events (ltb-false m t c), take-both k works fails)
          (node m e events (take k works) (take (k - length works) fails) (ltb-false m t c) ih_works ih_fails)

-- law: the count as a sum over the ends
pub count-sum : (p : Plan) → sum_ends (λ s m. 1) (first_ends p) ≡ count p
count-sum p = scenarios-count (first_ends p)
