-- One path for one threshold: what was reached with it, and what is then to come, give the same answers.
-- Assumes nothing.
use mathlib.Core.Path.{◌≡◌, refl, ap, sym, ◌∙◌}
use mathlib.Core.List.{List, [], ◌∷◌, ◌++◌}
use Prim.Native.Nat.{ℕ, zero, suc, ◌+◌, ◌-◌, ◌*◌, ◌≤◌, ◌<◌}
use native.Mathlib.Decide.{dec_lt}
use native.Mathlib.Nat.{mul-le-mul_left}
use native.Mathlib.Omega.{arith}
use borrow.Author.Tests.{le-leb, lt-leb, lt-ltb, le-ltb}
use lib.Dec.{leb, ltb}
use lib.ListN.{length, get_or, take, replicate, length-append, length-replicate}
use Rattle.sets.specs.Sets.{joined, digit}
use Rattle.plan.specs.Plan.{Plan}
use Rattle.network.specs.Outage.{intact}
use Rattle.walk.specs.Scenario.{Scenario, scenario_of}
use Rattle.walk.specs.Ends.{End, dropped, sum_ends}
use Rattle.walk.specs.Walk.{count, mass_examined}
use Rattle.walk.specs.Steps.{end_of}
use Rattle.walk.proofs.EndsLaws.{take-append, sum_ends-append}
use Rattle.pairs.specs.Pairs.{place}
use Rattle.pairs.proofs.Row.{at_most}
use Rattle.bounds.specs.Bounds.{cuts}
use Rattle.thresholds_walk.specs.Paths.{own_then_dropped}
use Rattle.thresholds_walk.specs.declared.WorksPath.{WorksPath}
use Rattle.thresholds_sums.specs.Walked.{OwnNumbers, CountedSoFar, HoldsAnswers, examined_by}
use Rattle.thresholds_sums.proofs.Examined.{not-met, no_room, with-room}

-- ---- sums over the ends of a path

sum-dropped : (f : Scenario → ℕ → ℕ) (n k : ℕ) → sum_ends f (take n (replicate k dropped)) ≡ 0
sum-dropped f zero k = refl
sum-dropped f (suc n) zero = refl
sum-dropped f (suc n) (suc k) = sum-dropped f n k

sum_past : (f : Scenario → ℕ → ℕ) (n k : ℕ) (list : List End) → sum_ends f (take n (replicate k dropped ++ list)) ≡ sum_ends f (take (n - k) list)
sum_past f n k list =
    ap (sum_ends f) (take-append n (replicate k dropped) list)
    ∙ sum_ends-append f (take n (replicate k dropped)) (take (n - length (replicate k dropped)) list)
    ∙ omega (arith, sum-dropped f n k, ap (λ (m : ℕ). sum_ends f (take (n - m) list)) (length-replicate k dropped))

module _ (events t : ℕ) (path : WorksPath) where
  abbrev scenario : Scenario
  scenario = scenario_of events (joined path.low path.high)

  end-sum : (f : Scenario → ℕ → ℕ) (list : List End) → Dec (path.last < t)
      → sum_ends f (end_of events (leb t path.last) path.last path.low path.high ∷ list)
      ≡ f scenario path.last * digit (leb t path.last) + sum_ends f list
  end-sum f list (yes h) = rw (lt-leb t path.last h) (omega arith)
  end-sum f list (no h) = rw (le-leb t path.last (omega arith)) (omega arith)

  own-long : (k : ℕ) → length (own_then_dropped events t path k) ≡ k
  own-long zero = refl
  own-long (suc k) = ap suc (length-replicate k dropped)

  -- the ends that may be reached with room: those of the path, and those after them
  module _ (room count : ℕ) (none : count ≡ 0 → path.last < t) (list : List End) where
    sum_step : (f : Scenario → ℕ → ℕ)
        → sum_ends f (take (room - 1) (own_then_dropped events t path count ++ list))
        ≡ f scenario path.last * examined_by t room path.last + sum_ends f (take (room - count - 1) list)
    sum_step f = go count refl (dec_lt room 2)
      where
        go : (k : ℕ) → count ≡ k → Dec (room < 2)
            → sum_ends f (take (room - 1) (own_then_dropped events t path k ++ list))
            ≡ f scenario path.last * examined_by t room path.last + sum_ends f (take (room - k - 1) list)
        go zero e d =
            let same : room - 1 ≡ room - 0 - 1 = omega arith in
            rw (not-met t room path.last (none e)) (omega (arith, ap (λ (m : ℕ). sum_ends f (take m list)) same))
        go (suc k) e (yes small) =
            let now-none : room - 1 ≡ 0 = omega arith in
            let then-none : room - suc k - 1 ≡ 0 = omega arith in
            rw (no_room t room path.last small, now-none, then-none) (omega arith)
        go (suc k) e (no big) =
            let one : room - 1 ≡ suc (room - 2) = omega arith in
            let rest : room - 2 - k ≡ room - suc k - 1 = omega arith in
            rw (one, with-room t room path.last (omega arith))
            (end-sum f (take (room - 2) (replicate k dropped ++ list)) (dec_lt path.last t)
            ∙ omega (arith, sum_past f (room - 2) k list, ap (λ (m : ℕ). sum_ends f (take m list)) rest))

    -- and whether fewer are to come than the room says
    fewer-step : ltb (length (own_then_dropped events t path count ++ list)) room ≡ ltb (length list) (room - count)
    fewer-step = go (dec_lt (length list) (room - count))
      where
        long : length (own_then_dropped events t path count ++ list) ≡ count + length list
        long = length-append (own_then_dropped events t path count) list ∙ ap (λ (n : ℕ). n + length list) (own-long count)

        go : Dec (length list < room - count) → ltb (length (own_then_dropped events t path count ++ list)) room ≡ ltb (length list) (room - count)
        go (yes h) =
            lt-ltb (length (own_then_dropped events t path count ++ list)) room (omega (arith, long)) ∙ sym (lt-ltb (length list) (room - count) h)
        go (no h) =
            le-ltb (length (own_then_dropped events t path count ++ list)) room (omega (arith, long)) ∙ sym (le-ltb (length list) (room - count) (omega arith))

-- ---- what was counted so far for one threshold

module _ (p : Plan) (events t : ℕ) (path : WorksPath) (coming coming' : List End) (o : OwnNumbers) (block : ℕ) (lower : List ℕ)
    (g : CountedSoFar p coming o block lower) (k : ℕ) (none : k ≡ 0 → path.last < t) (split : coming ≡ own_then_dropped events t path k ++ coming') where
  abbrev one : ℕ
  one = examined_by t o.room path.last

  taken : (f : Scenario → ℕ → ℕ) → sum_ends f (take (o.room - 1) coming)
      ≡ f (scenario_of events (joined path.low path.high)) path.last * one + sum_ends f (take (o.room - k - 1) coming')
  taken f = ap (λ (l : List End). sum_ends f (take (o.room - 1) l)) split ∙ sum_step events t path o.room k none coming' f

  -- the sums have room for what the path adds
  pub count_fits : o.count + one ≤ count p
  count_fits = omega (arith, g.counts, taken (λ s m. 1))

  pub mass-fits : o.mass + path.last * one ≤ mass_examined p
  mass-fits = omega (arith, g.masses, taken (λ s m. m))

  pub counted-on : (lower' : List ℕ) (o' : OwnNumbers) → o'.room ≡ o.room - k → o'.count ≡ o.count + one → o'.mass ≡ o.mass + path.last * one
      → ((v w : ℕ) → v < w → w < p.nodes
      → get_or lower' (place p.nodes v w + block) 0
      ≡ get_or lower (place p.nodes v w + block) 0
      + path.last * one * digit (cuts intact p v w (scenario_of events (joined path.low path.high))))
      → CountedSoFar p coming' o' block lower'
  counted-on lower' o' left counted added each =
      record {
        counts = rw (left, counted) (omega (arith, g.counts, taken (λ s m. 1)));
        masses = rw (left, added) (omega (arith, g.masses, taken (λ s m. m)));
        entries = λ v w l h. rw left (omega (arith, each v w l h, g.entries v w l h, taken (λ s m. m * digit (cuts intact p v w s))));
        below =
            λ v w l h.
            omega (
              arith,
              each v w l h,
              g.below v w l h,
              added,
              mul-le-mul_left (path.last * one) (at_most (cuts intact p v w (scenario_of events (joined path.low path.high)))),
            );
        ends =
            rw left
            (ap digit (sym (fewer-step events t path o.room k none coming'))
            ∙ ap (λ (l : List End). digit (ltb (length l) o.room)) (sym split)
            ∙ g.ends);
      }

-- the walk of a threshold has ended: no end may be reached any more, or none is to come
module _ (p : Plan) (coming : List End) (o : OwnNumbers) (block : ℕ) (lower : List ℕ) (g : CountedSoFar p coming o block lower) where
  holds-answers : take (o.room - 1) coming ≡ [] → ltb (length coming) o.room ≡ ltb 0 o.room → HoldsAnswers p o block lower
  holds-answers none same =
      record {
        counts = omega (arith, g.counts, ap (sum_ends (λ s m. 1)) none);
        masses = omega (arith, g.masses, ap (sum_ends (λ s m. m)) none);
        entries = λ v w l h. omega (arith, g.entries v w l h, ap (sum_ends (λ s m. m * digit (cuts intact p v w s))) none);
        ends = ap digit (sym same) ∙ g.ends;
      }

  pub used-up : o.room ≡ 0 → HoldsAnswers p o block lower
  used-up e =
      holds-answers (ap (λ (n : ℕ). take (n - 1) coming) e)
      (ap (ltb (length coming)) e ∙ le-ltb (length coming) 0 (omega arith) ∙ sym (ap (ltb 0) e ∙ le-ltb 0 0 (omega arith)))

  pub all-reached : coming ≡ [] → HoldsAnswers p o block lower
  all-reached e = holds-answers (rw e (go (o.room - 1))) (ap (λ (l : List End). ltb (length l) o.room) e)
    where
      go : (n : ℕ) → take {A = End} n [] ≡ []
      go zero = refl
      go (suc n) = refl
