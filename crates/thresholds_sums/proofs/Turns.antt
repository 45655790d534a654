-- One turn of the walk for the thresholds under way, and one threshold after another that ends.
-- Assumes nothing.
use mathlib.Core.Path.{◌≡◌, refl, ap, sym, subst, ◌∙◌}
use mathlib.Core.List.{List, [], ◌∷◌, ◌++◌}
use mathlib.Core.Logic.{◌⊎◌, inl, inr}
use Prim.Native.Nat.{ℕ, ◌+◌, ◌-◌, ◌*◌, ◌^◌, ◌≤◌, ◌<◌}
use native.Mathlib.Decide.{ℕ_discrete, dec_lt}
use native.Mathlib.Nat.{mul-le-mul_left}
use native.Mathlib.Omega.{arith}
use borrow.Author.Tests.{lt-ltb, le-ltb, le-leb, lt-leb}
use lib.Dec.{leb, ltb}
use lib.ListN.{length, get_or, take, length-take}
use lib.Pow.{pow_mono}
use lib.Seq.{sets}
use Rattle.mass.specs.Split.{whole}
use Rattle.sets.specs.Sets.{joined, digit}
use Rattle.plan.specs.Plan.{Plan}
use Rattle.plan.specs.LentLists.{plan_of_lists}
use Rattle.plan.specs.Held.{Held}
use Rattle.plan.specs.declared.Header.{Header}
use Rattle.network.specs.Outage.{intact}
use Rattle.walk.specs.Ends.{End, dropped, relevant, sum_ends}
use Rattle.walk.specs.Walk.{plan_ends, first_ends, count, mass_examined}
use Rattle.walk.proofs.EndsLaws.{count-sum}
use Rattle.walk.proofs.Theorems.{mass_examined-le}
use Rattle.walk.proofs.Valid.{held-probable}
use Rattle.pairs.specs.Pairs.{place, pair_count}
use Rattle.pairs.proofs.PairLaws.{place-lt}
use Rattle.bounds.specs.Bounds.{cuts}
use Rattle.thresholds_walk.specs.Stack.{shared_to_come, SharedStack}
use Rattle.thresholds_walk.specs.Paths.{shared_walk, path_ends, own_then_dropped, PathTaken}
use Rattle.thresholds_walk.specs.declared.WorksPath.{WorksPath}
use Rattle.thresholds_walk.proofs.Counting.{all_of}
use Rattle.thresholds_walk.proofs.Resume.{begun-stack, begun-ends, none-to-come}
use Rattle.thresholds_sums.specs.declared.PlaceNumbers.{PlaceNumbers}
use Rattle.thresholds_sums.specs.Walked.{Plans, plan_for, FallingFirst, numbers_at, CountedSoFar, HoldsAnswers, examined_by}
use Rattle.thresholds_sums.specs.Walked.{PathFits, CountsFit, PathAdded, Places, PathCounted, AllCountedSoFar, Kept, Fresh, AllHoldAnswers}
use Rattle.thresholds_sums.proofs.Examined.{not-met}
use Rattle.thresholds_sums.proofs.Steps.{mass-fits, counted-on, used-up, all-reached}
use Rattle.thresholds_sums.proofs.Blocks.{lowest-least}

-- no more scenarios are examined than the cap
ones-le : (list : List End) → sum_ends (λ s m. 1) list ≤ length list
ones-le [] = omega arith
ones-le (dropped ∷ list) = omega (arith, ones-le list)
ones-le (relevant s m ∷ list) = omega (arith, ones-le list)

count-le : (p : Plan) → count p ≤ p.cap
count-le p = omega (arith, count-sum p, ones-le (first_ends p), length-take p.cap (plan_ends p))

-- below one more is at most
one_more : (n m r : ℕ) → r ≡ m + 1 → ltb n r ≡ leb n m
one_more n m r e = go (dec_lt m n)
  where
    go : Dec (m < n) → ltb n r ≡ leb n m
    go (yes c) = le-ltb n r (omega arith) ∙ sym (lt-leb n m c)
    go (no c) = lt-ltb n r (omega arith) ∙ sym (le-leb n m (omega arith))

-- the ends to come of threshold i
abbrev coming : Plans → ℕ → ℕ → List ℕ → List End
coming ps i at stack = shared_to_come ps.header.events (get_or ps.list i 0) ps.words at stack

module _ (ps : Plans) (active : ℕ) (f : FallingFirst active ps.list) (held : Held ps.header ps.links ps.words)
    (cap-small : ps.header.cap < 4294967296) (at : ℕ) (stack : List ℕ) (n : PlaceNumbers) (lower : List ℕ)
    (sofar : AllCountedSoFar ps active at stack n lower) (stack' : List ℕ) (path : WorksPath)
    (t : PathTaken (shared_walk ps.header.events (get_or ps.list (active - 1) 0) ps.words) at stack stack' path) where
  -- the ends to come of a threshold are those of the path, and those then to come
  split : (i : ℕ) → i < active → (k : ℕ)
      → path_ends ps.header.events (get_or ps.list i 0) ps.words path ≡ own_then_dropped ps.header.events (get_or ps.list i 0) path k
      → coming ps i at stack ≡ own_then_dropped ps.header.events (get_or ps.list i 0) path k ++ coming ps i path.at stack'
  split i l k are =
      t.ends (get_or ps.list i 0) (lowest-least active ps.list f i l) ∙ ap (λ (x : List End). x ++ coming ps i path.at stack') are

  most : (i : ℕ) → mass_examined (plan_for ps i) ≤ whole
  unfolding plan_of_lists
  most i = mass_examined-le (plan_for ps i) (held-probable ps.header ps.links ps.words held)

  -- the sums have room for what the path adds
  mass-room : (i : ℕ) → i < active → Dec (path.last < get_or ps.list i 0)
      → get_or n.masses i 0 + path.last * examined_by (get_or ps.list i 0) (get_or n.rooms i 0) path.last ≤ whole
  mass-room i l (yes c) =
      rw (not-met (get_or ps.list i 0) (get_or n.rooms i 0) path.last c) (omega (arith, (sofar.each i l).masses, most i))
  mass-room i l (no c) =
      let s = t.sound in
      let k = path.stop - path.depth + 1 in
      omega (
        arith,
        most i,
        mass-fits (plan_for ps i) ps.header.events (get_or ps.list i 0) path _ _ _ _ lower (sofar.each i l) k (λ z. absurd (omega arith))
            (split i l k
            (all_of ps.header.events (get_or ps.list (active - 1) 0) (get_or ps.list i 0) ps.words held.falling
            (lowest-least active ps.list f i l)
            path
            s
            (omega (arith, s.stops.lighter))
            (omega arith))),
      )

  pub path-fits : PathFits ps.header active path ps.list n.rooms lower
  unfolding plan_of_lists
  path-fits i l v w k m = omega (arith, (sofar.each i l).below v w k m, mass-room i l (dec_lt path.last (get_or ps.list i 0)))

  counted-fits : (i : ℕ) → i < active → get_or n.counts i 0 < 4294967296
  unfolding plan_of_lists
  counted-fits i l = omega (arith, (sofar.each i l).counts, count-le (plan_for ps i))

  pub counts-fit : CountsFit active path ps.list n
  counts-fit i l = (counted-fits i l, mass-room i l (dec_lt path.last (get_or ps.list i 0)))

  pub decided : joined path.low path.high < 2 ^ ps.header.events
  decided = omega (arith, t.sound.decided, pow_mono {i = path.depth} {j = ps.header.events} t.sound.deep)

  module _ (lower' : List ℕ) (added : PathAdded ps active path n.rooms lower lower') (n' : PlaceNumbers)
      (counted : PathCounted (shared_walk ps.header.events (get_or ps.list (active - 1) 0) ps.words) ps.list active path n n') where
    pub all-counted-on : AllCountedSoFar ps active path.at stack' n' lower'
    unfolding plan_of_lists
    all-counted-on =
        record {
          each =
              λ i l.
              let c = counted.each i l in
              counted-on (plan_for ps i) ps.header.events (get_or ps.list i 0) path _ _ _ _ lower (sofar.each i l) c.ends c.none
              (split i l c.ends c.are)
              lower'
              _
              c.left
              c.counted
              c.added
              (added.each i l);
        }

    pub kept_on : (n₀ : PlaceNumbers) (lower₀ : List ℕ) → Kept ps.header active n₀ lower₀ n lower → Kept ps.header active n₀ lower₀ n' lower'
    kept_on n₀ lower₀ kept =
        record {
          places =
              λ i l.
              let new = counted.past i l in
              let old = kept.places i l in
              (new.0 ∙ old.0, new.1 ∙ old.1, new.2 ∙ old.2);
          entries = λ j l. added.past j l ∙ kept.entries j l;
          sized = added.sized ∙ kept.sized;
          arrays = counted.sized;
        }

-- nothing is done yet
pub kept-begin : (h : Header) (active : ℕ) (n : PlaceNumbers) (lower : List ℕ) → Places n → Kept h active n lower n lower
kept-begin h active n lower sized = record { places = λ i l. (refl, refl, refl); entries = λ j l. refl; sized = refl; arrays = sized }

-- ---- one threshold after another

-- the first `active` thresholds are under way, the others of the first `count` have ended, and all else is untouched
pub record Walking (ps : Plans) (count : ℕ) (n₀ : PlaceNumbers) (lower₀ : List ℕ) (active at : ℕ) (stack : List ℕ) (n : PlaceNumbers) (lower : List ℕ) : Type 0 where
  pub within : active ≤ count
  pub stacked : SharedStack ps.header.events at stack
  pub sofar : AllCountedSoFar ps active at stack n lower
  pub ended : (i : ℕ) → active ≤ i → i < count → HoldsAnswers (plan_for ps i) (numbers_at n i) (pair_count ps.header.nodes * i) lower
  pub kept : Kept ps.header count n₀ lower₀ n lower

-- fewer of falling thresholds fall
pub fewer-fall : (count active : ℕ) (list : List ℕ) → FallingFirst count list → active ≤ count → FallingFirst active list
fewer-fall count active list f l =
    record {
      few = omega (arith, f.few);
      some = λ i k. f.some i (omega arith);
      most = λ i k. f.most i (omega arith);
      falling = λ i j k m. f.falling i j k (omega arith);
    }

module _ (ps : Plans) (count : ℕ) (n₀ : PlaceNumbers) (lower₀ : List ℕ) where
  -- at the root
  module _ (fresh : Fresh ps.header count n₀ lower₀) (f : FallingFirst count ps.list) (few : ps.header.nodes ≤ 64) (at : ℕ)
      (zeros stack : List ℕ) (place_is : at ≡ 635) (laid : stack ≡ sets zeros 635 (0 ∷ whole ∷ 0 ∷ 0 ∷ whole ∷ [])) (size : length zeros ≡ 640) where
    ends-are : (i : ℕ) → i < count → coming ps i at stack ≡ plan_ends (plan_for ps i)
    unfolding plan_of_lists
    ends-are i l = begun-ends at zeros stack place_is laid size ps.header.events (get_or ps.list i 0) ps.words (f.most i l)

    firsts : (i : ℕ) → i < count → take (get_or n₀.rooms i 0 - 1) (coming ps i at stack) ≡ first_ends (plan_for ps i)
    unfolding plan_of_lists
    firsts i l =
        let cap-ends : get_or n₀.rooms i 0 - 1 ≡ ps.header.cap = omega (arith, fresh.full i l) in
        ap (λ (m : ℕ). take m (coming ps i at stack)) cap-ends ∙ ap (take ps.header.cap) (ends-are i l)

    zero-at : (i : ℕ) → i < count → (v w : ℕ) → v < w → w < ps.header.nodes
        → get_or lower₀ (place ps.header.nodes v w + pair_count ps.header.nodes * i) 0 ≡ 0
    zero-at i l v w k m =
        fresh.zeros (place ps.header.nodes v w + pair_count ps.header.nodes * i)
        (omega (
          arith,
          place-lt ps.header.nodes v w few k m,
          mul-le-mul_left (pair_count ps.header.nodes) (let next : i + 1 ≤ count = omega arith in next),
        ))

    fresh-counted : (i : ℕ) → i < count
        → CountedSoFar (plan_for ps i) (coming ps i at stack) (numbers_at n₀ i) (pair_count ps.header.nodes * i) lower₀
    unfolding plan_of_lists
    fresh-counted i l =
        record {
          counts = omega (arith, fresh.none i, ap (sum_ends (λ s m. 1)) (firsts i l), count-sum (plan_for ps i));
          masses = omega (arith, fresh.empty i, ap (sum_ends (λ s m. m)) (firsts i l));
          entries =
              λ v w k m.
              omega (arith, zero-at i l v w k m, ap (sum_ends (λ s x. x * digit (cuts intact (plan_for ps i) v w s))) (firsts i l));
          below = λ v w k m. omega (arith, zero-at i l v w k m);
          ends =
              ap (λ (x : List End). digit (ltb (length x) (get_or n₀.rooms i 0))) (ends-are i l)
              ∙ ap digit (one_more (length (plan_ends (plan_for ps i))) ps.header.cap (get_or n₀.rooms i 0) (fresh.full i l));
        }

    pub walk_begins : Walking ps count n₀ lower₀ count at stack n₀ lower₀
    walk_begins =
        record {
          within = omega arith;
          stacked = begun-stack at zeros stack place_is laid size ps.header.events;
          sofar = record { each = fresh-counted };
          ended = λ i a b. absurd (omega arith);
          kept = kept-begin ps.header count n₀ lower₀ fresh.arrays;
        }

  -- the lowest that is under way ends
  module _ (few : ps.header.nodes ≤ 64) (active at : ℕ) (stack : List ℕ) (n : PlaceNumbers) (lower : List ℕ) (some : 1 ≤ active)
      (g : Walking ps count n₀ lower₀ active at stack n lower)
      (at' : ℕ) (stack' : List ℕ) (n' : PlaceNumbers) (lower' : List ℕ) (stacked : SharedStack ps.header.events at' stack')
      (sofar : AllCountedSoFar ps active at' stack' n' lower') (kept : Kept ps.header active n lower n' lower')
      (over : (get_or n'.rooms (active - 1) 0 ≡ 0) ⊎ (at' ≡ 640)) where
    abbrev last : ℕ
    last = active - 1

    abbrev Ended : ℕ → Type 0
    Ended i = HoldsAnswers (plan_for ps i) (numbers_at n' i) (pair_count ps.header.nodes * i) lower'

    last-ends : (get_or n'.rooms last 0 ≡ 0) ⊎ (at' ≡ 640) → Ended last
    last-ends (inl e) = used-up _ _ _ _ lower' (sofar.each last (omega arith)) e
    last-ends (inr e) =
        all-reached _ _ _ _ lower' (sofar.each last (omega arith))
        (ap (λ (a : ℕ). coming ps last a stack') e
        ∙ none-to-come ps.header.events (get_or ps.list last 0) ps.words stack' stacked.sized)

    -- what ended before stays as it is
    stays : (i : ℕ) → active ≤ i → i < count → Ended i
    unfolding plan_of_lists
    stays i a b =
        let old = g.ended i a b in
        let same = kept.places i a in
        record {
          counts = same.1 ∙ old.counts;
          masses = same.2 ∙ old.masses;
          entries =
              λ v w l k.
              kept.entries (place ps.header.nodes v w + pair_count ps.header.nodes * i)
              (omega (arith, mul-le-mul_left (pair_count ps.header.nodes) a))
              ∙ old.entries v w l k;
          ends = ap (λ (r : ℕ). digit (ltb 0 r)) same.0 ∙ old.ends;
        }

    ended-now : (i : ℕ) → active - 1 ≤ i → i < count → Dec (i ≡ last) → Ended i
    ended-now i a b (yes e) = subst (λ (x : ℕ). Ended x) (sym e) (last-ends over)
    ended-now i a b (no apart) = stays i (omega arith) b

    pub walk-turned : Walking ps count n₀ lower₀ (active - 1) at' stack' n' lower'
    walk-turned =
        record {
          within = omega (arith, g.within);
          stacked = stacked;
          sofar = record { each = λ i l. sofar.each i (omega arith) };
          ended = λ i a b. ended-now i a b (ℕ_discrete i last);
          kept =
              record {
                places =
                    λ i l.
                    let new = kept.places i (omega (arith, g.within)) in
                    let old = g.kept.places i l in
                    (new.0 ∙ old.0, new.1 ∙ old.1, new.2 ∙ old.2);
                entries =
                    λ j l.
                    kept.entries j (omega (arith, mul-le-mul_left (pair_count ps.header.nodes) g.within)) ∙ g.kept.entries j l;
                sized = kept.sized ∙ g.kept.sized;
                arrays = kept.arrays;
              };
        }

  -- none is under way
  pub walk-done : (at : ℕ) (stack : List ℕ) (n : PlaceNumbers) (lower : List ℕ) (active : ℕ) → active ≡ 0
      → Walking ps count n₀ lower₀ active at stack n lower → AllHoldAnswers ps count n₀ lower₀ n lower
  walk-done at stack n lower active e g = record { each = λ i l. g.ended i (omega arith) l; kept = g.kept }
