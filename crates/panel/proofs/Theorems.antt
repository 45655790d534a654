-- What a walk in steps gives: document 02, request U4. The statements are over the definitions that the contracts cite.
-- Assumes nothing.
use mathlib.Core.Path.{◌≡◌, refl, sym, ap, subst, ◌∙◌}
use mathlib.Core.Bool.{true, not}
use mathlib.Core.Logic.{◌⊎◌, inl, inr}
use mathlib.Core.List.{List, [], ◌∷◌}
use Prim.Native.Nat.{ℕ, ◌+◌, ◌-◌, ◌≤◌, ◌<◌, min}
use native.Mathlib.Decide.{dec_le}
use native.Mathlib.Omega.{arith}
use borrow.Author.Tests.{le-leb, lt-leb, le-ltb, ltb-false}
use lib.Dec.{ltb}
use lib.ListN.{length, drop, take, length-take, length-drop}
use Rattle.mass.specs.Split.{whole}
use Rattle.mass.proofs.RefusalLaws.{refuse-none}
use Rattle.sets.specs.Sets.{digit}
use Rattle.refusals.proofs.TestLaws.{or-none}
use Rattle.plan.specs.Plan.{Plan}
use Rattle.plan.specs.LentLists.{plan_refusal, plan_of_lists}
use Rattle.plan_layout.proofs.LayoutFile.{valid-none, valid-pass}
use Rattle.network.specs.Outage.{intact}
use Rattle.walk.specs.Ends.{End, dropped, relevant, sum_ends, scenarios, weighed}
use Rattle.walk.specs.Walk.{plan_ends, first_ends, count, complete}
use Rattle.walk.proofs.EndsLaws.{count-sum}
use Rattle.walk.proofs.Resume.{ends_some}
use Rattle.bounds.specs.Bounds.{cuts, Encloses}
use Rattle.bounds.specs.Calls.{totals_of, bounds_of}
use Rattle.bounds.specs.declared.PairBounds.{PairBounds}
use Rattle.bounds.specs.declared.Totals.{Totals}
use Rattle.bounds.proofs.Answers.{enclosed}
use Rattle.walk_state.specs.Sound.{sound}
use Rattle.panel.specs.Walks.{capped, walk_plan, ends_left, WalkAt}
use Rattle.panel.specs.Calls.{full_quota, quota_test, ends_wanted, GoneOn, WentOn, look_of, look_pair_of}
use Rattle.panel.specs.Sessions.{On, own, other, Call, made_on, walk_after, own_ends, CallsAnswered, last_walk, last_quota, ends_of_walk, ends_of_all}
use Rattle.walk_state.specs.declared.Walk.{Walk}
use Rattle.panel.specs.declared.Quota.{Quota}
use Rattle.walk_state.proofs.SoundLaws.{SoundWalk, sound-pass}
use Rattle.walk_state.proofs.StateLaws.{entries-pass, below-pass}
use Rattle.panel.proofs.GoingOn.{take-there}
use Rattle.panel.proofs.Wanted.{wanted-sound, not-empty, number-none, number-some}
use Rattle.panel.proofs.Shown.{looked, pair-looked}

-- ---- every state that an accepted begin and go-ons lead to passes the test of a state

-- no more scenarios are examined than ends reached
examined-few : (list : List End) → sum_ends (λ s m. 1) list ≤ length list
examined-few [] = omega arith
examined-few (dropped ∷ list) = omega (arith, examined-few list)
examined-few (relevant s m ∷ list) = omega (arith, examined-few list)

own-sound : (w : Walk) (n : ℕ) → WalkAt intact (walk_plan w) n w → SoundWalk w
unfolding plan_of_lists
own-sound w n at =
    let p = walk_plan w in
    let few : count (capped p n) ≤ n = omega (arith, count-sum (capped p n), examined-few (take n (plan_ends p)), length-take n (plan_ends p)) in
    record {
      valid = at.valid;
      few = omega (arith, at.counts, at.reached, few);
      under-cap = omega (arith, at.reached, at.under-cap);
      fours = at.stacked.fours;
      within = at.stacked.within;
      light = omega (arith, at.pending);
      entries = entries-pass w.header.events (whole - w.mass) (drop w.at w.stack) at.stacked.entries (omega (arith, at.pending));
      below = below-pass w.mass w.sums (λ i. omega (arith, at.sums.below i, at.masses));
    }

pub walk-sound : (p : Plan) (n : ℕ) (w : Walk) → WalkAt intact p n w → sound w ≡ true
walk-sound p n w at =
    subst (λ (q : Plan). WalkAt intact q n w → sound w ≡ true) at.plan (λ (here : WalkAt intact (walk_plan w) n w). sound-pass w (own-sound w n here)) at

-- ---- how many ends a go-on reaches

-- the ends that a walk of a plan has left under the cap, after n of them
own-left : (w : Walk) (n : ℕ) → WalkAt intact (walk_plan w) n w → ends_left w ≡ length (first_ends (walk_plan w)) - n
unfolding plan_of_lists
own-left w n at =
    omega (
      arith,
      at.reached,
      at.under-cap,
      at.within,
      ap length at.ends,
      length-drop n (plan_ends (walk_plan w)),
      length-take w.header.cap (plan_ends (walk_plan w)),
    )

pub walk-left : (p : Plan) (n : ℕ) (w : Walk) → WalkAt intact p n w → ends_left w ≡ length (first_ends p) - n
walk-left p n w at =
    subst (λ (q : Plan). WalkAt intact q n w → ends_left w ≡ length (first_ends q) - n) at.plan (λ (here : WalkAt intact (walk_plan w) n w). own-left w n here) at

-- "exactly the smallest of k, the ends the walk still has under the plan's cap, and what the quota still holds"
pub reaches : (p : Plan) (n : ℕ) (w : Walk) (quota : Quota) (k : ℕ) (r : GoneOn) → WalkAt intact p n w → WentOn w quota k r
    → r.reached ≡ min (min k (length (first_ends p) - n)) quota.left
reaches p n w quota k r at went =
    went.reached ∙ ap (λ (x : ℕ). min x quota.left) (wanted-sound w k (walk-sound p n w at) ∙ ap (min k) (walk-left p n w at))

-- "A call on an ended walk, or with k = 0, changes nothing", also where the quota is empty
pub nothing-to-reach : (p : Plan) (n : ℕ) (w : Walk) (quota : Quota) (k : ℕ) (r : GoneOn) → WalkAt intact p n w → WentOn w quota k r
    → (k ≡ 0) ⊎ (length (first_ends p) ≤ n) → (r.number ≡ 0) × (r.reached ≡ 0) × (r.walk ≡ w) × (r.quota.left ≡ quota.left)
nothing-to-reach p n w quota k r at went why =
    let none : ends_wanted w k ≡ 0 = wanted-sound w k (walk-sound p n w at) ∙ ap (min k) (walk-left p n w at) ∙ smaller why in
    let still : r.reached ≡ 0 = omega (arith, went.reached, none) in
    (went.number ∙ number-none w quota k none, still, went.unmoved still, omega (arith, went.drawn))
  where
    smaller : (k ≡ 0) ⊎ (length (first_ends p) ≤ n) → min k (length (first_ends p) - n) ≡ 0
    smaller (inl e) = omega arith
    smaller (inr e) = omega arith

-- "after those two cases, 19 where the quota is empty, the walk and bounds left unchanged"
pub quota-empty : (p : Plan) (n : ℕ) (w : Walk) (quota : Quota) (k : ℕ) (r : GoneOn) → WalkAt intact p n w → WentOn w quota k r
    → 0 < k → n < length (first_ends p) → quota.left ≡ 0 → (r.number ≡ 19) × (r.reached ≡ 0) × (r.walk ≡ w) × (r.quota.left ≡ 0)
quota-empty p n w quota k r at went some more empty =
    let wanted : ends_wanted w k ≡ min k (length (first_ends p) - n) =
    wanted-sound w k (walk-sound p n w at) ∙ ap (min k) (walk-left p n w at) in
    let still : r.reached ≡ 0 = omega (arith, went.reached, empty) in (
      went.number ∙ number-some w quota k (omega (arith, wanted)) ∙ ap quota_test empty,
      still,
      went.unmoved still,
      omega (arith, went.drawn),
    )

-- ---- the cap of an accepted plan, and any cap up to it

cap-range : (p : Plan) → plan_refusal p ≡ 0 → (1 ≤ p.cap) × (p.cap ≤ 1000000)
cap-range p e =
    let t = or-none (ltb p.cap 1) (ltb 1000000 p.cap) (refuse-none _ 5 (valid-none p e).cap) in
    (ltb-false p.cap 1 t.0, ltb-false 1000000 p.cap t.1)

capped-valid : (p : Plan) (n : ℕ) → plan_refusal p ≡ 0 → 1 ≤ n → n ≤ p.cap → plan_refusal (capped p n) ≡ 0
capped-valid p n e some under =
    let v = valid-none p e in
    let most : n ≤ 1000000 = omega (arith, (cap-range p e).1) in
    valid-pass (capped p n)
    (record {
      counts = v.counts;
      threshold = v.threshold;
      cap = rw (le-ltb n 1 some, le-ltb 1000000 n most);
      links = v.links;
      events = v.events;
    })

-- ---- lists of go-on calls

module _ (p : Plan) where
  one-call : (on : On) (n : ℕ) (w : Walk) (quota : Quota) (k : ℕ) (answer : GoneOn) → WalkAt intact p n w → WentOn (made_on on w) quota k answer
      → WalkAt intact p (n + own_ends on answer) (walk_after on answer w)
  one-call own n w quota k answer at went = went.moved p n at
  one-call (other v) n w quota k answer at went = let same : n ≡ n + 0 = omega arith in subst (λ (x : ℕ). WalkAt intact p x w) same at

  -- the walk after a list of calls is the one at the sum of the ends that they reached of it, and the quota is less by all ends that they reached
  pub after-calls : (n : ℕ) (w : Walk) (quota : Quota) (calls : List Call) → WalkAt intact p n w → CallsAnswered w quota calls
      → WalkAt intact p (n + ends_of_walk calls) (last_walk w calls) × ((last_quota quota calls).left + ends_of_all calls ≡ quota.left)
  after-calls n w quota [] at answered =
      let same : n ≡ n + 0 = omega arith in (subst (λ (x : ℕ). WalkAt intact p x w) same at, omega arith)
  after-calls n w quota (c ∷ calls) at answered =
      let next = one-call c.on n w quota c.ends c.answer at answered.0 in
      let rest = after-calls (n + own_ends c.on c.answer) (walk_after c.on c.answer w) c.answer.quota calls next answered.1 in
      let same : n + own_ends c.on c.answer + ends_of_walk calls ≡ n + (own_ends c.on c.answer + ends_of_walk calls) = omega arith in (
        subst (λ (x : ℕ). WalkAt intact p x (last_walk (walk_after c.on c.answer w) calls)) same rest.0,
        omega (arith, rest.1, answered.0.drawn),
      )

  -- "After every list of go-on calls on a walk, the bounds, count, complete flag and E equal those of a run whose cap is the number of ends
  -- reached so far", and the quota is 10,000,000 less all ends that all of them reached since power-up
  pub since-power-up : (w : Walk) (calls : List Call) → WalkAt intact p 0 w → CallsAnswered w full_quota calls
      → (look_of (last_walk w calls) ≡ totals_of (capped p (ends_of_walk calls)))
      × ((v x : ℕ) → v < x → x < p.nodes → look_pair_of (last_walk w calls) v x ≡ bounds_of intact (capped p (ends_of_walk calls)) v x)
      × ((last_quota full_quota calls).left + ends_of_all calls ≡ 10000000)
  since-power-up w calls at answered =
      let all = after-calls 0 w full_quota calls at answered in
      let same : 0 + ends_of_walk calls ≡ ends_of_walk calls = omega arith in
      let here = subst (λ (x : ℕ). WalkAt intact p x (last_walk w calls)) same all.0 in (
        looked p (ends_of_walk calls) (last_walk w calls) here,
        pair-looked p (ends_of_walk calls) (last_walk w calls) here,
        all.1,
      )

  -- "at 0 ends all are 0 but the upper bounds, which are 10^18"
  pub none_yet : (v x : ℕ)
      → (totals_of (capped p 0) ≡ record { count = 0; complete = 0; mass = 0 }) × (bounds_of intact (capped p 0) v x ≡ record { lower = 0; upper = whole })
  none_yet v x =
      let some = ends_some p.threshold whole p.events in
      (λ i. record { count = 0; complete = digit (lt-leb (length (plan_ends p)) 0 some i); mass = 0 }, refl)

  -- ---- the run is a begin and one go-on

  -- a cap that takes the same ends
  module _ (m : ℕ) (is : m ≡ length (first_ends p)) where
    same_ends : take m (plan_ends p) ≡ first_ends p
    same_ends = ap (λ (x : ℕ). take x (plan_ends p)) is ∙ take-there p.cap (plan_ends p)

    same-complete : complete (capped p m) ≡ complete p
    same-complete = step (dec_le (length (plan_ends p)) p.cap)
      where
        long : length (first_ends p) ≡ min p.cap (length (plan_ends p))
        long = length-take p.cap (plan_ends p)

        step : Dec (length (plan_ends p) ≤ p.cap) → complete (capped p m) ≡ complete p
        step (yes h) =
            ap digit (le-leb (length (plan_ends p)) m (omega (arith, is, long)) ∙ sym (le-leb (length (plan_ends p)) p.cap h))
        step (no h) =
            ap digit (lt-leb (length (plan_ends p)) m (omega (arith, is, long)) ∙ sym (lt-leb (length (plan_ends p)) p.cap (omega arith)))

    same-totals : totals_of (capped p m) ≡ totals_of p
    same-totals =
        λ i. record { count = length (scenarios (same_ends i)); complete = same-complete i; mass = sum_ends (λ s x. x) (same_ends i) }

    same-bounds : (v x : ℕ) → bounds_of intact (capped p m) v x ≡ bounds_of intact p v x
    same-bounds v x =
        λ i.
        record {
          lower = weighed (λ s. digit (cuts intact p v x s)) (same_ends i);
          upper = whole - weighed (λ s. digit (not (cuts intact p v x s))) (same_ends i);
        }

  -- law: after a begin and one go-on with k = cap and enough quota, looks show what the run gives
  pub run-in-steps : (w : Walk) (quota : Quota) (r : GoneOn) → WalkAt intact p 0 w → p.cap ≤ quota.left → WentOn w quota p.cap r
      → (r.number ≡ 0) × (look_of r.walk ≡ totals_of p)
      × ((v x : ℕ) → v < x → x < p.nodes → look_pair_of r.walk v x ≡ bounds_of intact p v x)
  run-in-steps w quota r at enough went =
      let all : r.reached ≡ length (first_ends p) =
      omega (arith, reaches p 0 w quota p.cap r at went, length-take p.cap (plan_ends p)) in
      let same : 0 + r.reached ≡ r.reached = omega arith in
      let here = subst (λ (x : ℕ). WalkAt intact p x r.walk) same (went.moved p 0 at) in (
        went.number ∙ not-empty w quota p.cap (omega (arith, (cap-range p at.valid).0)),
        looked p r.reached r.walk here ∙ same-totals r.reached all,
        λ v x l k. pair-looked p r.reached r.walk here v x l k ∙ same-bounds r.reached all v x,
      )

  -- DEMAND 3 after any number of ends: the exact sum lies between the two bounds that a look shows, for the plan with that cap
  pub look-encloses : (n : ℕ) (w : Walk) → WalkAt intact p n w → 1 ≤ n → (v x : ℕ) → v < x → x < p.nodes
      → Encloses intact (capped p n) v x (look_pair_of w v x).lower (look_pair_of w v x).upper (look_of w).count
  look-encloses n w at some v x l k =
      let pair = pair-looked p n w at v x l k in
      let shown : Encloses intact (capped p n) v x (bounds_of intact (capped p n) v x).lower (bounds_of intact (capped p n) v x).upper (totals_of (capped p n)).count =
      enclosed intact (capped p n) (capped-valid p n at.valid some at.under-cap) v x in
      subst (λ (b : PairBounds). Encloses intact (capped p n) v x b.lower b.upper (look_of w).count) (sym pair)
      (subst (λ (t : Totals). Encloses intact (capped p n) v x (bounds_of intact (capped p n) v x).lower (bounds_of intact (capped p n) v x).upper t.count)
      (sym (looked p n w at)) shown)
