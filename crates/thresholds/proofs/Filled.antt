-- What the walk of an accepted plan gave: the answers at the places, the blocks of lower bounds, and those of upper bounds raised from them.
-- Assumes nothing.
use mathlib.Core.Path.{◌≡◌, sym, ap, subst, ◌∙◌}
use mathlib.Core.List.{List, map}
use Prim.Native.Nat.{ℕ, ◌+◌, ◌*◌, ◌<◌, ◌≤◌}
use native.Mathlib.Nat.{add_comm}
use native.Mathlib.Omega.{arith}
use borrow.Author.Tests.{le-ltb}
use lib.Dec.{ltb}
use lib.ListN.{length, get_or, length-map, get_or-map}
use lib.Seq.{sets, get_or-drop}
use Rattle.mass.specs.Split.{whole}
use Rattle.mass.proofs.RefusalLaws.{first-none, first-skip}
use Rattle.sets.specs.Sets.{digit}
use Rattle.refusals.specs.Tests.{threshold_test}
use Rattle.plan.specs.Plan.{Plan}
use Rattle.plan.specs.LentLists.{plan_refusal, plan_of_lists}
use Rattle.plan.specs.declared.Header.{Header}
use Rattle.network.specs.Outage.{intact}
use Rattle.walk.specs.Walk.{count, complete, mass_examined}
use Rattle.walk.proofs.Valid.{plan-probable}
use Rattle.sums.proofs.BoundsLaws.{lower-upper, upper-le}
use Rattle.pairs.specs.Pairs.{place, pair_count}
use Rattle.pairs.proofs.PairLaws.{pairs-most, place-lt, unplace}
use Rattle.bounds.specs.Bounds.{cuts, lower_of, upper_of, lower_list, upper_list}
use Rattle.bounds.proofs.Answers.{mass-most, raised, enclosed}
use Rattle.thresholds_sums.specs.Walked.{plan_with, plans_of}
use Rattle.thresholds_sums.specs.declared.PlaceNumbers.{PlaceNumbers}
use Rattle.thresholds.specs.Thresholds.{thresholds_test, blocks, places, answer_of, EnclosesBlocks}
use Rattle.thresholds.specs.Steps.{BlocksWalked, Raising, Raised}
use Rattle.thresholds.specs.declared.Answered.{Answered}
use Rattle.thresholds.proofs.TestLaws.{test-none, in-range}
use Rattle.thresholds.proofs.BlockLaws.{blocks-laid, places-are}

-- a plan that no test refuses has none refused with another threshold from 1 to 10^18
pub valid-at : (h : Header) (links words : List ℕ) → plan_refusal (plan_of_lists h links words) ≡ 0 → (t : ℕ) → 1 ≤ t → t ≤ whole
    → plan_refusal (plan_with h links words t) ≡ 0
unfolding plan_refusal plan_of_lists
valid-at h links words e t some most =
    let a = first-none _ _ e in
    let b = first-none _ _ a.1 in
    let within : threshold_test t ≡ 0 = rw (le-ltb t 1 some, le-ltb whole t most) in
    first-skip _ _ a.0 ∙ first-skip _ _ within ∙ b.1

-- ---- what the walk of an accepted plan gave

module _ (h : Header) (links words list : List ℕ) (valid : plan_refusal (plan_of_lists h links words) ≡ 0) (few : h.nodes ≤ 64)
    (tested : thresholds_test list ≡ 0) (n : PlaceNumbers) (lower lower' : List ℕ) (b : BlocksWalked (plans_of h links words list) n lower lower') where
  abbrev plan : ℕ → Plan
  plan = plan_with h links words

  abbrev at : ℕ → Plan
  at i = plan (get_or list i 0)

  valid-each : (i : ℕ) → i < length list → plan_refusal (at i) ≡ 0
  valid-each i l =
      let r = in-range _ list (test-none list tested).2 i l in
      valid-at h links words valid (get_or list i 0) r.0 (omega (arith, r.1))

  lower-each : (i : ℕ) → i < length list → (v w : ℕ) → v < w → w < h.nodes
      → get_or lower' (place h.nodes v w + pair_count h.nodes * i) 0 ≡ lower_of intact (at i) v w
  unfolding plan_of_lists
  lower-each i l = (b.each i l).entries

  -- no entry of a block is above one whole
  below : (i j : ℕ) → i < length list → j < pair_count h.nodes → get_or lower' (j + pair_count h.nodes * i) 0 ≤ whole
  below i j l k =
      let u = unplace h.nodes h.nodes j (omega arith) k in
      let q = plan-probable (at i) (valid-each i l) in
      let c = cuts intact (at i) u.0 u.1 in
      subst (λ (x : ℕ). get_or lower' (x + pair_count h.nodes * i) 0 ≤ whole) (sym u.4)
      (omega (arith, lower-each i l u.0 u.1 u.2 u.3, lower-upper (at i) q c, upper-le (at i) q c))

  pub may-raise : (upper : List ℕ) → pair_count h.nodes * length list ≤ length lower → pair_count h.nodes * length list ≤ length upper
      → Raising (pair_count h.nodes) (length list) n.masses lower' upper
  may-raise upper l u =
      record {
        few = (test-none list tested).1;
        small = pairs-most h.nodes few;
        lower-room = omega (arith, b.sized);
        upper-room = u;
        light = λ i k. omega (arith, (b.each i k).masses, mass-most (at i) (valid-each i k));
        below = below;
      }

  pub lowers-laid : pair_count h.nodes * length list ≤ length lower → lower' ≡ sets lower 0 (blocks (λ t. lower_list intact (plan t)) list)
  unfolding plan_of_lists
  lowers-laid l = blocks-laid (λ t. lower_of intact (plan t)) h.nodes list lower lower' b.sized l lower-each b.past

  -- the places
  few-places : length list ≤ 16
  few-places = (test-none list tested).1

  counts-are : n.counts ≡ places (λ t. count (plan t)) list
  counts-are = places-are (λ t. count (plan t)) list n.counts b.arrays.counts-size few-places (λ i l. (b.each i l).counts) (λ i l. (b.none i l).1)

  masses-are : n.masses ≡ places (λ t. mass_examined (plan t)) list
  masses-are = places-are (λ t. mass_examined (plan t)) list n.masses b.arrays.masses-size few-places (λ i l. (b.each i l).masses) (λ i l. (b.none i l).2)

  abbrev flags : List ℕ
  flags = map (λ room. digit (ltb 0 room)) n.rooms

  flag_at : (i : ℕ) → get_or flags i 0 ≡ digit (ltb 0 (get_or n.rooms i 0))
  flag_at i = get_or-map (λ room. digit (ltb 0 room)) n.rooms i 0

  flags-are : flags ≡ places (λ t. complete (plan t)) list
  flags-are =
      places-are (λ t. complete (plan t)) list flags (length-map n.rooms (λ room. digit (ltb 0 room)) ∙ b.arrays.rooms-size) few-places
      (λ i l. flag_at i ∙ (b.each i l).ends)
      (λ i l. flag_at i ∙ ap (λ (x : ℕ). digit (ltb 0 x)) (b.none i l).0)

  pub answers : (complete' : List ℕ) → complete' ≡ flags
      → ◌≡◌ {A = Answered} (record { count = n.counts; complete = complete'; mass = n.masses }) (answer_of plan list)
  answers complete' e = λ i. record { count = counts-are i; complete = (e ∙ flags-are) i; mass = masses-are i }

  -- the blocks of upper bounds
  module _ (upper upper' : List ℕ) (room : pair_count h.nodes * length list ≤ length upper)
      (r : Raised (pair_count h.nodes) (length list) n.masses lower' upper upper') where
    upper-each : (i : ℕ) → i < length list → (v w : ℕ) → v < w → w < h.nodes
        → get_or upper' (place h.nodes v w + pair_count h.nodes * i) 0 ≡ upper_of intact (at i) v w
    upper-each i l v w m k =
        omega (
          arith,
          r.each i (place h.nodes v w) l (place-lt h.nodes v w few m k),
          lower-each i l v w m k,
          (b.each i l).masses,
          raised intact (at i) (valid-each i l) v w,
        )

    pub uppers-laid : upper' ≡ sets upper 0 (blocks (λ t. upper_list intact (plan t)) list)
    unfolding plan_of_lists
    uppers-laid = blocks-laid (λ t. upper_of intact (plan t)) h.nodes list upper upper' r.sized room upper-each r.past

    -- DEMAND 3 for the numbers in the blocks
    pub blocks-enclosed : EnclosesBlocks plan list lower' upper' n.counts
    unfolding plan_of_lists
    blocks-enclosed i l v w m k =
        rw (
          get_or-drop (pair_count h.nodes * i) lower' (place h.nodes v w) 0,
          get_or-drop (pair_count h.nodes * i) upper' (place h.nodes v w) 0,
          add_comm (pair_count h.nodes * i) (place h.nodes v w),
          lower-each i l v w m k,
          upper-each i l v w m k,
          (b.each i l).counts,
        )
        (enclosed intact (at i) (valid-each i l) v w)
