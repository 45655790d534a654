-- Several thresholds in one walk: document 02, request U8. What the test of the list asks, where each place and each block stands, and "Each
-- block, and its count, complete flag and E, equal those of a run on the same plan with that threshold and the plan's cap".
-- Assumes nothing.
use mathlib.Core.Path.{◌≡◌, refl, sym, ◌∙◌}
use mathlib.Core.List.{List, [], ◌∷◌, ◌++◌, append-nil}
use mathlib.Core.Logic.{◌↔◌}
use Prim.Native.Nat.{ℕ, zero, suc, ◌+◌, ◌*◌, ◌<◌, ◌≤◌}
use native.Mathlib.Nat.{mul-le-mul_left, mul-zero, mul-one, zero-add}
use native.Mathlib.Omega.{arith}
use borrow.Author.Tests.{le-ltb, lt-ltb, le-leb}
use lib.ListN.{length, get_or, take, drop, length-drop}
use lib.Seq.{sets, sets-eq, drop-length, drop-drop, drop_at, take_at, take-append-le, drop-append-le}
use Rattle.mass.specs.Refusal.{first}
use Rattle.mass.specs.Split.{whole}
use Rattle.mass.proofs.RefusalLaws.{first-none, first-skip}
use Rattle.refusals.proofs.TestLaws.{room-none, room-pass}
use Rattle.plan.specs.LentLists.{Lent, plan_of_lists, plan_lent, lists_number}
use Rattle.plan.specs.Calls.{filled}
use Rattle.network.specs.Outage.{intact}
use Rattle.walk.specs.Walk.{count, complete, mass_examined}
use Rattle.pairs.specs.Pairs.{pair_count}
use Rattle.pairs.proofs.PairLaws.{table-long}
use Rattle.bounds.specs.Bounds.{lower_of, upper_of, lower_list, upper_list}
use Rattle.bounds.specs.Calls.{run_number, totals_of}
use Rattle.thresholds.specs.Thresholds.{lent_at, plan_at, thresholds_test, thresholds_number, blocks, places, thresholds_answer}
use Rattle.thresholds.specs.declared.CommonHeader.{CommonHeader}
use Rattle.thresholds.specs.declared.Answered.{Answered}
use Rattle.thresholds.proofs.TestLaws.{test-none, test-passes, in-range, in_order, falls-from}
use Rattle.thresholds.proofs.BlockLaws.{length-blocks, places-at, place-past, length-places}

-- ---- the test

-- 1 to 16 thresholds, each 1 to 10^18, each below the one before
pub record Passes (list : List ℕ) : Type 0 where
  pub some : 1 ≤ length list
  pub few : length list ≤ 16
  pub within : (i : ℕ) → i < length list → (1 ≤ get_or list i 0) × (get_or list i 0 ≤ whole)
  pub falling : (i : ℕ) → i + 1 < length list → get_or list (i + 1) 0 < get_or list i 0

-- law: no other list passes the test
pub passes-exactly : (list : List ℕ) → (thresholds_test list ≡ 0) ↔ Passes list
passes-exactly list = (from, λ p. sym (test-passes list p.some p.few (falls-from (suc whole) list (within p) p.falling)))
  where
    from : thresholds_test list ≡ 0 → Passes list
    from e =
        let t = test-none list e in
        record {
          some = t.0;
          few = t.1;
          within = λ i h. let r = in-range (suc whole) list t.2 i h in (r.0, omega (arith, r.1));
          falling = λ i h. in_order (suc whole) list t.2 i (i + 1) (omega arith) h;
        }

    within : Passes list → (i : ℕ) → i < length list → (1 ≤ get_or list i 0) × (get_or list i 0 < suc whole)
    within p i h = let r = p.within i h in (r.0, omega (arith, r.1))

-- ---- places and blocks

-- law: place i holds what threshold i gives, and the places past the last threshold hold 0
pub places-hold : (f : ℕ → ℕ) (list : List ℕ) → length list ≤ 16
    → (length (places f list) ≡ 16) × ((i : ℕ) → i < length list → get_or (places f list) i 0 ≡ f (get_or list i 0))
    × ((i : ℕ) → length list ≤ i → get_or (places f list) i 0 ≡ 0)
places-hold f list few = (length-places f list few, places-at f list, place-past f list)

module _ (f : ℕ → List ℕ) (size : ℕ) (each : (t : ℕ) → length (f t) ≡ size) where
  -- law: block i is what threshold i gives
  pub block-is : (list : List ℕ) (i : ℕ) → i < length list → take size (drop (size * i) (blocks f list)) ≡ f (get_or list i 0)
  block-is [] i h = absurd (omega arith)
  block-is (t ∷ later) zero h = rw mul-zero (take_at (f t) (blocks f later) size (each t))
  block-is (t ∷ later) (suc i) h =
      let next : size * suc i ≡ size + size * i = omega arith in
      rw (next, ← drop-drop (size * i) size (f t ++ blocks f later), drop_at (f t) (blocks f later) size (each t))
      (block-is later i (omega arith))

  -- law: and so it is in a list that the blocks are laid down in
  pub block-laid : (list lower : List ℕ) → size * length list ≤ length lower → (i : ℕ) → i < length list
      → take size (drop (size * i) (sets lower 0 (blocks f list))) ≡ f (get_or list i 0)
  block-laid list lower room i h =
      let long : length (blocks f list) ≡ size * length list = length-blocks f size each list in
      let last : size * i + size ≤ size * length list = omega (arith, mul-le-mul_left size h) in
      rw (
        sets-eq (blocks f list) lower 0 (omega arith),
        drop-append-le (size * i) (blocks f list) (drop (0 + length (blocks f list)) lower) (omega arith),
        take-append-le size (drop (size * i) (blocks f list)) (drop (0 + length (blocks f list)) lower) (rw length-drop (omega arith)),
      )
      (block-is list i h)

-- values that fill a list are the list then
all_laid : (values list : List ℕ) → length list ≡ length values → sets list 0 values ≡ values
all_laid values list e =
    sets-eq values list 0 (omega arith) ∙ rw (zero-add, ← e, drop-length list) (append-nil values)

-- ---- a run with one of the thresholds

-- no test is left
none : first [] ≡ 0
unfolding first
none = refl

-- the lists are refused alike with every threshold from 1 to 10^18
lists-alike : (h : CommonHeader) (links events : List ℕ) (t : ℕ) → 1 ≤ t → t ≤ whole
    → lists_number (lent_at h links events t) ≡ lists_number (lent_at h links events 1)
unfolding lists_number
lists-alike h links events t some most = rw (le-ltb t 1 some, le-ltb whole t most)

-- a test that passes is passed over
passed_over : (number : ℕ) (later : List ℕ) → first (number ∷ 0 ∷ later) ≡ first (number ∷ later)
unfolding first
passed_over zero later = refl
passed_over (suc number) later = refl

-- law: with one threshold from 1 to 10^18 the call is refused as the run is
pub one-refused-as-run : (h : CommonHeader) (links events lower upper : List ℕ) (t : ℕ) → 1 ≤ t → t ≤ whole
    → thresholds_number (lent_at h links events 1) (t ∷ []) (length lower) (length upper) ≡ run_number (lent_at h links events t) (length lower) (length upper)
unfolding thresholds_number run_number
one-refused-as-run h links events lower upper t some most =
    let test : thresholds_test (t ∷ []) ≡ 0 = rw (le-leb 1 t some, lt-ltb t (suc whole) (omega arith)) in
    rw (test, mul-one, ← lists-alike h links events t some most) (passed_over (lists_number (lent_at h links events t)) _)

-- the call is accepted; threshold i; and two lists of a run that have an entry for each pair
module _ (h : CommonHeader) (links events list lower upper : List ℕ) (accepted : thresholds_number (lent_at h links events 1) list (length lower) (length upper) ≡ 0)
    (i : ℕ) (l : i < length list) (low high : List ℕ) (low-sized : length low ≡ pair_count h.nodes) (high-sized : length high ≡ pair_count h.nodes) where
  abbrev lent : Lent
  lent = lent_at h links events (get_or list i 0)

  abbrev answer : Answered
  answer = thresholds_answer (thresholds_number (lent_at h links events 1) list (length lower) (length upper)) (plan_at h links events) list

  tests : (lists_number (lent_at h links events 1) ≡ 0) × (thresholds_test list ≡ 0)
      × ((pair_count h.nodes * length list ≤ length lower) × (pair_count h.nodes * length list ≤ length upper))
  unfolding thresholds_number
  tests =
      let a = first-none _ _ accepted in
      let b = first-none _ _ a.1 in
      let c = first-none _ _ b.1 in
      (a.0, b.0, (room-none _ _ c.0, room-none _ _ (first-none _ _ c.1).0))

  -- law: the run is accepted
  pub run-accepted : run_number lent (length low) (length high) ≡ 0
  unfolding run_number
  run-accepted =
      let r = ((passes-exactly list).0 tests.1).within i l in
      first-skip _ _ (lists-alike h links events (get_or list i 0) r.0 r.1 ∙ tests.0)
      ∙ first-skip _ _ (room-pass (length low) (pair_count h.nodes) (omega arith))
      ∙ first-skip _ _ (room-pass (length high) (pair_count h.nodes) (omega arith))
      ∙ none

  -- law: block i of each list is what the run leaves in its list
  pub lower-as-run : take (pair_count h.nodes) (drop (pair_count h.nodes * i)
      (filled (thresholds_number (lent_at h links events 1) list (length lower) (length upper)) (blocks (λ t. lower_list intact (plan_at h links events t)) list) lower))
      ≡ filled (run_number lent (length low) (length high)) (lower_list intact (plan_lent lent)) low
  unfolding plan_of_lists
  lower-as-run =
      let long : (t : ℕ) → length (lower_list intact (plan_at h links events t)) ≡ pair_count h.nodes = λ t. table-long (lower_of intact (plan_at h links events t)) h.nodes in
      rw (accepted, run-accepted)
      (block-laid (λ t. lower_list intact (plan_at h links events t)) (pair_count h.nodes) long list lower tests.2.0 i l
      ∙ sym (all_laid (lower_list intact (plan_at h links events (get_or list i 0))) low (low-sized ∙ sym (long (get_or list i 0)))))

  pub upper-as-run : take (pair_count h.nodes) (drop (pair_count h.nodes * i)
      (filled (thresholds_number (lent_at h links events 1) list (length lower) (length upper)) (blocks (λ t. upper_list intact (plan_at h links events t)) list) upper))
      ≡ filled (run_number lent (length low) (length high)) (upper_list intact (plan_lent lent)) high
  unfolding plan_of_lists
  upper-as-run =
      let long : (t : ℕ) → length (upper_list intact (plan_at h links events t)) ≡ pair_count h.nodes = λ t. table-long (upper_of intact (plan_at h links events t)) h.nodes in
      rw (accepted, run-accepted)
      (block-laid (λ t. upper_list intact (plan_at h links events t)) (pair_count h.nodes) long list upper tests.2.1 i l
      ∙ sym (all_laid (upper_list intact (plan_at h links events (get_or list i 0))) high (high-sized ∙ sym (long (get_or list i 0)))))

  -- law: its answer is what stands at place i
  pub answer-as-run : (run_number lent (length low) (length high) ≡ 0)
      × (totals_of (plan_lent lent) ≡ record { count = get_or answer.count i 0; complete = get_or answer.complete i 0; mass = get_or answer.mass i 0 })
  answer-as-run = (
    run-accepted,
    rw accepted
        (λ k. record {
          count = sym (places-at (λ t. count (plan_at h links events t)) list i l) k;
          complete = sym (places-at (λ t. complete (plan_at h links events t)) list i l) k;
          mass = sym (places-at (λ t. mass_examined (plan_at h links events t)) list i l) k;
        }),
  )
