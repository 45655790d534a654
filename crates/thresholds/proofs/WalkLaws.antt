-- What the walk for several thresholds asks, from a list that passes its test, and what it gives for that list.
-- Assumes nothing.
use mathlib.Core.Path.{◌≡◌, sym, ap, subst, ◌∙◌}
use mathlib.Core.List.{List, map}
use Prim.Native.Nat.{ℕ, ◌+◌, ◌*◌, ◌<◌, ◌≤◌}
use native.Mathlib.Nat.{add-zero, mul-le-mul}
use native.Mathlib.Omega.{arith}
use lib.ListN.{length, get_or, take, drop, replicate, length-map, length-replicate}
use lib.Seq.{sets, length-sets, length-take-le, take-length, get_or-take}
use Rattle.plan.specs.declared.Header.{Header}
use Rattle.plan_lists.proofs.CopyLaws.{copied}
use Rattle.pairs.specs.Pairs.{pair_count}
use Rattle.pairs.proofs.PairLaws.{pairs-most}
use Rattle.bounds.proofs.Zeros.{zeros-at}
use Rattle.thresholds_sums.specs.declared.PlaceNumbers.{PlaceNumbers}
use Rattle.thresholds_sums.specs.Walked.{plan_with, plans_of, place_numbers, numbers_at, FallingFirst, HoldsAnswers, Fresh, AllHoldAnswers}
use Rattle.thresholds.specs.Thresholds.{thresholds_test}
use Rattle.thresholds.specs.Steps.{BlocksWalked}
use Rattle.thresholds.proofs.TestLaws.{test-none, in-range, in_order}
use Rattle.thresholds.proofs.BlockLaws.{map_at}
use Rattle.thresholds.proofs.RaiseLaws.{sets-in, sets-past}

abbrev zeros : List ℕ
zeros = replicate 16 0

-- the blocks of a list that passes its test are small
pub size-most : (n pairs : ℕ) (list : List ℕ) → n ≤ 64 → pairs ≡ pair_count n → thresholds_test list ≡ 0
    → (pairs ≤ 2016) × (pairs * length list ≤ 2016 * 16)
size-most n pairs list few e t =
    let small : pairs ≤ 2016 = omega (arith, pairs-most n few) in
    (small, mul-le-mul small (test-none list t).1)

-- a list that passes its test, and its copy into 16 places
module _ (list falling : List ℕ) (tested : thresholds_test list ≡ 0) (is : falling ≡ sets zeros 0 (take (length list) list)) where
  few : length list ≤ 16
  few = (test-none list tested).1

  -- each threshold stands at its place
  same-entry : (i : ℕ) → i < length list → get_or falling i 0 ≡ get_or list i 0
  same-entry i h =
      let front : take (length list) falling ≡ list =
      ap (take (length list)) is ∙ copied list zeros (length list) (length list) (omega arith) (omega (arith, few)) (omega arith) ∙ take-length list in
      sym (get_or-take (length list) falling i 0 h) ∙ ap (λ (l : List ℕ). get_or l i 0) front

  pub falling-first : FallingFirst (length list) falling
  falling-first =
      let t = test-none list tested in
      record {
        few = few;
        some = λ i h. rw (same-entry i h) (in-range _ list t.2 i h).0;
        most = λ i h. rw (same-entry i h) (omega (arith, in-range _ list t.2 i h));
        falling = λ i j l h. rw (same-entry i (omega arith), same-entry j h) (in_order _ list t.2 i j l h);
      }

  -- the arrays of places were of zeros, the rooms are set, and the blocks cleared
  module _ (h : Header) (rooms₀ counts masses rooms lower cleared : List ℕ)
      (z : (rooms₀ ≡ zeros) × ((counts ≡ zeros) × (masses ≡ zeros)))
      (set-rooms : rooms ≡ sets rooms₀ 0 (map (λ x. (h.cap + 1) + x) (take (length list) (drop 0 masses))))
      (room : pair_count h.nodes * length list ≤ length lower)
      (clear : cleared ≡ sets lower 0 (replicate (pair_count h.nodes * length list) 0)) where
    abbrev size : ℕ
    size = pair_count h.nodes * length list

    abbrev full-rooms : List ℕ
    full-rooms = map (λ x. (h.cap + 1) + x) (take (length list) zeros)

    full-rooms-long : length full-rooms ≡ length list
    full-rooms-long =
        length-map (take (length list) zeros) (λ x. (h.cap + 1) + x) ∙ length-take-le (length list) zeros (omega (arith, few))

    rooms-are : rooms ≡ sets zeros 0 full-rooms
    rooms-are = set-rooms ∙ (λ i. sets (z.0 i) 0 (map (λ x. (h.cap + 1) + x) (take (length list) (z.1.1 i))))

    rooms-set : (i : ℕ) → i < length list → get_or rooms i 0 ≡ h.cap + 1
    rooms-set i l =
        ap (λ (x : List ℕ). get_or x i 0) rooms-are
        ∙ ap (λ (k : ℕ). get_or (sets zeros 0 full-rooms) k 0) (sym (add-zero i))
        ∙ sets-in zeros 0 full-rooms (omega (arith, full-rooms-long, few)) i (omega (arith, full-rooms-long))
        ∙ map_at (λ x. (h.cap + 1) + x) (take (length list) zeros) i (omega (arith, length-take-le (length list) zeros (omega (arith, few))))
        ∙ omega (arith, get_or-take (length list) zeros i 0 l, zeros-at 16 i)

    rooms-none : (i : ℕ) → length list ≤ i → get_or rooms i 0 ≡ 0
    rooms-none i l =
        ap (λ (x : List ℕ). get_or x i 0) rooms-are
        ∙ sets-past zeros 0 full-rooms (omega (arith, full-rooms-long, few)) i (omega (arith, full-rooms-long))
        ∙ zeros-at 16 i

    no-count : (i : ℕ) → get_or counts i 0 ≡ 0
    no-count i = ap (λ (l : List ℕ). get_or l i 0) z.1.0 ∙ zeros-at 16 i

    no-mass : (i : ℕ) → get_or masses i 0 ≡ 0
    no-mass i = ap (λ (l : List ℕ). get_or l i 0) z.1.1 ∙ zeros-at 16 i

    nothing-long : length (replicate {A = ℕ} size 0) ≡ size
    nothing-long = length-replicate {A = ℕ} size 0

    cleared-past : (j : ℕ) → size ≤ j → get_or cleared j 0 ≡ get_or lower j 0
    cleared-past j l =
        ap (λ (x : List ℕ). get_or x j 0) clear ∙ sets-past lower 0 (replicate size 0) (omega (arith, nothing-long)) j (omega (arith, nothing-long))

    cleared-in : (j : ℕ) → j < size → get_or cleared j 0 ≡ 0
    cleared-in j l =
        ap (λ (x : List ℕ). get_or x j 0) clear
        ∙ ap (λ (k : ℕ). get_or (sets lower 0 (replicate size 0)) k 0) (sym (add-zero j))
        ∙ sets-in lower 0 (replicate size 0) (omega (arith, nothing-long)) j (omega (arith, nothing-long))
        ∙ zeros-at size j

    sized : length cleared ≡ length lower
    sized = ap length clear ∙ length-sets lower 0 (replicate size 0)

    pub fresh : Fresh h (length list) (place_numbers rooms counts masses) cleared
    fresh =
        record {
          arrays =
              record {
                rooms-size = ap length rooms-are ∙ length-sets zeros 0 full-rooms;
                counts-size = ap length z.1.0;
                masses-size = ap length z.1.1;
              };
          fits = omega (arith, sized);
          full = rooms-set;
          none = no-count;
          empty = no-mass;
          zeros = cleared-in;
        }

    -- the walk has ended
    pub blocks-walked : (links words : List ℕ) (n : PlaceNumbers) (lower' : List ℕ)
        → AllHoldAnswers (plans_of h links words falling) (length list) (place_numbers rooms counts masses) cleared n lower'
        → BlocksWalked (plans_of h links words list) n lower lower'
    blocks-walked links words n lower' s =
        record {
          arrays = s.kept.arrays;
          each =
              λ i l.
              subst (λ (t : ℕ). HoldsAnswers (plan_with h links words t) (numbers_at n i) (pair_count h.nodes * i) lower') (same-entry i l) (s.each i l);
          none =
              λ i l.
              let k = s.kept.places i l in
              (k.0 ∙ rooms-none i l, k.1 ∙ no-count i, k.2 ∙ no-mass i);
          past = λ j l. s.kept.entries j l ∙ cleared-past j l;
          sized = s.kept.sized ∙ sized;
        }
