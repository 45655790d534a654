-- Rounds among n nodes, seen among the elements of a longer array: the answer is the same.
-- Assumes nothing.
use mathlib.Core.Path.{◌≡◌, sym, ap, ◌∙◌}
use mathlib.Core.Bool.{Bool, true}
use mathlib.Core.Logic.{⊎_elim}
use Prim.Native.Nat.{ℕ, zero, suc, ◌≤◌, ◌<◌}
use native.Mathlib.Omega.{arith}
use native.Mathlib.Nat.{lt_of_lt_of_le}
use lib.Pow.{pow_mono}
use Rattle.sets.specs.Sets.{bit, set_where}
use Rattle.sets.proofs.Laws.{bit_below}
use Rattle.sets.proofs.WhereLaws.{set-lt, set-bit, set_is}
use Rattle.sets.proofs.Bools.{same_bool}
use Rattle.topology.specs.Rounds.{in_round, adds_after, last_round, reach_by}
use Rattle.topology.proofs.RoundLaws.{round_keeps, round-takes, round-from, adds_one, one-adds, Last, rounds-last, last-is, in-below}

module _ (n m : ℕ) (start start' : ℕ → Bool) (near near' : ℕ → ℕ → Bool)
    (fewer : n ≤ m)
    (starts : (w : ℕ) → start w ≡ start' w)
    (nears : (u w : ℕ) → near u w ≡ near' u w)
    (start-below : (w : ℕ) → start w ≡ true → w < n)
    (near-below : (u w : ℕ) → near u w ≡ true → (u < n) × (w < n))
  where
    -- all that is reached is below n
    below : (k w : ℕ) → in_round n start near k w ≡ true → w < n
    below = in-below n start near start-below (λ u w e. (near-below u w e).1)

    in-same : (k w : ℕ) → in_round n start near k w ≡ in_round m start' near' k w
    unfolding in_round
    in-same zero w = starts w
    in-same (suc k) w = same_bool _ _ (there (in-same k)) (back (in-same k))
      where
        there : ((x : ℕ) → in_round n start near k x ≡ in_round m start' near' k x) → in_round n start near (suc k) w ≡ true → in_round m start' near' (suc k) w ≡ true
        there same e =
            ⊎_elim
            (λ f. round_keeps m start' near' k w (sym (same w) ∙ f))
            (λ t. round-takes m start' near' k t.0 w (omega (arith, t.1)) (sym (same t.0) ∙ t.2) (sym (nears t.0 w) ∙ t.3))
            (round-from n start near k w e)

        back : ((x : ℕ) → in_round n start near k x ≡ in_round m start' near' k x) → in_round m start' near' (suc k) w ≡ true → in_round n start near (suc k) w ≡ true
        back same e =
            ⊎_elim
            (λ f. round_keeps n start near k w (same w ∙ f))
            (λ t.
            let s = nears t.0 w ∙ t.3 in
            round-takes n start near k t.0 w (near-below t.0 w s).0 (same t.0 ∙ t.2) s)
            (round-from m start' near' k w e)

    adds_same : (k : ℕ) → adds_after n start near k ≡ adds_after m start' near' k
    adds_same k = same_bool _ _ there back
      where
        there : adds_after n start near k ≡ true → adds_after m start' near' k ≡ true
        there e =
            let f = adds_one n start near k e in
            one-adds m start' near' k f.0 (omega (arith, f.1)) (sym (in-same (suc k) f.0) ∙ f.2) (sym (in-same k f.0) ∙ f.3)

        back : adds_after m start' near' k ≡ true → adds_after n start near k ≡ true
        back e =
            let f = adds_one m start' near' k e in
            let there = in-same (suc k) f.0 ∙ f.2 in
            one-adds n start near k f.0 (below (suc k) f.0 there) there (in-same k f.0 ∙ f.3)

    last-same : (k : ℕ) → Last m start' near' k → Last n start near k
    last-same k l = record { before = λ j h. adds_same j ∙ l.before j h; idle = adds_same k ∙ l.idle }

    rounds-same : last_round n start near ≡ last_round m start' near'
    unfolding last_round
    rounds-same = last-is n start near _ (last-same _ (rounds-last m start' near'))

    set_same : set_where (in_round n start near (last_round n start near)) n ≡ set_where (in_round m start' near' (last_round m start' near')) m
    set_same = set_is q m (set_where p n) (lt_of_lt_of_le (set-lt p n) (pow_mono fewer)) each
      where
        p : ℕ → Bool
        p = in_round n start near (last_round n start near)

        q : ℕ → Bool
        q = in_round m start' near' (last_round m start' near')

        one : (w : ℕ) → p w ≡ q w
        one w = in-same (last_round n start near) w ∙ ap (λ (k : ℕ). in_round m start' near' k w) rounds-same

        each : (w : ℕ) → w < m → bit (set_where p n) w ≡ q w
        each w h =
            same_bool _ _
            (λ e. sym (one w) ∙ sym (set-bit p n w (bit_below (set_where p n) n w (set-lt p n) e)) ∙ e)
            (λ e. set-bit p n w (below (last_round n start near) w (one w ∙ e)) ∙ one w ∙ e)

    pub reach-same : reach_by n start near ≡ reach_by m start' near'
    reach-same = rw (set_same, rounds-same)
