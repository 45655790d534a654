-- Laws of rounds: the set grows in every round before the last, the last one's number is at most the count of nodes, and one round more
-- changes nothing.
-- Assumes nothing.
use mathlib.Core.Path.{◌≡◌, sym, ap, ◌∙◌, subst}
use mathlib.Core.Bool.{Bool, true, false, not, ◌&&◌}
use mathlib.Core.Logic.{◌⊎◌, inl, inr, ⊎_elim}
use Prim.Native.Nat.{ℕ, zero, suc, ◌+◌, ◌≤◌, ◌<◌}
use native.Mathlib.Omega.{arith}
use native.Mathlib.Decide.{dec_lt}
use Rattle.sets.specs.Sets.{first_below}
use Rattle.sets.proofs.Bools.{and_left, and_right, and_both, or-either, or_left, or_right, clash, not-of, of-not, not_so, so-unless, same_bool, any_found, any_here}
use Rattle.sets.proofs.SearchLaws.{first_found, size, size-most, size-some, size-more}
use Rattle.topology.specs.Rounds.{in_round, adds_after, last_round}

module _ (n : ℕ) (start : ℕ → Bool) (near : ℕ → ℕ → Bool) where
  -- ---- one round

  -- what is in the set stays in it
  pub round_keeps : (k w : ℕ) → in_round n start near k w ≡ true → in_round n start near (suc k) w ≡ true
  unfolding in_round
  round_keeps k w e = or_left (in_round n start near k w) _ e

  -- a neighbour of what is in it comes in
  pub round-takes : (k u w : ℕ) → u < n → in_round n start near k u ≡ true → near u w ≡ true → in_round n start near (suc k) w ≡ true
  unfolding in_round
  round-takes k u w h e f =
      or_right (in_round n start near k w) _ (any_here (λ x. in_round n start near k x && near x w) n u h (and_both (in_round n start near k u) (near u w) e f))

  -- and nothing else
  pub round-from : (k w : ℕ) → in_round n start near (suc k) w ≡ true
      → (in_round n start near k w ≡ true) ⊎ ((u : ℕ) × (u < n) × (in_round n start near k u ≡ true) × (near u w ≡ true))
  unfolding in_round
  round-from k w e = ⊎_elim (λ f. inl f) (λ f. inr (named (any_found (λ x. in_round n start near k x && near x w) n f))) (or-either (in_round n start near k w) _ e)
    where
      named : (u : ℕ) × (u < n) × ((in_round n start near k u && near u w) ≡ true) → (u : ℕ) × (u < n) × (in_round n start near k u ≡ true) × (near u w ≡ true)
      named f = (f.0, f.1, and_left _ _ f.2, and_right (in_round n start near k f.0) _ f.2)

  -- ---- whether it adds a node

  pub adds_one : (k : ℕ) → adds_after n start near k ≡ true → (w : ℕ) × (w < n) × (in_round n start near (suc k) w ≡ true) × (in_round n start near k w ≡ false)
  unfolding adds_after
  adds_one k e =
      let f = any_found (λ w. in_round n start near (suc k) w && not (in_round n start near k w)) n e in
      (f.0, f.1, and_left _ _ f.2, of-not _ (and_right (in_round n start near (suc k) f.0) _ f.2))

  pub one-adds : (k w : ℕ) → w < n → in_round n start near (suc k) w ≡ true → in_round n start near k w ≡ false → adds_after n start near k ≡ true
  unfolding adds_after
  one-adds k w h e f = any_here (λ x. in_round n start near (suc k) x && not (in_round n start near k x)) n w h (and_both (in_round n start near (suc k) w) _ e (not-of _ f))

  -- a round that adds no node leaves the set as it was
  pub idle-same : (k w : ℕ) → w < n → adds_after n start near k ≡ false → in_round n start near (suc k) w ≡ in_round n start near k w
  idle-same k w h e = same_bool _ _ (λ f. so-unless _ (λ g. clash (one-adds k w h f g) e)) (round_keeps k w)

  -- and so does each one after it
  pub idle-next : (k : ℕ) → adds_after n start near k ≡ false → adds_after n start near (suc k) ≡ false
  idle-next k e = not_so _ (λ f. refuted (adds_one (suc k) f))
    where
      refuted : (w : ℕ) × (w < n) × (in_round n start near (suc (suc k)) w ≡ true) × (in_round n start near (suc k) w ≡ false) → ⊥
      refuted (w, h, f, g) =
          ⊎_elim
          (λ t. clash t g)
          (λ t. clash (round-takes k t.0 w t.1 (sym (idle-same k t.0 t.1 e) ∙ t.2) t.3) g)
          (round-from (suc k) w f)

  -- ---- how many add one

  -- while each round adds a node, there are more nodes than rounds
  size-after : (k : ℕ) → ((j : ℕ) → j < k → adds_after n start near j ≡ true) → size (in_round n start near 0) n + k ≤ size (in_round n start near k) n
  size-after zero h = omega arith
  size-after (suc k) h =
      let f = adds_one k (h k (omega arith)) in
      omega (arith, size-after k (λ j l. h j (omega arith)), size-more (in_round n start near k) (in_round n start near (suc k)) (round_keeps k) n f.0 f.1 f.3 f.2)

  -- and the first of them began with one
  some-start : adds_after n start near 0 ≡ true → 1 ≤ size (in_round n start near 0) n
  some-start e =
      let f = adds_one 0 e in
      ⊎_elim
      (λ t. absurd (clash t f.3))
      (λ t. size-some (in_round n start near 0) n t.0 t.1 t.2)
      (round-from 0 f.0 f.2)

  pub adding-most : (k : ℕ) → ((j : ℕ) → j < k → adds_after n start near j ≡ true) → 0 < k → k < n
  adding-most k h l = omega (arith, size-after k h, some-start (h 0 l), size-most (in_round n start near k) n)

  -- ---- the last round

  -- the round after round k is the first that adds no node
  pub record Last (k : ℕ) : Type 0 where
    pub before : (j : ℕ) → j < k → adds_after n start near j ≡ true
    pub idle : adds_after n start near k ≡ false

  -- how many rounds add a node before the first that does not
  abbrev last : ℕ
  last = first_below (λ k. not (adds_after n start near k)) n

  adds-before : (j : ℕ) → j < last → adds_after n start near j ≡ true
  adds-before j h = so-unless _ (λ e. clash (not-of _ e) ((first_found (λ k. not (adds_after n start near k)) n).before j h))

  pub rounds-last : Last last
  rounds-last = record { before = adds-before; idle = go (dec_lt last n) }
    where
      go : Dec (last < n) → adds_after n start near last ≡ false
      go (yes l) = of-not _ ((first_found (λ k. not (adds_after n start near k)) n).holds l)
      go (no m) =
          not_so _
          (λ e.
          let some = (adds_one last e).1 in
          absurd (omega (arith, some, adding-most last adds-before (omega (arith, some)))))

  -- law: the number is k + 1 exactly where the round after round k is the first that adds no node
  pub last-is : (k : ℕ) → Last k → last_round n start near ≡ suc k
  unfolding last_round
  last-is k l = ap suc (go (dec_lt last k) (dec_lt k last))
    where
      go : Dec (last < k) → Dec (k < last) → last ≡ k
      go (yes h) d = absurd (clash (l.before last h) rounds-last.idle)
      go (no h) (yes g) = absurd (clash (adds-before k g) l.idle)
      go (no h) (no g) = omega arith

  pub is_last : (k : ℕ) → last_round n start near ≡ suc k → Last k
  unfolding last_round
  is_last k e =
      let same : last ≡ k = omega arith in
      subst Last same rounds-last

  -- law: the number is at most the count of nodes
  pub last-most : 0 < n → last_round n start near ≤ n
  unfolding last_round
  last-most h = go (dec_lt 0 last)
    where
      go : Dec (0 < last) → suc last ≤ n
      go (yes l) = omega (arith, adding-most last adds-before l)
      go (no l) = omega arith

  -- law: the set grows in every round before the last
  pub before_last : (k : ℕ) → suc k < last_round n start near → adds_after n start near k ≡ true
  unfolding last_round
  before_last k h = adds-before k (omega arith)

  -- law: no round after it adds a node
  pub last-idle : adds_after n start near (last_round n start near) ≡ false
  unfolding last_round
  last-idle = idle-next last rounds-last.idle

  pub after_last : (j : ℕ) → adds_after n start near (j + last_round n start near) ≡ false
  after_last zero =
      let e : 0 + last_round n start near ≡ last_round n start near = omega arith in
      ap (adds_after n start near) e ∙ last-idle
  after_last (suc j) =
      let e : suc j + last_round n start near ≡ suc (j + last_round n start near) = omega arith in
      ap (adds_after n start near) e ∙ idle-next (j + last_round n start near) (after_last j)

  -- where the set begins below n and neighbours are below n, all that is reached is
  module _ (starts : (w : ℕ) → start w ≡ true → w < n) (within : (u w : ℕ) → near u w ≡ true → w < n) where
    pub in-below : (k w : ℕ) → in_round n start near k w ≡ true → w < n
    unfolding in_round
    in-below zero w e = starts w e
    in-below (suc k) w e = ⊎_elim (in-below k w) (λ t. within t.0 w t.3) (round-from k w e)

    -- so a round that adds no node leaves the set as it was
    pub idle-all : (k w : ℕ) → adds_after n start near k ≡ false → in_round n start near (suc k) w ≡ in_round n start near k w
    idle-all k w e =
        same_bool _ _
        (λ f. sym (idle-same k w (in-below (suc k) w f) e) ∙ f)
        (round_keeps k w)

    pub more-all : (j w : ℕ) → in_round n start near (j + last_round n start near) w ≡ in_round n start near (last_round n start near) w
    more-all zero w =
        let e : 0 + last_round n start near ≡ last_round n start near = omega arith in
        ap (λ (k : ℕ). in_round n start near k w) e
    more-all (suc j) w =
        let e : suc j + last_round n start near ≡ suc (j + last_round n start near) = omega arith in
        ap (λ (k : ℕ). in_round n start near k w) e ∙ idle-all (j + last_round n start near) w (after_last j) ∙ more-all j w
