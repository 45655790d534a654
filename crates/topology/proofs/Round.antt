-- A turn of the loop over the rounds: what has been seen, and what is fresh.
-- Assumes nothing.
use mathlib.Core.Path.{◌≡◌, refl, sym, ap, ap₂, ◌∙◌, subst}
use mathlib.Core.Bool.{Bool, true, false, not, ◌&&◌, ◌||◌}
use mathlib.Core.List.{List}
use mathlib.Core.Logic.{⊎_elim, ◌↔◌}
use Prim.Native.Nat.{ℕ, suc, ◌^◌, ◌<◌}
use native.Mathlib.Omega.{arith}
use native.Mathlib.Decide.{dec_lt}
use borrow.Author.Tests.{eqb-true}
use lib.Dec.{eqb}
use lib.ListN.{get_or}
use Rattle.sets.specs.Sets.{bit, set_where}
use Rattle.sets.proofs.Laws.{bit-none, bit_below, bit-ext}
use Rattle.sets.proofs.WhereLaws.{set_is}
use Rattle.sets.proofs.Bools.{and_left, and_right, and_both, or-either, clash, not-of, of-not, not_so, so-unless, same_bool}
use Rattle.topology.specs.RowPaths.{RowStep, InRows, Reached, reach_by_rows}
use Rattle.topology.specs.Rounds.{in_round, adds_after, last_round, itself}
use Rattle.topology.specs.declared.Reach.{Reach}
use Rattle.topology.proofs.RoundLaws.{round_keeps, round-takes, round-from, adds_one, one-adds, idle-same, adding-most, last-is}
use Rattle.topology.proofs.RoundPaths.{rows-reached}

module _ (start : ℕ → Bool) (rows : List ℕ) where
  abbrev near : ℕ → ℕ → Bool
  near u w = bit (get_or rows u 0) w

  -- seen is the set after round k, and its rows lead to nodes below 64; fresh is what the round after it adds; each round up to k has added a
  -- node
  pub record Turn (k seen fresh : ℕ) : Type 0 where
    pub seen-is : (w : ℕ) → w < 64 → bit seen w ≡ in_round 64 start near k w
    pub fresh-is : (w : ℕ) → w < 64 → bit fresh w ≡ (in_round 64 start near (suc k) w && not (in_round 64 start near k w))
    pub before : (j : ℕ) → j < k → adds_after 64 start near j ≡ true
    pub leads : (u w : ℕ) → bit seen u ≡ true → RowStep rows u w → w < 64

  -- what a set's rows give, without what has been seen, is what the next round adds
  module _ (k from seen next fresh : ℕ) (small : from < 2 ^ 64)
      (in_rows : (w : ℕ) → (bit next w ≡ true) ↔ InRows rows from w)
      (seen-is : (w : ℕ) → w < 64 → bit seen w ≡ in_round 64 start near k w)
      (less : (w : ℕ) → bit fresh w ≡ (bit next w && not (bit seen w)))
      (sound : (u : ℕ) → bit from u ≡ true → in_round 64 start near k u ≡ true)
      (whole : (u w : ℕ) → u < 64 → w < 64 → in_round 64 start near k u ≡ true → near u w ≡ true → in_round 64 start near k w ≡ false → bit from u ≡ true)
    where
      added : (w : ℕ) → w < 64 → bit fresh w ≡ (in_round 64 start near (suc k) w && not (in_round 64 start near k w))
      added w h = less w ∙ same_bool _ _ there back
        where
          there : (bit next w && not (bit seen w)) ≡ true → (in_round 64 start near (suc k) w && not (in_round 64 start near k w)) ≡ true
          there e =
              let r = (in_rows w).0 (and_left _ _ e) in
              and_both (in_round 64 start near (suc k) w) _
              (round-takes 64 start near k r.0 w (bit_below from 64 r.0 small r.1) (sound r.0 r.1) r.2)
              (ap not (sym (seen-is w h)) ∙ and_right (bit next w) _ e)

          back : (in_round 64 start near (suc k) w && not (in_round 64 start near k w)) ≡ true → (bit next w && not (bit seen w)) ≡ true
          back e =
              let new = of-not _ (and_right (in_round 64 start near (suc k) w) _ e) in
              and_both (bit next w) _
              (⊎_elim
              (λ f. absurd (clash f new))
              (λ t. (in_rows w).1 (t.0, whole t.0 w t.1 h t.2 t.3 new, t.3))
              (round-from 64 start near k w (and_left _ _ e)))
              (not-of _ (seen-is w h ∙ new))

  -- before the loop: what the rows of the first set add
  pub turn-first : (seen next fresh : ℕ) → seen < 2 ^ 64 → next < 2 ^ 64
      → ((w : ℕ) → bit seen w ≡ start w)
      → ((w : ℕ) → (bit next w ≡ true) ↔ InRows rows seen w)
      → ((w : ℕ) → bit fresh w ≡ (bit next w && not (bit seen w)))
      → Turn 0 seen fresh
  unfolding in_round
  turn-first seen next fresh small small' is in_rows less =
      record {
        seen-is = λ w h. is w;
        fresh-is = added 0 seen seen next fresh small in_rows (λ w h. is w) less (λ u e. sym (is u) ∙ e) (λ u w h l e s new. is u ∙ e);
        before = λ j h. absurd (omega arith);
        leads = λ u w e s. bit_below next 64 w small' ((in_rows w).1 (u, e, s));
      }

  module _ (k seen fresh : ℕ) (turn : Turn k seen fresh) where
    -- something is fresh: a node is added
    adds : fresh < 2 ^ 64 → (fresh ≡ 0 → ⊥) → adds_after 64 start near k ≡ true
    adds small some = so-unless _ (λ e. some (bit-ext 64 fresh 0 small (omega arith) (λ w h. none w h e ∙ sym (bit-none w))))
      where
        none : (w : ℕ) → w < 64 → adds_after 64 start near k ≡ false → bit fresh w ≡ false
        none w h e =
            not_so _
            (λ f.
            let new = sym (turn.fresh-is w h) ∙ f in
            clash (one-adds 64 start near k w h (and_left _ _ new) (of-not _ (and_right (in_round 64 start near (suc k) w) _ new))) e)

    grown : fresh < 2 ^ 64 → (fresh ≡ 0 → ⊥) → (j : ℕ) → j < suc k → adds_after 64 start near j ≡ true
    grown small some j h = go (dec_lt j k)
      where
        go : Dec (j < k) → adds_after 64 start near j ≡ true
        go (yes l) = turn.before j l
        go (no l) =
            let same : j ≡ k = omega arith in
            ap (adds_after 64 start near) same ∙ adds small some

    -- so there is room for the next number
    pub turn-counts : fresh < 2 ^ 64 → (fresh ≡ 0 → ⊥) → suc k < 64
    turn-counts small some = adding-most 64 start near (suc k) (grown small some) (omega arith)

    -- the turn: what was fresh is seen
    pub turn-next : (seen' next fresh' : ℕ) → fresh < 2 ^ 64 → next < 2 ^ 64 → (fresh ≡ 0 → ⊥)
        → ((w : ℕ) → bit seen' w ≡ (bit seen w || bit fresh w))
        → ((w : ℕ) → (bit next w ≡ true) ↔ InRows rows fresh w)
        → ((w : ℕ) → bit fresh' w ≡ (bit next w && not (bit seen' w)))
        → Turn (suc k) seen' fresh'
    turn-next seen' next fresh' small small' some union in_rows less =
        record {
          seen-is = seen-is;
          fresh-is = added (suc k) fresh seen' next fresh' small in_rows seen-is less sound whole;
          before = grown small some;
          leads = λ u w e s.
              ⊎_elim
              (λ f. turn.leads u w f s)
              (λ f. bit_below next 64 w small' ((in_rows w).1 (u, f, s)))
              (or-either (bit seen u) (bit fresh u) (sym (union u) ∙ e));
        }
      where
        cases : (x y : Bool) → (x ≡ true → y ≡ true) → (x || (y && not x)) ≡ y
        cases true y h = sym (h refl)
        cases false true h = refl
        cases false false h = refl

        seen-is : (w : ℕ) → w < 64 → bit seen' w ≡ in_round 64 start near (suc k) w
        seen-is w h = rw (union w, turn.seen-is w h, turn.fresh-is w h) (cases _ _ (round_keeps 64 start near k w))

        sound : (u : ℕ) → bit fresh u ≡ true → in_round 64 start near (suc k) u ≡ true
        sound u e = and_left _ _ (sym (turn.fresh-is u (bit_below fresh 64 u small e)) ∙ e)

        whole : (u w : ℕ) → u < 64 → w < 64 → in_round 64 start near (suc k) u ≡ true → near u w ≡ true → in_round 64 start near (suc k) w ≡ false → bit fresh u ≡ true
        whole u w h l e s new =
            turn.fresh-is u h
            ∙ and_both (in_round 64 start near (suc k) u) _ e (not-of _ (not_so _ (λ f. clash (round-takes 64 start near k u w h f s) new)))

    -- after the loop: nothing is fresh
    pub turn_last : seen < 2 ^ 64 → fresh ≡ 0 → (suc k ≡ last_round 64 start near) × (seen ≡ set_where (in_round 64 start near (last_round 64 start near)) 64)
    turn_last small none = (sym number, set_is _ 64 seen small each)
      where
        idle : adds_after 64 start near k ≡ false
        idle =
            not_so _
            (λ e.
            let f = adds_one 64 start near k e in
            clash
            (turn.fresh-is f.0 f.1 ∙ and_both (in_round 64 start near (suc k) f.0) _ f.2 (not-of _ f.3))
            (ap (λ (x : ℕ). bit x f.0) none ∙ bit-none f.0))

        number : last_round 64 start near ≡ suc k
        number = last-is 64 start near k (record { before = turn.before; idle = idle })

        each : (w : ℕ) → w < 64 → bit seen w ≡ in_round 64 start near (last_round 64 start near) w
        each w h = turn.seen-is w h ∙ sym (idle-same 64 start near k w h idle) ∙ ap (λ (x : ℕ). in_round 64 start near x w) (sym number)

-- the set before the first round
pub begins : (nodes v seen : ℕ) → ((w : ℕ) → bit seen w ≡ (bit nodes w && eqb w v)) → (w : ℕ) → bit seen w ≡ itself (bit nodes v) v w
begins nodes v seen law w = law w ∙ same_bool _ _ there back
  where
    at : eqb w v ≡ true → bit nodes w ≡ bit nodes v
    at e = ap (bit nodes) (eqb-true w v e)

    there : (bit nodes w && eqb w v) ≡ true → (bit nodes v && eqb w v) ≡ true
    there e =
        let s = and_right (bit nodes w) (eqb w v) e in
        and_both (bit nodes v) (eqb w v) (sym (at s) ∙ and_left (bit nodes w) (eqb w v) e) s

    back : (bit nodes v && eqb w v) ≡ true → (bit nodes w && eqb w v) ≡ true
    back e =
        let s = and_right (bit nodes v) (eqb w v) e in
        and_both (bit nodes w) (eqb w v) (at s ∙ and_left (bit nodes v) (eqb w v) e) s

-- the answer, and the paths that it stands for
module _ (nodes : ℕ) (rows : List ℕ) (v k seen fresh : ℕ) (turn : Turn (itself (bit nodes v) v) rows k seen fresh)
    (small : seen < 2 ^ 64) (none : fresh ≡ 0)
  where
    pub turn-answer : (rounds : ℕ) → rounds ≡ suc k → record { set = seen; rounds = rounds } ≡ reach_by_rows nodes rows v
    unfolding reach_by_rows
    turn-answer rounds e =
        let done = turn_last (itself (bit nodes v) v) rows k seen fresh turn small none in
        ap₂ (λ (s r : ℕ). record { set = s; rounds = r }) done.1 (e ∙ done.0)

    pub turn-paths : v < 64 → Reached nodes rows v seen
    turn-paths h =
        let same : seen ≡ (reach_by_rows nodes rows v).set = ap (λ (r : Reach). r.set) (turn-answer (suc k) refl) in
        subst (λ (s : ℕ). Reached nodes rows v s) (sym same)
        (rows-reached nodes rows v h (λ u w l e s. turn.leads u w (ap (λ (x : ℕ). bit x u) same ∙ e) s))
