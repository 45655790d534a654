-- The set after the last round is what paths lead to.
-- Assumes nothing.
use mathlib.Core.Path.{◌≡◌, refl, sym, ◌∙◌, subst}
use mathlib.Core.Bool.{Bool, true}
use mathlib.Core.List.{List}
use mathlib.Core.Logic.{⊎_elim, ◌↔◌}
use Prim.Native.Nat.{ℕ, zero, suc, ◌<◌}
use borrow.Author.Tests.{eqb-true, eq-eqb}
use lib.Dec.{eqb}
use lib.ListN.{get_or}
use Rattle.sets.specs.Sets.{bit, set_where}
use Rattle.sets.proofs.Laws.{bit_below}
use Rattle.sets.proofs.WhereLaws.{set-lt, set-bit}
use Rattle.sets.proofs.Bools.{and_left, and_right, and_both}
use Rattle.network.specs.Topology.{Network, node_works, adjacent}
use Rattle.network.proofs.Works.{node-below, link-nodes, adjacent-link}
use Rattle.topology.specs.Paths.{Chain, here, more}
use Rattle.topology.specs.RowPaths.{RowStep, RowPath, Reached, reach_by_rows}
use Rattle.topology.specs.Rounds.{in_round, last_round, reach_by, itself}
use Rattle.topology.proofs.Chains.{chain-append, chain-keeps}
use Rattle.topology.proofs.RoundLaws.{round_keeps, round-takes, round-from, idle-same, last-idle}

module _ (n : ℕ) (start : ℕ → Bool) (near : ℕ → ℕ → Bool) where
  abbrev Path : ℕ → ℕ → Type 0
  Path = Chain (λ u w. near u w ≡ true)

  -- a path leads to each node of a round's set
  in_path : (k w : ℕ) → in_round n start near k w ≡ true → (u : ℕ) × (start u ≡ true) × Path u w
  unfolding in_round
  in_path zero w e = (w, e, here)
  in_path (suc k) w e =
      ⊎_elim
      (in_path k w)
      (λ t.
      let p = in_path k t.0 t.2 in
      (p.0, p.1, chain-append p.2 (more t.3 here)))
      (round-from n start near k w e)

  start-kept : (k w : ℕ) → start w ≡ true → in_round n start near k w ≡ true
  unfolding in_round
  start-kept zero w e = e
  start-kept (suc k) w e = round_keeps n start near k w (start-kept k w e)

  -- where the set begins below n, and the neighbours of the last set are below n
  module _ (starts : (w : ℕ) → start w ≡ true → w < n)
      (within : (u w : ℕ) → u < n → in_round n start near (last_round n start near) u ≡ true → near u w ≡ true → w < n)
    where
      abbrev last : ℕ → Bool
      last = in_round n start near (last_round n start near)

      -- each node that a path leads to is in it
      path-in : {u w : ℕ} → start u ≡ true → Path u w → (w < n) × (last w ≡ true)
      path-in {u} e p = chain-keeps (λ x. (x < n) × (last x ≡ true)) step p (starts u e, start-kept (last_round n start near) u e)
        where
          step : (x y : ℕ) → near x y ≡ true → (x < n) × (last x ≡ true) → (y < n) × (last y ≡ true)
          step x y s h =
              let below = within x y h.0 h.1 s in
              (below, sym (idle-same n start near (last_round n start near) y below (last-idle n start near)) ∙ round-takes n start near (last_round n start near) x y h.0 h.1 s)

      pub reach-paths : (w : ℕ) → (bit (reach_by n start near).set w ≡ true) ↔ ((u : ℕ) × (start u ≡ true) × Path u w)
      reach-paths w = (there, back)
        where
          there : bit (set_where last n) w ≡ true → (u : ℕ) × (start u ≡ true) × Path u w
          there e = in_path (last_round n start near) w (sym (set-bit last n w (bit_below (set_where last n) n w (set-lt last n) e)) ∙ e)

          back : (u : ℕ) × (start u ≡ true) × Path u w → bit (set_where last n) w ≡ true
          back (u, e, q) =
              let f = path-in e q in
              set-bit last n w f.0 ∙ f.1

-- it begins at v
module _ (up : Bool) (v : ℕ) where
  pub itself-up : (w : ℕ) → itself up v w ≡ true → (up ≡ true) × (w ≡ v)
  itself-up w e = (and_left up (eqb w v) e, eqb-true w v (and_right up (eqb w v) e))

  pub up-itself : up ≡ true → itself up v v ≡ true
  up-itself e = and_both up (eqb v v) e (eq-eqb v v refl)

-- the rounds of a network begin and stay among its nodes
module _ (net : Network) (v : ℕ) where
  pub start-below : (w : ℕ) → itself (node_works net v) v w ≡ true → w < net.nodes
  start-below w e =
      let at = itself-up (node_works net v) v w e in
      subst (λ (x : ℕ). x < net.nodes) (sym at.1) (node-below net v at.0)

  pub near-below : (u w : ℕ) → adjacent net u w ≡ true → (u < net.nodes) × (w < net.nodes)
  near-below u w e =
      let ends = link-nodes net u w (adjacent-link net u w e) in
      (node-below net u ends.0, node-below net w ends.1)

-- the set after the last round by rows, where those of its nodes lead to nodes below 64
pub rows-reached : (nodes : ℕ) (rows : List ℕ) (v : ℕ) → v < 64
    → ((u w : ℕ) → u < 64 → bit (reach_by_rows nodes rows v).set u ≡ true → RowStep rows u w → w < 64)
    → Reached nodes rows v (reach_by_rows nodes rows v).set
unfolding reach_by_rows
rows-reached nodes rows v h few w = (
  λ e.
      let f = law.0 e in
      let at = itself-up (bit nodes v) v f.0 f.1 in
      (at.0, subst (λ (x : ℕ). RowPath rows x w) at.1 f.2),
  λ p. law.1 (v, up-itself (bit nodes v) v p.0, p.1),
)
  where
    law : (bit (reach_by 64 (itself (bit nodes v) v) (λ u w. bit (get_or rows u 0) w)).set w ≡ true)
        ↔ ((u : ℕ) × (itself (bit nodes v) v u ≡ true) × RowPath rows u w)
    law =
        reach-paths 64 (itself (bit nodes v) v) (λ u w. bit (get_or rows u 0) w)
        (λ x e. subst (λ (y : ℕ). y < 64) (sym (itself-up (bit nodes v) v x e).1) h)
        (λ x y l e s. few x y l (set-bit (in_round 64 (itself (bit nodes v) v) (λ u w. bit (get_or rows u 0) w) _) 64 x l ∙ e) s)
        w
