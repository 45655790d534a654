-- Laws of reach: it is symmetric, a node that works reaches itself, and the working nodes and links decide it.
-- Assumes nothing.
use mathlib.Core.Path.{◌≡◌, sym, ap, ◌∙◌}
use mathlib.Core.Bool.{Bool, true, false, ◌&&◌}
use mathlib.Core.List.{List}
use Prim.Native.Nat.{ℕ}
use Rattle.sets.proofs.Bools.{so-unless, clash, same_bool}
use Rattle.plan.specs.Plan.{Link, link_at}
use Rattle.network.specs.Outage.{Outage}
use Rattle.network.specs.Topology.{Network, network_of, node_works, link_works, has_ends, joins, WorkingLink}
use Rattle.topology.specs.Paths.{here, WorkingPath, Reaches, disconnected}
use Rattle.topology.proofs.Chains.{chain_back, chain-keeps, chain-map}
use Rattle.network.proofs.Works.{link-nodes, link-back}
use Rattle.topology.proofs.Connection.{connected-is}

module _ (net : Network) where
  -- a path of working links can be taken back
  pub path-back : {v w : ℕ} → WorkingPath net v w → WorkingPath net w v
  path-back p = chain_back (link-back net) p

  -- what is disconnected one way is disconnected the other way
  pub disconnected-sym : (v w : ℕ) → disconnected net v w ≡ disconnected net w v
  disconnected-sym v w = same_bool _ _ (turn v w) (turn w v)
    where
      undone : (v w : ℕ) → disconnected net v w ≡ true → disconnected net w v ≡ false → ⊥
      undone v w e f =
          let h = (connected-is net w v).0 f in
          clash e ((connected-is net v w).1 (h.1, h.0, path-back h.2))

      turn : (v w : ℕ) → disconnected net v w ≡ true → disconnected net w v ≡ true
      turn v w e = so-unless _ (undone v w e)

  -- a path from a node that works leads to a node that works
  pub path-leads : {v w : ℕ} → WorkingPath net v w → node_works net v ≡ true → node_works net w ≡ true
  path-leads p e = chain-keeps (λ x. node_works net x ≡ true) (λ x y s k. (link-nodes net x y s).1) p e

  -- so reach is symmetric
  pub reaches-back : (v w : ℕ) → Reaches net v w → Reaches net w v
  reaches-back v w h = (path-leads h.1 h.0, path-back h.1)

  -- a node that works reaches itself
  pub reaches-itself : (v : ℕ) → node_works net v ≡ true → Reaches net v v
  reaches-itself v e = (e, here)

  pub connected-itself : (v : ℕ) → node_works net v ≡ true → disconnected net v v ≡ false
  connected-itself v e = (connected-is net v v).1 (e, e, here)

-- the working nodes and links decide: two outages that leave the same ones disconnect the same pairs
module _ (nodes : ℕ) (links : List Link) (out other : Outage)
    (same_nodes : (v : ℕ) → node_works (network_of nodes links out) v ≡ node_works (network_of nodes links other) v)
    (same-links : (i : ℕ) → link_works (network_of nodes links out) i ≡ link_works (network_of nodes links other) i)
  where
    pub same_step : (v w : ℕ) → WorkingLink (network_of nodes links out) v w → WorkingLink (network_of nodes links other) v w
    unfolding joins
    same_step v w s = (s.0, ap (λ (x : Bool). x && has_ends (link_at links s.0) v w) (sym (same-links s.0)) ∙ s.1)

    still-connected : (v w : ℕ) → disconnected (network_of nodes links out) v w ≡ false → disconnected (network_of nodes links other) v w ≡ false
    still-connected v w e =
        let h = (connected-is (network_of nodes links out) v w).0 e in
        (connected-is (network_of nodes links other) v w).1 (sym (same_nodes v) ∙ h.0, sym (same_nodes w) ∙ h.1, chain-map same_step h.2)

pub same-working : (nodes : ℕ) (links : List Link) (out other : Outage)
    → ((v : ℕ) → node_works (network_of nodes links out) v ≡ node_works (network_of nodes links other) v)
    → ((i : ℕ) → link_works (network_of nodes links out) i ≡ link_works (network_of nodes links other) i)
    → (v w : ℕ) → disconnected (network_of nodes links out) v w ≡ disconnected (network_of nodes links other) v w
same-working nodes links out other same_nodes same-links v w =
    same_bool _ _
    (λ e. so-unless _ (λ f. clash e (still-connected nodes links other out (λ x. sym (same_nodes x)) (λ x. sym (same-links x)) v w f)))
    (λ e. so-unless _ (λ f. clash e (still-connected nodes links out other same_nodes same-links v w f)))
