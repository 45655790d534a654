-- Rows that show a network: their paths are its paths of working links, and what a node reaches by them is what it is connected to.
-- Assumes nothing.
use mathlib.Core.Path.{◌≡◌, refl, sym, ap, ◌∙◌}
use mathlib.Core.Bool.{Bool, true, false, not, ◌&&◌}
use mathlib.Core.List.{List}
use mathlib.Core.Logic.{◌↔◌}
use Prim.Native.Nat.{ℕ, ◌≤◌}
use lib.Dec.{ltb, eqb}
use lib.ListN.{get_or}
use Rattle.sets.specs.Sets.{bit, digit}
use Rattle.sets.proofs.Bools.{same_bool, not-of, of-not}
use Rattle.plan.specs.Plan.{Link}
use Rattle.network.specs.Outage.{Outage}
use Rattle.network.specs.Topology.{Network, network_of, node_works, adjacent, WorkingLink}
use Rattle.topology.specs.Paths.{Reaches, disconnected}
use Rattle.topology.proofs.Chains.{chain-map}
use Rattle.network.proofs.Works.{adjacent-link, link-adjacent, adjacent-sym, link-nodes}
use Rattle.topology.proofs.Connection.{connected-is}
use Rattle.topology.proofs.Laws.{path-leads}
use Rattle.topology.specs.RowPaths.{RowStep, Reached, reach_by_rows, Joining}
use Rattle.topology.specs.Rounds.{itself, reach_of}
use Rattle.topology.proofs.RoundPaths.{start-below, near-below}
use Rattle.topology.proofs.RoundSame.{reach-same}

-- ---- what a node reaches is what it is connected to

module _ (net : Network) where
  pub connected-bit : (v set w : ℕ) → (bit set w ≡ true) ↔ Reaches net v w → bit set w ≡ not (disconnected net v w)
  connected-bit v set w reached = same_bool _ _ there back
    where
      there : bit set w ≡ true → not (disconnected net v w) ≡ true
      there e =
          let h = reached.0 e in
          not-of _ ((connected-is net v w).1 (h.0, path-leads net h.1 h.0, h.1))

      back : not (disconnected net v w) ≡ true → bit set w ≡ true
      back e =
          let h = (connected-is net v w).0 (of-not _ e) in
          reached.1 (h.0, h.2)

-- ---- rows that show a network

-- the set of working nodes
pub nodes-shown : (n : ℕ) (links : List Link) (out : Outage) (nodes : ℕ) → ((v : ℕ) → bit nodes v ≡ (ltb v n && not (bit out.nodes v)))
    → (v : ℕ) → bit nodes v ≡ node_works (network_of n links out) v
unfolding node_works
nodes-shown n links out nodes law v = law v

module _ (net : Network) (nodes : ℕ) (rows : List ℕ)
    (up : (v : ℕ) → bit nodes v ≡ node_works net v)
    (row : (v w : ℕ) → bit (get_or rows v 0) w ≡ adjacent net v w)
  where
    pub step-link : (v w : ℕ) → RowStep rows v w → WorkingLink net v w
    step-link v w s = adjacent-link net v w (sym (row v w) ∙ s)

    pub link-step : (v w : ℕ) → WorkingLink net v w → RowStep rows v w
    link-step v w s = row v w ∙ link-adjacent net v w s

    pub joining : Joining nodes rows
    joining = record {
      both_ways = λ v w s. row w v ∙ adjacent-sym net w v ∙ sym (row v w) ∙ s;
      within = λ v w s. up w ∙ (link-nodes net v w (step-link v w s)).1;
    }

    pub reached-is : (v set : ℕ) → Reached nodes rows v set → (w : ℕ) → (bit set w ≡ true) ↔ Reaches net v w
    reached-is v set reached w = (
      λ e. (sym (up v) ∙ ((reached w).0 e).0, chain-map step-link ((reached w).0 e).1),
      λ h. (reached w).1 (up v ∙ h.0, chain-map link-step h.1),
    )

    -- and in as many rounds
    pub rounds-are : net.nodes ≤ 64 → (v : ℕ) → reach_by_rows nodes rows v ≡ reach_of net v
    unfolding reach_by_rows reach_of
    rounds-are few v =
        sym
        (reach-same net.nodes 64 (itself (node_works net v) v) (itself (bit nodes v) v) (adjacent net) (λ u w. bit (get_or rows u 0) w)
        few
        (λ w. ap (λ (x : Bool). itself x v w) (sym (up v)))
        (λ u w. sym (row u w))
        (start-below net v)
        (near-below net v))

-- ---- a node that is not among what another reaches

pub absent : (found set w : ℕ) (cut : Bool) → found ≡ digit (bit set w) → bit set w ≡ not cut → eqb found 0 ≡ cut
absent found set w cut e f = ap (λ (x : ℕ). eqb x 0) (e ∙ ap digit f) ∙ cases cut
  where
    cases : (c : Bool) → eqb (digit (not c)) 0 ≡ c
    cases true = refl
    cases false = refl
