-- The three words of an effective topology, from the sets that the code gives.
-- Assumes nothing.
use mathlib.Core.Path.{◌≡◌, sym, ap, ◌∙◌}
use mathlib.Core.Bool.{not, ◌&&◌}
use mathlib.Core.List.{List}
use Prim.Native.Nat.{ℕ, ◌+◌, ◌^◌, ◌<◌}
use lib.Dec.{ltb}
use Rattle.sets.specs.Sets.{bit, joined}
use Rattle.sets.proofs.Laws.{bit-joined-low, bit-joined-high}
use Rattle.plan.specs.Lists.{links_of, events_of}
use Rattle.plan.specs.LentLists.{plan_of_lists}
use Rattle.plan.specs.declared.Header.{Header}
use Rattle.network.specs.Outage.{Outage, intact, outage_of}
use Rattle.network.specs.Topology.{Network, network_of, node_works, link_works}
use Rattle.network.specs.Code.{outage, network_in}
use Rattle.network.specs.declared.Failed.{Failed}
use Rattle.walk.specs.Scenario.{scenario_of}
use Rattle.walk.proofs.ScenarioLaws.{failing-scenario}
use Rattle.topology_list.specs.TopologyList.{topology_in, topology_after}
use Rattle.sets.proofs.WhereLaws.{set_is}

-- sets with the working nodes and links as elements
topology-is : (net : Network) (nodes low high : ℕ) → nodes < 2 ^ 64 → low < 2 ^ 64 → high < 2 ^ 64
    → ((v : ℕ) → bit nodes v ≡ node_works net v) → ((i : ℕ) → bit (joined low high) i ≡ link_works net i)
    → (record { nodes = nodes; low = low; high = high }) ≡ topology_in net
unfolding topology_in
topology-is net nodes low high a b c n l =
    let one = set_is (node_works net) 64 nodes a (λ v h. n v) in
    let two = set_is (link_works net) 64 low b (λ i h. sym (bit-joined-low 64 low high i b h) ∙ l i) in
    let three = set_is (λ i. link_works net (64 + i)) 64 high c (λ i h. sym (bit-joined-high 64 low high i b) ∙ l (64 + i)) in
    λ k. record { nodes = one k; low = two k; high = three k }

module _ (h : Header) (links words : List ℕ) (low_events high_events : ℕ) (decided : joined low_events high_events < 2 ^ h.events)
    (failed : Failed) (gathered : outage failed ≡ outage_of intact (events_of h.events words) (joined low_events high_events))
    (nodes low high : ℕ) (a : nodes < 2 ^ 64) (b : low < 2 ^ 64) (c : high < 2 ^ 64)
    (working-nodes : (v : ℕ) → bit nodes v ≡ (ltb v h.nodes && not (bit failed.nodes v)))
    (working-links : (i : ℕ) → bit (joined low high) i ≡ link_works (network_in h.nodes failed links h.links) i) where
  works : (v : ℕ) → bit nodes v ≡ node_works (network_in h.nodes failed links h.links) v
  unfolding node_works
  works v = working-nodes v

  pub topology-after : (record { nodes = nodes; low = low; high = high })
      ≡ topology_after intact (plan_of_lists h links words) (scenario_of h.events (joined low_events high_events))
  unfolding plan_of_lists
  topology-after =
      topology-is (network_in h.nodes failed links h.links) nodes low high a b c works working-links
      ∙ ap (λ (o : Outage). topology_in (network_of h.nodes (links_of h.links links) o))
      (gathered ∙ ap (outage_of intact (events_of h.events words)) (sym (failing-scenario h.events (joined low_events high_events) decided)))
