-- Rounds of reach in a network: document 02, request U3.
-- Assumes nothing.
use mathlib.Core.Path.{◌≡◌, sym, ap, ap₂, subst}
use mathlib.Core.Bool.{Bool, true, false, not, ◌&&◌}
use mathlib.Core.List.{List}
use mathlib.Core.Logic.{◌↔◌}
use Prim.Native.Nat.{ℕ, suc, ◌+◌, ◌≤◌, ◌<◌}
use native.Mathlib.Decide.{dec_lt}
use native.Mathlib.Omega.{arith}
use borrow.Author.Tests.{le-ltb}
use lib.Dec.{ltb}
use lib.ListN.{length}
use Rattle.sets.specs.Sets.{bit}
use Rattle.sets.proofs.Bools.{same_bool}
use Rattle.plan.specs.Plan.{Link, link_at}
use Rattle.network.specs.Outage.{Outage}
use Rattle.network.specs.Topology.{Network, network_of, node_works, link_works, adjacent}
use Rattle.network.proofs.Works.{adjacent-link, link-adjacent}
use Rattle.topology.specs.Paths.{Chain, Reaches}
use Rattle.topology.specs.Rounds.{reach_by, itself, after_round, reach_of}
use Rattle.topology.proofs.Chains.{chain-map}
use Rattle.topology.proofs.Laws.{same_step}
use Rattle.topology.proofs.RoundLaws.{round_keeps, adds_one, before_last, is_last, last-most, idle-all, more-all}
use Rattle.topology.proofs.RoundPaths.{reach-paths, itself-up, up-itself, start-below, near-below}
use Rattle.topology.proofs.RoundSame.{reach-same}

module _ (net : Network) (v : ℕ) where
  abbrev initial : ℕ → Bool
  initial = itself (node_works net v) v

  -- law: the set after the last round has w exactly where v works and a path of working links joins v and w
  pub rounds-reach : (w : ℕ) → (bit (reach_of net v).set w ≡ true) ↔ Reaches net v w
  unfolding reach_of
  rounds-reach w = (there, back)
    where
      law : (bit (reach_by net.nodes (itself (node_works net v) v) (adjacent net)).set w ≡ true)
          ↔ ((u : ℕ) × (itself (node_works net v) v u ≡ true) × Chain (λ x y. adjacent net x y ≡ true) u w)
      law = reach-paths net.nodes (itself (node_works net v) v) (adjacent net) (start-below net v) (λ x y l i e. (near-below net v x y e).1) w

      there : bit (reach_by net.nodes (itself (node_works net v) v) (adjacent net)).set w ≡ true → Reaches net v w
      there e =
          let f = law.0 e in
          let at = itself-up (node_works net v) v f.0 f.1 in
          (at.0, chain-map (adjacent-link net) (subst (λ (x : ℕ). Chain (λ x y. adjacent net x y ≡ true) x w) at.1 f.2))

      back : Reaches net v w → bit (reach_by net.nodes (itself (node_works net v) v) (adjacent net)).set w ≡ true
      back h = law.1 (v, up-itself (node_works net v) v h.0, chain-map (link-adjacent net) h.1)

  -- no round loses a node
  pub rounds-keep : (k w : ℕ) → after_round net v k w ≡ true → after_round net v (suc k) w ≡ true
  rounds-keep = round_keeps net.nodes initial (adjacent net)

  -- the set grows in every round before the last: round k + 1 adds a node
  pub rounds-grow : (k : ℕ) → suc k < (reach_of net v).rounds → (w : ℕ) × (after_round net v (suc k) w ≡ true) × (after_round net v k w ≡ false)
  unfolding reach_of
  rounds-grow k h =
      let f = adds_one net.nodes initial (adjacent net) k (before_last net.nodes initial (adjacent net) k h) in
      (f.0, f.2, f.3)

  -- the last adds none
  pub rounds-end : (k : ℕ) → (reach_of net v).rounds ≡ suc k → (w : ℕ) → after_round net v (suc k) w ≡ after_round net v k w
  unfolding reach_of
  rounds-end k e w =
      idle-all net.nodes initial (adjacent net) (start-below net v) (λ x y s. (near-below net v x y s).1) k w
      (is_last net.nodes initial (adjacent net) k e).idle

  -- one round more changes nothing, nor do any number of them
  pub rounds-more : (j w : ℕ) → after_round net v (j + (reach_of net v).rounds) w ≡ after_round net v (reach_of net v).rounds w
  unfolding reach_of
  rounds-more = more-all net.nodes initial (adjacent net) (start-below net v) (λ x y s. (near-below net v x y s).1)

  -- the number is at most the count of nodes
  pub rounds-most : 0 < net.nodes → (reach_of net v).rounds ≤ net.nodes
  unfolding reach_of
  rounds-most = last-most net.nodes initial (adjacent net)

-- the working nodes and links decide reach and rounds
pub same-reach : (nodes : ℕ) (links : List Link) (out other : Outage)
    → ((v : ℕ) → node_works (network_of nodes links out) v ≡ node_works (network_of nodes links other) v)
    → ((i : ℕ) → link_works (network_of nodes links out) i ≡ link_works (network_of nodes links other) i)
    → (v : ℕ) → reach_of (network_of nodes links out) v ≡ reach_of (network_of nodes links other) v
unfolding reach_of
same-reach nodes links out other same_nodes same-links v =
    reach-same nodes nodes _ _ (adjacent (network_of nodes links out)) (adjacent (network_of nodes links other))
    (omega arith)
    (λ w. ap (λ (up : Bool). itself up v w) (same_nodes v))
    near
    (start-below (network_of nodes links out) v)
    (near-below (network_of nodes links out) v)
  where
    near : (u w : ℕ) → adjacent (network_of nodes links out) u w ≡ adjacent (network_of nodes links other) u w
    near u w =
        same_bool _ _
        (λ e. link-adjacent _ u w (same_step nodes links out other same_nodes same-links u w (adjacent-link _ u w e)))
        (λ e. link-adjacent _ u w (same_step nodes links other out (λ x. sym (same_nodes x)) (λ i. sym (same-links i)) u w (adjacent-link _ u w e)))

-- below a count two tests agree, and so they do where a number has to be below it
masked : (k i : ℕ) (a b : Bool) → (i < k → a ≡ b) → (ltb i k && not a) ≡ (ltb i k && not b)
masked k i a b same = go (dec_lt i k)
  where
    go : Dec (i < k) → (ltb i k && not a) ≡ (ltb i k && not b)
    go (yes l) = ap (λ (x : Bool). ltb i k && not x) (same l)
    go (no n) =
        let past : ltb i k ≡ false = le-ltb i k (omega arith) in
        rw past

-- so what stands in a set of failed nodes or links past the counts changes nothing
module _ (nodes : ℕ) (links : List Link) (out other : Outage)
    (same_nodes : (v : ℕ) → v < nodes → bit out.nodes v ≡ bit other.nodes v)
    (same-links : (i : ℕ) → i < length links → bit out.links i ≡ bit other.links i)
  where
    node-same : (v : ℕ) → node_works (network_of nodes links out) v ≡ node_works (network_of nodes links other) v
    unfolding node_works
    node-same v = masked nodes v (bit out.nodes v) (bit other.nodes v) (same_nodes v)

    link-same : (i : ℕ) → link_works (network_of nodes links out) i ≡ link_works (network_of nodes links other) i
    unfolding link_works
    link-same i =
        ap₂ ◌&&◌
        (masked (length links) i (bit out.links i) (bit other.links i) (same-links i))
        (ap₂ ◌&&◌ (node-same (link_at links i).low) (node-same (link_at links i).high))

    pub past-counts : (v : ℕ) → reach_of (network_of nodes links out) v ≡ reach_of (network_of nodes links other) v
    past-counts = same-reach nodes links out other node-same link-same
