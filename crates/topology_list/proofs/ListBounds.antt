-- A topology of three words disconnects the pairs that the topology itself disconnects.
-- Assumes nothing.
use mathlib.Core.Path.{◌≡◌, refl, sym, ap, ap₂, ◌∙◌}
use mathlib.Core.Bool.{Bool, true, false, not, ◌&&◌, not-not}
use mathlib.Core.List.{List, [], ◌∷◌}
use Prim.Native.Nat.{ℕ, ◌+◌, ◌-◌, ◌<◌, ◌≤◌}
use native.Mathlib.Decide.{dec_lt}
use native.Mathlib.Omega.{arith}
use borrow.Author.Tests.{lt-ltb, le-ltb}
use lib.Dec.{ltb}
use lib.ListN.{length}
use Rattle.sets.specs.Sets.{bit, joined, set_where}
use Rattle.sets.proofs.Laws.{bit-joined-low, bit-joined-high}
use Rattle.plan.specs.Plan.{Link, link_at}
use Rattle.network.specs.Outage.{Outage}
use Rattle.network.specs.Topology.{Network, network_of, node_works, link_works}
use Rattle.topology.specs.Paths.{disconnected}
use Rattle.topology.proofs.Laws.{same-working}
use Rattle.walk.specs.Scenario.{Scenario}
use Rattle.walk.specs.Ends.{End, dropped, relevant, sum_ends}
use Rattle.topology_list.specs.TopologyList.{topology_in}
use Rattle.sets.proofs.WhereLaws.{set-lt, set-bit}
use Rattle.topology_list.specs.ListBounds.{down_in}

-- ---- the three words fix what works

module _ (nodes : ℕ) (links : List Link) (out : Outage) (few : nodes ≤ 64) (few_links : length links ≤ 128) where
  abbrev net : Network
  net = network_of nodes links out

  abbrev again : Network
  again = network_of nodes links (down_in (topology_in net))

  node-bit : (v : ℕ) → v < 64 → bit (down_in (topology_in net)).nodes v ≡ not (node_works net v)
  unfolding topology_in
  node-bit v h = set-bit (λ v. not (bit (set_where (node_works net) 64) v)) 64 v h ∙ ap not (set-bit (node_works net) 64 v h)

  same-node : (v : ℕ) → node_works again v ≡ node_works net v
  unfolding node_works
  same-node v = go (dec_lt v nodes)
    where
      go : Dec (v < nodes) → (ltb v nodes && not (bit (down_in (topology_in net)).nodes v)) ≡ (ltb v nodes && not (bit out.nodes v))
      go (yes l) =
          ap₂ ◌&&◌ (lt-ltb v nodes l) (ap not (node-bit v (omega arith)) ∙ not-not (node_works net v))
      go (no n) = rw (le-ltb v nodes (omega arith))

  -- the two words of the links, as one set
  link-bit : (i : ℕ) → i < 128 → Dec (i < 64) → bit (joined (topology_in net).low (topology_in net).high) i ≡ link_works net i
  unfolding topology_in
  link-bit i h (yes l) = bit-joined-low 64 (set_where (link_works net) 64) _ i (set-lt (link_works net) 64) l ∙ set-bit (link_works net) 64 i l
  link-bit i h (no n) =
      let is : i ≡ 64 + (i - 64) = omega arith in
      ap (bit (joined (set_where (link_works net) 64) (set_where (λ j. link_works net (64 + j)) 64))) is
      ∙ bit-joined-high 64 (set_where (link_works net) 64) _ (i - 64) (set-lt (link_works net) 64)
      ∙ set-bit (λ j. link_works net (64 + j)) 64 (i - 64) (omega arith)
      ∙ ap (link_works net) (sym is)

  down-link : (i : ℕ) → i < 128 → not (bit (down_in (topology_in net)).links i) ≡ link_works net i
  down-link i h =
      ap not (set-bit (λ j. not (bit (joined (topology_in net).low (topology_in net).high) j)) 128 i h ∙ ap not (link-bit i h (dec_lt i 64)))
      ∙ not-not (link_works net i)

  twice : (a b : Bool) → ((a && b) && b) ≡ (a && b)
  twice true true = refl
  twice true false = refl
  twice false b = refl

  same-link : (i : ℕ) → link_works again i ≡ link_works net i
  unfolding link_works
  same-link i = go (dec_lt i (length links))
    where
      ends : Bool
      ends = node_works net (link_at links i).low && node_works net (link_at links i).high

      go : Dec (i < length links) → link_works again i ≡ link_works net i
      go (yes l) =
          ap₂ ◌&&◌
          (ap₂ ◌&&◌ (lt-ltb i (length links) l) (down-link i (omega arith)))
          (ap₂ ◌&&◌ (same-node (link_at links i).low) (same-node (link_at links i).high))
          ∙ twice (ltb i (length links) && not (bit out.links i)) ends
      go (no n) = rw (le-ltb i (length links) (omega arith))

  -- law: a topology of three words disconnects the pairs that the topology itself disconnects
  pub same-cut : (v w : ℕ) → disconnected again v w ≡ disconnected net v w
  same-cut = same-working nodes links (down_in (topology_in net)) out same-node same-link

-- sums of equal values
pub same_sum : (f g : Scenario → ℕ → ℕ) → ((s : Scenario) (m : ℕ) → f s m ≡ g s m) → (list : List End) → sum_ends f list ≡ sum_ends g list
same_sum f g e [] = refl
same_sum f g e (dropped ∷ list) = same_sum f g e list
same_sum f g e (relevant s m ∷ list) = ap₂ ◌+◌ (e s m) (same_sum f g e list)
