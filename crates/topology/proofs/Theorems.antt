-- What "disconnected" means, and that failing more never connects more: document 01, section "Effective topology".
-- Assumes nothing.
use mathlib.Core.Path.{◌≡◌}
use mathlib.Core.Bool.{true, false, not, ◌&&◌}
use mathlib.Core.List.{List}
use mathlib.Core.Logic.{inl, inr, ⊎_elim, ◌↔◌}
use Prim.Native.Nat.{ℕ}
use lib.Dec.{ltb}
use lib.ListN.{length}
use Rattle.sets.specs.Sets.{bit}
use Rattle.sets.proofs.Bools.{and_left, and_right, and_both, so-unless, clash, not_so, not-of, of-not, which}
use Rattle.plan.specs.Plan.{Link, Event, link_at}
use Rattle.network.specs.Outage.{Outage, union_of, outage_of}
use Rattle.network.specs.Topology.{Network, network_of, node_works, link_works, has_ends, joins, WorkingLink}
use Rattle.topology.specs.Paths.{WorkingPath, Disconnected, disconnected}
use Rattle.topology.proofs.Chains.{chain-map}
use Rattle.topology.proofs.Connection.{connected-is}
use Rattle.network.proofs.FailingLaws.{union-from, union-start, union-event}

module _ (net : Network) where
  -- the Bool `disconnected` is true exactly where two nodes are disconnected
  pub disconnected-is : (v w : ℕ) → (disconnected net v w ≡ true) ↔ Disconnected net v w
  disconnected-is v w = (there, back)
    where
      there : disconnected net v w ≡ true → Disconnected net v w
      there e =
          ⊎_elim
          (λ a. ⊎_elim (λ b. inr (inr (λ p. clash e ((connected-is net v w).1 (a, b, p))))) (λ b. inr (inl b)) (which (node_works net w)))
          (λ a. inl a)
          (which (node_works net v))

      refuted : Disconnected net v w → (node_works net v ≡ true) × (node_works net w ≡ true) × WorkingPath net v w → ⊥
      refuted (inl a) h = clash h.0 a
      refuted (inr (inl b)) h = clash h.1 b
      refuted (inr (inr n)) h = n h.2

      back : Disconnected net v w → disconnected net v w ≡ true
      back d = ⊎_elim (λ e. e) (λ e. absurd (refuted d ((connected-is net v w).0 e))) (which (disconnected net v w))

-- every element of one set is one of the other
abbrev pub Within : ℕ → ℕ → Type 0
Within a b = (i : ℕ) → bit a i ≡ true → bit b i ≡ true

-- all that has failed in one outage has failed in the other
abbrev pub NoBetter : Outage → Outage → Type 0
NoBetter out more = Within out.nodes more.nodes × Within out.links more.links

kept : (a b : ℕ) → Within a b → (i : ℕ) → not (bit b i) ≡ true → not (bit a i) ≡ true
kept a b h i e = not-of _ (not_so _ (λ t. clash (h i t) (of-not _ e)))

module _ (nodes : ℕ) (links : List Link) (out more : Outage) (worse : NoBetter out more) where
  node_kept : (v : ℕ) → node_works (network_of nodes links more) v ≡ true → node_works (network_of nodes links out) v ≡ true
  unfolding node_works
  node_kept v e =
      let here = ltb v nodes in
      let intact = not (bit more.nodes v) in
      and_both here _ (and_left here intact e) (kept _ _ worse.0 v (and_right here intact e))

  link-kept : (i : ℕ) → link_works (network_of nodes links more) i ≡ true → link_works (network_of nodes links out) i ≡ true
  unfolding link_works
  link-kept i e =
      let here = ltb i (length links) in
      let intact = not (bit more.links i) in
      let low = node_works (network_of nodes links more) (link_at links i).low in
      let high = node_works (network_of nodes links more) (link_at links i).high in
      let initial = and_left (here && intact) (low && high) e in
      let both = and_right (here && intact) (low && high) e in
      and_both (here && not (bit out.links i)) _
      (and_both here _ (and_left here intact initial) (kept _ _ worse.1 i (and_right here intact initial)))
      (and_both (node_works (network_of nodes links out) (link_at links i).low) _ (node_kept _ (and_left low high both)) (node_kept _ (and_right low high both)))

  step_kept : (v w : ℕ) → WorkingLink (network_of nodes links more) v w → WorkingLink (network_of nodes links out) v w
  unfolding joins
  step_kept v w s =
      let up = link_works (network_of nodes links more) s.0 in
      let at = has_ends (link_at links s.0) v w in
      (s.0, and_both (link_works (network_of nodes links out) s.0) at (link-kept s.0 (and_left up at s.1)) (and_right up at s.1))

  -- "failing more never connects more"
  pub never-connects : (v w : ℕ) → disconnected (network_of nodes links out) v w ≡ true → disconnected (network_of nodes links more) v w ≡ true
  never-connects v w e = so-unless _ undone
    where
      undone : disconnected (network_of nodes links more) v w ≡ false → ⊥
      undone f =
          let h = (connected-is (network_of nodes links more) v w).0 f in
          clash e ((connected-is (network_of nodes links out) v w).1 (node_kept v h.0, node_kept w h.1, chain-map step_kept h.2))

-- with more failed at the start and more events failing, no less has failed
union-grows : (part : Event → ℕ) (events : List Event) (start start' failing failing' : ℕ) → Within start start' → Within failing failing'
    → Within (union_of part start events failing) (union_of part start' events failing')
union-grows part events start start' failing failing' s f v e =
    ⊎_elim
    (λ h. union-start part events start' failing' v (s v h))
    (λ n. union-event part events start' failing' v (n.0, n.1, f n.0 n.2, n.3))
    (union-from part events start failing v e)

pub outage-grows : (events : List Event) (start start' : Outage) (failing failing' : ℕ) → NoBetter start start' → Within failing failing'
    → NoBetter (outage_of start events failing) (outage_of start' events failing')
outage-grows events start start' failing failing' s f = (
  union-grows (λ e. e.nodes) events start.nodes start'.nodes failing failing' s.0 f,
  union-grows (λ e. e.links) events start.links start'.links failing failing' s.1 f,
)
